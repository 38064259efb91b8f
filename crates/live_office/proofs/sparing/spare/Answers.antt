use Rattle.std.proofs.Common.{rules}
use Rattle.live_office.proofs.sparing.spare.Goals as goal

pub returns-then-is_reserved : goal.returns-then-is_reserved
returns-then-is_reserved g c = (search rules, c.is_reserved.ensures.reserved c.if-is_reserved.true)
