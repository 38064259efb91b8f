use Rattle.std.proofs.Common.{rules}
use Rattle.session_server.specs.Exchanged.{IsEndOf}
use Rattle.session_server.proofs.Exchanges.{paired}
use Rattle.session_server.proofs.sending.+end_from.Goals as goal

pub returns-clause-ended : goal.returns-clause-ended
returns-clause-ended g t c = paired IsEndOf _ _ _ _ _ _ c.in-Some.ensures.items c.push_reserved.ensures.items c.end_from.ensures.ended (search rules)
