use Rattle.std.proofs.Common.{Some, rules, refl, lit<, codes}
use Rattle.book_core.specs.Limits.{greatest_limit}
use Rattle.desk_lines.proofs.ReadingLaws.{named_exactly}
use Rattle.desk_lines.proofs.script_lines.read_limit.Goals as goal

pub returns-in_err-entries-clause-only : goal.returns-in_err-entries-clause-only
returns-in_err-entries-clause-only c = (named_exactly (codes "limit") greatest_limit c.args.bytes.now _ (lit< tt) refl (search rules)).1

pub returns-clause-found : goal.returns-clause-found
returns-clause-found c = (named_exactly (codes "limit") greatest_limit c.args.bytes.now (Some c.in_ok-limit.limit) (lit< tt) refl (search rules)).0

pub returns-clause-only : goal.returns-clause-only
returns-clause-only c = (named_exactly (codes "limit") greatest_limit c.args.bytes.now (Some c.in_ok-limit.limit) (lit< tt) refl (search rules)).1
