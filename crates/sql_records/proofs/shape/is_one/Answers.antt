use Rattle.std.proofs.Common.{◌∙◌, arith}
use Rattle.std.proofs.lemmas.Bool.{leb-true}
use Rattle.sql_records.proofs.CheckLemmas.{no_such}
use Rattle.sql_records.proofs.shape.is_one.Goals as goal

pub returns-else-len-ge2 : goal.returns-else-len-ge2
returns-else-len-ge2 c = (
  λ e. absurd (omega (arith, leb-true 2 c.len.result e)),
  λ e. absurd (no_such c.checks.inside.nodes c.checks.inside.roots (omega arith) (c.checks.view_is ∙ e)),
)
