use Rattle.operator_cli.proofs.EndLaws.{nothing_told}
use Rattle.operator_cli.proofs.ending.ended.Goals as goal

pub returns-in-Ok-flushed-clause-told : goal.returns-in-Ok-flushed-clause-told
returns-in-Ok-flushed-clause-told g c = nothing_told (g.E.Write.contents c.args.err.now) c.in-Ok-flushed.status
