use Rattle.operator_cli.proofs.CommandLaws.{outcome_printed}
use Rattle.operator_cli.proofs.outcome.print_outcome.Goals as goal

pub returns : goal.returns
returns g c =
    outcome_printed (g.W.Write.contents c.args.out.now) (g.W.Write.contents c.write_outcome-came.new.out) (g.W.Write.contents c.ended.new.out)
    (g.E.Write.contents c.args.err.now) (g.E.Write.contents c.ended.new.err) c.ended.result
    c.ended.ensures.kept c.ended.ensures.told c.args.outcome.now c.write_outcome-came.result c.write_outcome-came.ensures c.ended.ensures.line
    c.ended.ensures.flush c.ended.ensures.status
