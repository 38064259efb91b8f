use Rattle.operator_cli.specs.Visits.{IsBringEnd, IsBroughtText}
use Rattle.operator_cli.proofs.EndLaws.{fails_for}
use Rattle.operator_cli.proofs.PrintLaws.{ends_printed}
use Rattle.operator_cli.proofs.VisitLaws.{bring_ends, some_unless_failed}
use Rattle.operator_cli.proofs.bringing.bring_over.Goals as goal

pub returns-clause-whole : goal.returns-clause-whole
returns-clause-whole g c =
    some_unless_failed (g.R.Read.remaining c.args.input) _ c.bring_input-came.result c.ended.result c.bring_input-came.ensures.whole c.ended.ensures.status

pub returns-clause-printed : goal.returns-clause-printed
returns-clause-printed g c =
    ends_printed (IsBroughtText (g.R.Read.remaining c.args.input) (g.A.Read.remaining c.args.answers.now)) (g.W.Write.contents c.args.out.now)
    (g.W.Write.contents c.bring_input-came.new.out) (g.W.Write.contents c.ended.new.out) c.bring_input-came.result c.ended.result
    c.bring_input-came.ensures.printed c.ended.ensures.kept c.ended.ensures.status

pub returns-clause-cause : goal.returns-clause-cause
returns-clause-cause g c =
    let sent = g.A.Read.remaining c.args.answers.now in
    fails_for (IsBringEnd sent) (g.E.Write.contents c.args.err.now) (g.E.Write.contents c.ended.new.err) c.bring_input-came.result c.ended.result
    c.bring_input-came.ensures.cause
    (bring_ends c.bring_input-came.result sent) c.bring_input-came.ensures.ends c.ended.ensures.line c.ended.ensures.flush
