use Rattle.operator_cli.proofs.VisitLaws.{passed_all, passed_more, passed_none, passed_off, passed_some}
use Rattle.operator_cli.proofs.visiting.pass_on.Goals as goal

pub lines-init : goal.lines-init
lines-init g c = passed_none _ _

pub lines-preserved : goal.lines-preserved
lines-preserved g c = passed_more _ _ _ _ _ _ c.lines.invariant (rw c.in-Ok-true.field-0-test at c.in-Ok-true.ensures.passed)

pub returns-in-Ok-false-clause-all : goal.returns-in-Ok-false-clause-all
returns-in-Ok-false-clause-all g c = passed_all _ _ _ _ _ _ c.lines.invariant (rw c.in-Ok-false.field-0-test at c.in-Ok-false.ensures.passed)

pub returns-in-Err-clause-some : goal.returns-in-Err-clause-some
returns-in-Err-clause-some g c =
    passed_off (g.A.Read.remaining c.args.answers.now) (g.A.Read.remaining c.lines.answers) (g.W.Write.contents c.args.out.now)
    (g.W.Write.contents c.lines.out) (g.W.Write.contents c.pass_next.new.out) c.lines.invariant c.in-Err.ensures.passed

pub returns-clause-some : goal.returns-clause-some
returns-clause-some g c = passed_some _ _ _ _ c.lines.invariant
