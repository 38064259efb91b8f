use Rattle.operator_cli.proofs.VisitLaws.{PassedSome}
use Rattle.operator_cli.proofs.visiting.pass_on.Given as goal

abbrev pub invariant-lines : goal.invariant-lines
invariant-lines g l = PassedSome (g.A.Read.remaining l.fn.answers) (g.A.Read.remaining l.answers) (g.W.Write.contents l.fn.out) (g.W.Write.contents l.out)
