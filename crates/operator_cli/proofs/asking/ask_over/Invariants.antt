use Rattle.live_office.proofs.Talks.{SoFar}
use Rattle.operator_cli.specs.Asking.{IsAnsweredBy, channel}
use Rattle.operator_cli.proofs.asking.ask_over.Given as goal

abbrev pub invariant-lines : goal.invariant-lines
invariant-lines g l =
    SoFar IsAnsweredBy (g.R.Read.remaining l.fn.input) (g.R.Read.remaining l.input) (g.W.Write.contents l.fn.out) (g.W.Write.contents l.out)
    (channel (g.Q.Write.contents l.fn.questions) (g.A.Read.remaining l.fn.answers))
    (channel (g.Q.Write.contents l.questions) (g.A.Read.remaining l.answers)) l._count
