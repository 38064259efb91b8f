use Rattle.session_server.proofs.Sessions.{SoFar}
use Rattle.session_server.proofs.talk_over.talk_over.Given as goal

abbrev pub invariant-lines : goal.invariant-lines
invariant-lines g l = SoFar g.A.Answerer.step (g.R.Read.remaining l.fn.reader) (g.R.Read.remaining l.reader) (g.W.Write.contents l.fn.out)
    (g.W.Write.contents l.out) l.fn.answerer l.answerer l._count
