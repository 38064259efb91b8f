use Rattle.live_office.proofs.Talks.{SoFar}
use Rattle.live_office.proofs.talking.talk_over.Given as goal

abbrev pub invariant-lines : goal.invariant-lines
invariant-lines g l = SoFar g.H.Handler.handles (g.R.Read.remaining l.fn.reader) (g.R.Read.remaining l.reader) (g.W.Write.contents l.fn.out)
    (g.W.Write.contents l.out) l.fn.handler l.handler l.count
