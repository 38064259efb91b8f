use Rattle.operator_cli.proofs.ScriptLaws.{SoFar}
use Rattle.operator_cli.proofs.world.reply_all.Given as goal

abbrev pub invariant-lines : goal.invariant-lines
invariant-lines g l = SoFar (g.R.Read.remaining l.fn.reader) (g.R.Read.remaining l.reader) (g.W.Write.contents l.fn.out) (g.W.Write.contents l.out)
    l.fn.world l.world l._count
