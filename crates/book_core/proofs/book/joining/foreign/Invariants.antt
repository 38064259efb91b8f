use Rattle.std.proofs.Common.{◌≡◌, drop}
use Rattle.book_core.specs.Joining.{foreign}
use Rattle.book_core.proofs.book.joining.foreign.Given as goal

abbrev pub invariant-loop-mark : goal.invariant-loop-mark
invariant-loop-mark l = foreign l.me l.rights.cells (drop l.mark-index l.marks) ≡ foreign l.me l.rights.cells l.marks
