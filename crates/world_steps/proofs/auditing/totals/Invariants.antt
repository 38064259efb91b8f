use Rattle.std.proofs.Common.{◌*◌}
use Rattle.rights_lattice.specs.Cells.{greatest_value}
use Rattle.world_steps.specs.Reaching.{AreAtMost}
use Rattle.world_steps.specs.Audit.{books_of}
use Rattle.book_core.specs.Books.{history_among}
use Rattle.world_steps.proofs.Totals.{AreOwn}
use Rattle.world_steps.proofs.auditing.totals.Given as goal

abbrev pub invariant-loop-book : goal.invariant-loop-book
invariant-loop-book l = record {
  own : AreOwn l.book-index (history_among (books_of l.books)) l.event l.totals;
  bound : AreAtMost (greatest_value * l.book-index) l.totals;
}
