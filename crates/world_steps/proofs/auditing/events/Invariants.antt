use Rattle.std.proofs.Common.{◌≡◌}
use Rattle.rights_lattice.specs.State.{names_in_order}
use Rattle.world_steps.specs.World.{known_below}
use Rattle.world_steps.specs.Audit.{books_of}
use Rattle.book_core.specs.Books.{history_among}
use Rattle.world_steps.proofs.auditing.events.Given as goal

abbrev pub invariant-loop-book : goal.invariant-loop-book
invariant-loop-book l = l.names.keys ≡ names_in_order (known_below l.book-index (history_among (books_of l.books)))
