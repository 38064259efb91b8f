use Rattle.std.proofs.Common.{◌≡◌, take}
use Rattle.rights_lattice.specs.State.{Names, names_in_order, with_names}
use Rattle.book_core.specs.History.{names_known}
use Rattle.world_steps.proofs.books.add_names.Given as goal

abbrev pub invariant-names : goal.invariant-names
invariant-names l = (known : Names) → l.fn.names.keys ≡ names_in_order known
    → l.names.keys ≡ names_in_order (with_names known (take l.place (names_known l.book.history)))
