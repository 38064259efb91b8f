-- The books of all sites, each at its place. (Our own.)
use Rattle.std.specs.Prelude.{◌≤◌, ℕ, List, [], get_or, length, map}
use Rattle.book_core.specs.declared.entry.Entry.{Entry}
use Rattle.book_core.specs.BookView.{BookView}
use Rattle.book_core.specs.Operations.{Operation, operations_below, outstanding, refunded, released, sold}

-- the history of the k-th book, and none past the last
abbrev pub history_among : List BookView → ℕ → List Entry
history_among books k = get_or (map (λ book. book.history) books) k []

-- the accepted requests of all books
abbrev pub operations_in : List BookView → List Operation
operations_in books = operations_below (length books) (history_among books)

-- The tickets outstanding over all books never exceed the seats released, and no more is given back than was sold.
abbrev pub AreNotOversold : List BookView → Type 0
AreNotOversold books = (event : List ℕ)
    → (outstanding event (operations_in books) ≤ released event (operations_in books))
    × (refunded event (operations_in books) ≤ sold event (operations_in books))
