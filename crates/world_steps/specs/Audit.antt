-- The stopped books of all sites side by side, with no premise on the messages that they took. (Our own.)
use Rattle.std.specs.Prelude.{ℕ, List, length, map}
use Rattle.std.specs.Borrow.{Bor}
use Rattle.local_rights.specs.declared.seat_totals.Totals.{Totals}
use Rattle.book_core.specs.BookView.{BookView}
use Rattle.book_core.specs.Books.{history_among}
pub use Rattle.world_steps.specs.Sites.{AreSites, IsFirstAhead, IsFirstPassed, IsWhole, NoneIsAhead, SeesNoneAbove, StandsAt}
use Rattle.world_steps.specs.World.{totals_below, events_below}

-- the books that a slice refers to
abbrev pub books_of : List (Bor BookView) → List BookView
books_of books = map (λ book. book.now) books

-- what all books released, sold and took back of an event
abbrev pub totals_in : List BookView → List ℕ → Totals
totals_in books = totals_below (length books) (history_among books)

-- the names that a book knows, rising, each once
abbrev pub events_in : List BookView → List (List ℕ)
events_in books = events_below (length books) (history_among books)

-- each of these names with its sums
abbrev pub lines_in : List BookView → List (List ℕ × Totals)
lines_in books = map (λ event. (event, totals_in books event)) (events_in books)
