-- What `shares` and `left` print of a book, added up over its sites. (That the counter's value is the sum of the local rights: SRDS 2015,
-- Balegas et al.; the rows: our own.)
use Rattle.std.specs.Prelude.{◌≡◌, ◌↔◌, ℕ, ◌<◌, ◌≤◌, List, map, sum, slice_get, Some}
use Rattle.rights_lattice.specs.Sums.{max_sites}
use Rattle.local_rights.specs.OpenSeats.{open_seats_in}
use Rattle.book_core.specs.BookView.{BookView}
use Rattle.book_core.specs.Decision.{own_left, sites_of}
use Rattle.book_core.specs.History.{state_of}
use Rattle.book_core.specs.Legal.{IsLegal}
use Rattle.site_desk.specs.declared.answer.SiteShare.{SiteShare}
use Rattle.site_desk.specs.Shares.{shares_in}

-- a book of a site that it counts, of no more sites than there may be, with a legal history
pub record IsOfSite (book : BookView) : Type 0 where
  pub own : book.office.me < book.office.sites
  pub few : sites_of book.office book.history ≤ max_sites
  pub legal : IsLegal book.office book.history

-- each row has a `left`, and they add up to so many seats
abbrev pub AddUpTo : ℕ → List SiteShare → Type 0
AddUpTo seats rows =
    (lefts : List ℕ) × (map (λ (row : SiteShare). row.left) rows ≡ map Some lefts) × (sum lefts ≡ seats)

-- A view is possible, with so many open seats, exactly where each site's row has a `left` and they add up to those seats.
abbrev pub SharesAddUp : Type 0
SharesAddUp = (book : BookView) (event : List ℕ) (seats : ℕ) → IsOfSite book
    → (open_seats_in (state_of book.history).cells event ≡ Some seats)
    ↔ AddUpTo seats (shares_in book event)

-- The row of the book's own site has what `left` prints.
abbrev pub OwnShareIsLeft : Type 0
OwnShareIsLeft = (book : BookView) (event : List ℕ) → IsOfSite book
    → (row : SiteShare) × (slice_get (shares_in book event) book.office.me ≡ Some row)
    × (row.left ≡ Some (own_left book.office book.history event))
