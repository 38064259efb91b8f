-- The books of all sites, each at its place, and which of them shows more of a site than that site's own book does. (Our own.)
use Rattle.std.specs.Prelude.{◌≡◌, ℕ, ◌<◌, ◌≤◌, List, length, slice_get, Some}
use Rattle.rights_lattice.specs.Sums.{max_sites}
use Rattle.book_core.specs.Decision.{sites_of}
use Rattle.book_core.specs.Legal.{IsLegal}
use Rattle.book_core.specs.BookView.{BookView, SeesWithin}

-- the book is of site k, and counts no more sites than these so far
pub record StandsAt (k sites : ℕ) (book : BookView) : Type 0 where
  pub site : book.office.me ≡ k
  pub count : sites_of book.office book.history ≤ sites

-- the k-th book is of site k, and counts no more sites than there are books
abbrev pub IsWhole : List BookView → Type 0
IsWhole books = (k : ℕ) (book : BookView) → slice_get books k ≡ Some book → StandsAt k (length books) book

-- as many books as there may be sites, each of a site that it counts, with a legal history
pub record AreSites (books : List BookView) : Type 0 where
  pub few : length books ≤ max_sites
  pub whole : IsWhole books
  pub own : (k : ℕ) (book : BookView) → slice_get books k ≡ Some book → book.office.me < book.office.sites
  pub legal : (k : ℕ) (book : BookView) → slice_get books k ≡ Some book → IsLegal book.office book.history

-- what this book shows of each row is at or below what the book of that row's owner shows of it
abbrev pub SeesNoneAbove : List BookView → BookView → Type 0
SeesNoneAbove books viewer = (o : ℕ) (owner : BookView) → slice_get books o ≡ Some owner → SeesWithin viewer owner

-- no book shows of a row more than its owner does
abbrev pub NoneIsAhead : List BookView → Type 0
NoneIsAhead books = (v : ℕ) (viewer : BookView) → slice_get books v ≡ Some viewer → SeesNoneAbove books viewer

-- the viewer shows more of the row of the o-th book than that book does, and no more than its owner of each row before
pub record IsFirstPassed (books : List BookView) (viewer : BookView) (o : ℕ) : Type 0 where
  pub owner : BookView
  pub there : slice_get books o ≡ Some owner
  pub above : SeesWithin viewer owner → ⊥
  pub before : (p : ℕ) (other : BookView) → p < o → slice_get books p ≡ Some other → SeesWithin viewer other

-- the v-th book is the first that shows more of a row than its owner does, and o is the first such owner
pub record IsFirstAhead (books : List BookView) (v o : ℕ) : Type 0 where
  pub viewer : BookView
  pub there : slice_get books v ≡ Some viewer
  pub above : IsFirstPassed books viewer o
  pub before : (w : ℕ) (other : BookView) → w < v → slice_get books w ≡ Some other → SeesNoneAbove books other
