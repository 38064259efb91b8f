use Rattle.std.proofs.Common.{◌≤◌, ◌<◌, ◌≡◌, ℕ, length}
use Rattle.std.specs.Prelude.{Some, slice_get}
use Rattle.rights_lattice.specs.Sums.{max_sites}
use Rattle.book_core.specs.Legal.{IsLegal}
use Rattle.book_core.specs.BookView.{BookView}
use Rattle.world_steps.specs.Audit.{books_of}
use Rattle.world_steps.specs.Sites.{StandsAt}
use Rattle.world_steps.proofs.auditing.is_whole.Given as goal

abbrev pub invariant-loop-place : goal.invariant-loop-place
invariant-loop-place l = record {
  stand : (k : ℕ) (book : BookView) → k < l.place → slice_get (books_of l.books) k ≡ Some book
      → StandsAt k (length l.books) book × (book.office.me < book.office.sites) × IsLegal book.office book.history;
  few : l.place ≤ max_sites;
}
