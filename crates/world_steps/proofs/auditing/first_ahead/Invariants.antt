use Rattle.std.proofs.Common.{◌≡◌, ◌<◌, ℕ}
use Rattle.std.specs.Prelude.{Some, slice_get}
use Rattle.book_core.specs.BookView.{BookView}
use Rattle.world_steps.specs.Audit.{books_of}
use Rattle.world_steps.specs.Sites.{SeesNoneAbove}
use Rattle.world_steps.proofs.auditing.first_ahead.Given as goal

abbrev pub invariant-loop-viewer : goal.invariant-loop-viewer
invariant-loop-viewer l = (v : ℕ) (other : BookView) → v < l.viewer-index → slice_get (books_of l.books) v ≡ Some other → SeesNoneAbove (books_of l.books) other
