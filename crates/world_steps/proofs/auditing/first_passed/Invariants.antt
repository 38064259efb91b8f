use Rattle.std.proofs.Common.{◌≡◌, ◌<◌, ℕ}
use Rattle.std.specs.Prelude.{Some, slice_get}
use Rattle.book_core.specs.BookView.{BookView, SeesWithin}
use Rattle.world_steps.specs.Audit.{books_of}
use Rattle.world_steps.proofs.auditing.first_passed.Given as goal

abbrev pub invariant-loop-owner : goal.invariant-loop-owner
invariant-loop-owner l = (p : ℕ) (other : BookView) → p < l.owner-index → slice_get (books_of l.books) p ≡ Some other → SeesWithin l.viewer other
