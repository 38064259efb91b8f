-- Histories of sites, entry by entry, whoever entered them and by whatever calls. (Our own.)
use Rattle.std.specs.Prelude.{◌≡◌, ℕ, List, [], ◌∷◌, ◌++◌, set, slice_get, Some}
use Rattle.rights_lattice.specs.State.{AtOrBelow}
use Rattle.book_core.specs.declared.entry.Entry.{Entry}
use Rattle.book_core.specs.declared.entry.Entry.TheVariants.{Asked, Joined, Grown}
use Rattle.book_core.specs.BookView.{BookView}
use Rattle.book_core.specs.Books.{AreNotOversold}
use Rattle.book_core.specs.History.{state_of}
use Rattle.world_steps.specs.Sites.{AreSites, IsFirstAhead}

-- A peer's delta is at or below what that peer has.
abbrev pub WasHeld : List BookView → Entry → Type 0
WasHeld books (Asked number request reply delta) = Unit {0}
WasHeld books (Joined peer delta) = (sender : BookView) × (slice_get books peer ≡ Some sender) × AtOrBelow delta (state_of sender.history)
WasHeld books (Grown sites) = Unit {0}

-- the book with one entry more
abbrev pub with_next : BookView → Entry → BookView
with_next book entry = record book { history = book.history ++ entry ∷ [] }

-- The entries are added one after another, each at its site. Each may be added to the books as they are then.
abbrev pub AreAdded : (List BookView → Entry → Type 0) → List (ℕ × Entry) → List BookView → List BookView → Type 0
AreAdded May [] books end = end ≡ books
AreAdded May (e ∷ es) books end =
    (old : BookView) × (slice_get books e.0 ≡ Some old) × May books e.1 × AreAdded May es (set books e.0 (with_next old e.1)) end

-- So were these entries, and each peer's delta was at or below what that peer had by then.
abbrev pub AreEntered : List (ℕ × Entry) → List BookView → List BookView → Type 0
AreEntered entries books end = AreAdded WasHeld entries books end

-- Each book is at the place of its site, and has no entry.
pub record AreEmpty (books : List BookView) : Type 0 where
  pub numbered : (k : ℕ) (book : BookView) → slice_get books k ≡ Some book → book.office.me ≡ k
  pub empty : (k : ℕ) (book : BookView) → slice_get books k ≡ Some book → book.history ≡ []

-- Legal histories of all sites are not oversold if, in some order of all their entries, each delta that was joined was at or below what its
-- sender had by then.
abbrev pub EntriesNeverOversell : Type 0
EntriesNeverOversell = (entries : List (ℕ × Entry)) (begin end : List BookView) → AreEmpty begin → AreEntered entries begin end → AreSites end
    → AreNotOversold end

-- Nor does an audit of them find a book ahead.
abbrev pub NoAuditIsAhead : Type 0
NoAuditIsAhead = (entries : List (ℕ × Entry)) (begin end : List BookView) → AreEmpty begin → AreEntered entries begin end → AreSites end → (v o : ℕ)
    → IsFirstAhead end v o → ⊥
