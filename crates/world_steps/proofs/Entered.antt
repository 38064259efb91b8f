-- No entry that is legal, and whose delta its sender had, lets a book show more of a row than the row's owner does.
use Rattle.std.proofs.Common.{◌≡◌, ◌≢◌, ◌⊎◌, inl, inr, ℕ, zero, suc, ◌≤◌, Bool, true, false, List, [], ◌∷◌, ◌++◌, Some, refl, sym, ap, ◌∙◌, subst, arith, set, length, take, append-nil}
use Rattle.std.specs.Prelude.{slice_get}
use Rattle.std.proofs.lemmas.Bool.{cases_eq}
use Rattle.std.proofs.lemmas.Option.{same_Some}
use Rattle.rights_lattice.specs.declared.cell.Cell.{Cell}
use Rattle.rights_lattice.specs.Cell.{owner_of, same_cell, same_event}
use Rattle.rights_lattice.specs.Cells.{value_at}
use Rattle.rights_lattice.specs.State.{At, State}
use Rattle.rights_lattice.proofs.CellLaws.{value_at-all_zero}
use Rattle.rights_lattice.proofs.SpotLaws.{same_cell_is}
use Rattle.book_core.specs.declared.entry.Entry.{Entry}
use Rattle.book_core.specs.declared.entry.Entry.TheVariants.{Asked, Joined, Grown}
use Rattle.book_core.specs.BookView.{BookView}
use Rattle.book_core.specs.Decision.{Change, cell_of, delta_for}
use Rattle.book_core.specs.History.{state_of}
use Rattle.book_core.specs.Legal.{IsLegal, IsNext}
use Rattle.book_core.proofs.Histories.{at-push}
use Rattle.book_core.proofs.Rows.{accepted, asked_at, gain, grown_at, miss, own_cell}
use Rattle.std.specs.Prelude.{Option, None}
use Rattle.world_steps.specs.Sites.{AreSites, NoneIsAhead}
use Rattle.world_steps.specs.Entered.{AreEmpty, AreEntered, EntriesNeverOversell, NoAuditIsAhead, WasHeld, with_next}
use Rattle.world_steps.proofs.Audits.{audited}

-- what stands at a place behind a change: what was put there, or what stood there
found_after : {A : Type 0} (xs : List A) (i j : ℕ) (y x : A) → slice_get (set xs i y) j ≡ Some x → ((j ≡ i) × (x ≡ y)) ⊎ ((j ≢ i) × (slice_get xs j ≡ Some x))
found_after [] i j y x found = cc
found_after (z ∷ xs) zero zero y x found = inl (refl, cc)
found_after (z ∷ xs) zero (suc j) y x found = inr (λ e. cc, found)
found_after (z ∷ xs) (suc i) zero y x found = inr (λ e. cc, found)
found_after (z ∷ xs) (suc i) (suc j) y x found = elim (found_after xs i j y x found) [
  | inl p ↦ inl (ap suc p.0, p.1)
  | inr p ↦ inr (λ e. p.0 (omega (arith, e)), p.1)
]

abbrev Numbered : List BookView → Type 0
Numbered books = (k : ℕ) (book : BookView) → slice_get books k ≡ Some book → book.office.me ≡ k

abbrev shown : List Entry → List ℕ → Cell → ℕ
shown h event cell = value_at (state_of h).cells event cell

-- a cell only grows
grows : (h : List Entry) (entry : Entry) (event : List ℕ) (cell : Cell) → shown h event cell ≤ shown (h ++ entry ∷ []) event cell
grows h entry event cell = omega (arith, at-push h entry (At event cell))

-- an accepted change is of the own row
gain_other : (me : ℕ) (o : Option Change) (event : List ℕ) (cell : Cell) → owner_of cell ≢ me → gain me o event cell ≡ 0
gain_other me None event cell ne = refl
gain_other me (Some c) event cell ne = miss (same_event event c.event) (same_cell cell (cell_of me c.kind)) c.amount
    (by_test (same_cell cell (cell_of me c.kind)) refl)
  where
    by_test : (b : Bool) → same_cell cell (cell_of me c.kind) ≡ b → b ≡ false
    by_test true q = absurd (ne (ap owner_of (same_cell_is cell (cell_of me c.kind) q) ∙ own_cell me c.kind))
    by_test false q = refl

-- what the book shows of another row behind an entry is at or below what the row's owner shows
next_below : (books : List BookView) → NoneIsAhead books → (i : ℕ) (old : BookView) (entry : Entry) → slice_get books i ≡ Some old
    → IsNext old.office old.history entry → WasHeld books entry
    → (o : ℕ) (owner : BookView) → slice_get books o ≡ Some owner → (event : List ℕ) (cell : Cell) → owner_of cell ≡ owner.office.me
    → owner_of cell ≢ old.office.me
    → shown (old.history ++ entry ∷ []) event cell ≤ shown owner.history event cell
next_below books none i old (Asked number request reply delta) here next held o owner there event cell own ne =
    let same : shown (old.history ++ Asked number request reply delta ∷ []) event cell ≡ shown
    (old.history ++ Asked number request reply (delta_for old.office old.history request reply) ∷ []) event cell =
    ap (λ (d : State). shown (old.history ++ Asked number request reply d ∷ []) event cell) next.change in
    omega (
      arith,
      same,
      asked_at old.office old.history number request reply event cell,
      gain_other old.office.me (accepted old.history request reply) event cell ne,
      none i old here o owner there event cell own,
    )
next_below books none i old (Joined peer delta) here next held o owner there event cell own ne =
    omega (
      arith,
      at-push old.history (Joined peer delta) (At event cell),
      none i old here o owner there event cell own,
      held.2 (At event cell),
      none peer held.0 held.1 o owner there event cell own,
    )
next_below books none i old (Grown sites) here next held o owner there event cell own ne =
    omega (arith, grown_at old.history sites event cell, none i old here o owner there event cell own)

numbered_on : (books : List BookView) (i : ℕ) (old : BookView) (entry : Entry) → slice_get books i ≡ Some old → Numbered books
    → Numbered (set books i (with_next old entry))
numbered_on books i old entry here numbered k book found = elim (found_after books i k (with_next old entry) book found) [
  | inl p ↦ ap (λ (b : BookView). b.office.me) p.1 ∙ numbered i old here ∙ sym p.0
  | inr p ↦ numbered k book p.1
]

none_on : (books : List BookView) → Numbered books → NoneIsAhead books → (i : ℕ) (old : BookView) (entry : Entry) → slice_get books i ≡ Some old
    → IsNext old.office old.history entry → WasHeld books entry
    → NoneIsAhead (set books i (with_next old entry))
none_on books numbered none i old entry here next held v viewer seen o owner there event cell own =
    both (found_after books i v (with_next old entry) viewer seen) (found_after books i o (with_next old entry) owner there)
  where
    new : BookView
    new = with_next old entry

    both : ((v ≡ i) × (viewer ≡ new)) ⊎ ((v ≢ i) × (slice_get books v ≡ Some viewer))
        → ((o ≡ i) × (owner ≡ new)) ⊎ ((o ≢ i) × (slice_get books o ≡ Some owner)) → shown viewer.history event cell ≤ shown owner.history event cell
    both (inl p) (inl q) = omega (arith, ap (λ (b : BookView). shown b.history event cell) (p.1 ∙ sym q.1))
    both (inl p) (inr q) =
        let other : owner_of cell ≢ old.office.me = λ e. q.0 (sym (numbered o owner q.1) ∙ sym own ∙ e ∙ numbered i old here) in
        subst (λ (b : BookView). shown b.history event cell ≤ shown owner.history event cell) (sym p.1)
        (next_below books none i old entry here next held o owner q.1 event cell own other)
    both (inr p) (inl q) =
        let mine : owner_of cell ≡ old.office.me = own ∙ ap (λ (b : BookView). b.office.me) q.1 in
        let before : shown viewer.history event cell ≤ shown old.history event cell = none v viewer p.1 i old here event cell mine in
        let more : shown old.history event cell ≤ shown new.history event cell = grows old.history entry event cell in
        subst (λ (b : BookView). shown viewer.history event cell ≤ shown b.history event cell) (sym q.1) (omega (arith, before, more))
    both (inr p) (inr q) = none v viewer p.1 o owner q.1 event cell own

set_found : {A : Type 0} (xs : List A) (i : ℕ) (old y : A) → slice_get xs i ≡ Some old → slice_get (set xs i y) i ≡ Some y
set_found [] i old y found = cc
set_found (x ∷ xs) zero old y found = refl
set_found (x ∷ xs) (suc i) old y found = set_found xs i old y found

set_other : {A : Type 0} (xs : List A) (i j : ℕ) (y : A) → j ≢ i → slice_get (set xs i y) j ≡ slice_get xs j
set_other [] i j y ne = refl
set_other (x ∷ xs) zero zero y ne = absurd (ne refl)
set_other (x ∷ xs) zero (suc j) y ne = refl
set_other (x ∷ xs) (suc i) zero y ne = refl
set_other (x ∷ xs) (suc i) (suc j) y ne = set_other xs i j y (λ e. ne (ap suc e))

at_end : (h rest : List Entry) (e : Entry) → slice_get ((h ++ e ∷ []) ++ rest) (length h) ≡ Some e
at_end [] rest e = refl
at_end (x ∷ h) rest e = at_end h rest e

before_end : (h rest : List Entry) (e : Entry) → take (length h) ((h ++ e ∷ []) ++ rest) ≡ h
before_end [] rest e = refl
before_end (x ∷ h) rest e = ap (λ t. x ∷ t) (before_end h rest e)

more : (h rest : List Entry) (e : Entry) → (h ++ e ∷ []) ++ rest ≡ h ++ e ∷ rest
more [] rest e = refl
more (x ∷ h) rest e = ap (λ t. x ∷ t) (more h rest e)

-- the book at this place in the end goes on from this one
record EndsAs (end : List BookView) (i : ℕ) (book : BookView) : Type 0 where
  last : BookView
  there : slice_get end i ≡ Some last
  office : last.office ≡ book.office
  rest : List Entry
  history : last.history ≡ book.history ++ rest

ends : (entries : List (ℕ × Entry)) (books end : List BookView) → AreEntered entries books end → (i : ℕ) (book : BookView) → slice_get books i ≡ Some book
    → EndsAs end i book
ends [] books end entered i book here = record {
  last = book;
  there = subst (λ bs. slice_get bs i ≡ Some book) (sym entered) here;
  office = refl;
  rest = [];
  history = sym (append-nil book.history);
}
ends (e ∷ es) books end entered i book here = by_place (ends es (set books e.0 (with_next entered.0 e.1)) end entered.3 i) (cases_eq i e.0)
  where
    new : BookView
    new = with_next entered.0 e.1

    by_place : ((b : BookView) → slice_get (set books e.0 new) i ≡ Some b → EndsAs end i b) → (i ≡ e.0) ⊎ (i ≢ e.0) → EndsAs end i book
    by_place go (inr ne) = go book (set_other books e.0 i new ne ∙ here)
    by_place go (inl same) =
        let found : slice_get books e.0 ≡ Some book = subst (λ j. slice_get books j ≡ Some book) same here in
        let is : entered.0 ≡ book = same_Some entered.0 book (sym entered.1 ∙ found) in
        let r = go new (subst (λ j. slice_get (set books e.0 new) j ≡ Some new) (sym same) (set_found books e.0 entered.0 new entered.1)) in
        record {
          last = r.last;
          there = r.there;
          office = r.office ∙ ap (λ (b : BookView). b.office) is;
          rest = e.1 ∷ r.rest;
          history = r.history ∙ more entered.0.history r.rest e.1 ∙ ap (λ (b : BookView). b.history ++ e.1 ∷ r.rest) is;
        }

abbrev AllLegal : List BookView → Type 0
AllLegal books = (k : ℕ) (book : BookView) → slice_get books k ≡ Some book → IsLegal book.office book.history

-- an entry of a legal history was legal when it was added
was_next : (es : List (ℕ × Entry)) (books end : List BookView) → AllLegal end → (i : ℕ) (old : BookView) (entry : Entry) → slice_get books i ≡ Some old
    → AreEntered es (set books i (with_next old entry)) end → IsNext old.office old.history entry
was_next es books end legal i old entry here entered =
    let r = ends es (set books i (with_next old entry)) end entered i (with_next old entry) (set_found books i old (with_next old entry) here) in
    let all : IsLegal old.office ((old.history ++ entry ∷ []) ++ r.rest) = subst (λ h. IsLegal old.office h) r.history
    (subst (λ o. IsLegal o r.last.history) r.office (legal i r.last r.there)) in
    subst (λ h. IsNext old.office h entry) (before_end old.history r.rest entry) (all (length old.history) entry (at_end old.history r.rest entry))

none_ahead : (entries : List (ℕ × Entry)) (books end : List BookView) → AllLegal end → Numbered books → NoneIsAhead books → AreEntered entries books end
    → NoneIsAhead end
none_ahead [] books end legal numbered none entered = subst NoneIsAhead (sym entered) none
none_ahead (e ∷ es) books end legal numbered none entered =
    let old = entered.0 in
    none_ahead es (set books e.0 (with_next old e.1)) end legal (numbered_on books e.0 old e.1 entered.1 numbered)
    (none_on books numbered none e.0 old e.1 entered.1 (was_next es books end legal e.0 old e.1 entered.1 entered.3) entered.2) entered.3

-- at first no book shows more of a row than its owner, for none shows anything
none_at_first : (books : List BookView) → AreEmpty books → NoneIsAhead books
none_at_first books are v viewer seen o owner there event cell own =
    omega (arith, ap (λ (h : List Entry). shown h event cell) (are.empty v viewer seen), value_at-all_zero event cell)

held_none_ahead : (entries : List (ℕ × Entry)) (begin end : List BookView) → AreEmpty begin → AreEntered entries begin end → AreSites end → NoneIsAhead end
held_none_ahead entries begin end are entered sites = none_ahead entries begin end sites.legal are.numbered (none_at_first begin are) entered

pub entries_never_oversell : EntriesNeverOversell
entries_never_oversell entries begin end are entered sites = audited end sites (held_none_ahead entries begin end are entered sites)

pub no_audit_is_ahead : NoAuditIsAhead
no_audit_is_ahead entries begin end are entered sites v o ahead =
    ahead.above.above (held_none_ahead entries begin end are entered sites v ahead.viewer ahead.there o ahead.above.owner ahead.above.there)
