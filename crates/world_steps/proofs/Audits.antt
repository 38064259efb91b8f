-- Books side by side: walks over them, and what legal books of all sites add up to.
use Rattle.std.proofs.Common.{◌≡◌, ℕ, zero, suc, ◌+◌, ◌≤◌, ◌<◌, List, [], ◌∷◌, length, map, get_or, inl, inr, Option, Some, None, refl, sym, ap, ◌∙◌, subst, arith, Bor}
use Rattle.std.specs.Prelude.{slice_get}
use Rattle.std.proofs.lemmas.Bool.{cases_lt}
use Rattle.std.proofs.lemmas.Option.{slice_get_within}
use Rattle.rights_lattice.specs.declared.cell.Cell.{Cell}
use Rattle.rights_lattice.specs.declared.cell.Cell.TheVariants.{Gave, Used, Back}
use Rattle.rights_lattice.specs.Cell.{owner_of}
use Rattle.rights_lattice.specs.Cells.{value_at}
use Rattle.rights_lattice.specs.RightsView.{IsCellOf}
use Rattle.rights_lattice.proofs.CellLaws.{value_at-all_zero}
use Rattle.book_core.specs.declared.entry.Entry.{Entry}
use Rattle.book_core.specs.Decision.{sites_of}
use Rattle.book_core.specs.History.{state_of}
use Rattle.book_core.specs.Legal.{IsLegal}
use Rattle.book_core.specs.BookView.{BookView}
use Rattle.world_steps.specs.Audit.{books_of}
use Rattle.world_steps.specs.Sites.{AreSites, NoneIsAhead}
use Rattle.book_core.specs.Books.{history_among, AreNotOversold}
use Rattle.world_steps.proofs.Balance.{office_numbered, not_oversold}
use Rattle.world_steps.proofs.Names.{past_end}
use Rattle.world_steps.proofs.Promised.{refunds_below}
use Rattle.world_steps.proofs.Seats.{legal_within}

-- a book that a walk has come to
pub found_view : (books : List (Bor BookView)) (i : ℕ) (book : Bor BookView) → i < length books → book ≡ get_or books i book
    → slice_get (books_of books) i ≡ Some book.now
found_view [] i book l is = absurd (omega (arith, l))
found_view (x ∷ books) zero book l is = ap (λ (b : Bor BookView). Some b.now) (sym is)
found_view (x ∷ books) (suc i) book l is = found_view books i book (omega (arith, l)) is

pub length-views : (books : List (Bor BookView)) → length (books_of books) ≡ length books
length-views [] = refl
length-views (x ∷ books) = ap suc (length-views books)

-- one more book of which this holds
pub each_more : (Holds : ℕ → BookView → Type 0) (books : List BookView) (i : ℕ) (book : BookView) → slice_get books i ≡ Some book → Holds i book
    → ((k : ℕ) (b : BookView) → k < i → slice_get books k ≡ Some b → Holds k b) → (k : ℕ) (b : BookView) → k < i + 1 → slice_get books k ≡ Some b → Holds k b
each_more Holds books i book here holds before k b l found = elim (cases_lt k i) [
  | inl less ↦ before k b (omega (arith, less)) found
  | inr more ↦
      let same : k ≡ i = omega (arith, more, l) in
      let is : Some book ≡ Some b = sym here ∙ ap (slice_get books) (sym same) ∙ found in
      let b_is : book ≡ b = cc in
      subst (λ j. Holds j b) (sym same) (subst (Holds i) b_is holds)
]

-- and of all books
pub each_all : (Holds : ℕ → BookView → Type 0) (books : List BookView) (i : ℕ) → length books ≤ i
    → ((k : ℕ) (b : BookView) → k < i → slice_get books k ≡ Some b → Holds k b) → (k : ℕ) (b : BookView) → slice_get books k ≡ Some b → Holds k b
each_all Holds books i all before k b found = before k b (omega (arith, slice_get_within books k b found, all)) found

-- the history of a book that is there, and of one that is not
pub history_there : (books : List BookView) (k : ℕ) (book : BookView) → slice_get books k ≡ Some book → history_among books k ≡ book.history
history_there [] k book found = cc
history_there (x ∷ books) zero book found = let same : x ≡ book = cc in ap (λ (b : BookView). b.history) same
history_there (x ∷ books) (suc k) book found = history_there books k book found

history_past : (books : List BookView) (k : ℕ) → slice_get books k ≡ None → history_among books k ≡ []
history_past [] k none = refl
history_past (x ∷ books) zero none = cc
history_past (x ∷ books) (suc k) none = history_past books k none

no_more : (books : List BookView) (k : ℕ) → length books ≤ k → history_among books k ≡ []
no_more [] k l = refl
no_more (x ∷ books) zero l = absurd (omega (arith, l))
no_more (x ∷ books) (suc k) l = no_more books k (omega (arith, l))

-- the limit of the k-th book
abbrev pub limit_in : List BookView → ℕ → ℕ
limit_in books k = get_or (map (λ book. book.office.limit) books) k 0

-- the count of sites with which the history of the k-th book began
abbrev pub first_count_in : List BookView → ℕ → ℕ
first_count_in books k = get_or (map (λ book. book.office.sites) books) k 0

first_count_there : (books : List BookView) (k : ℕ) (book : BookView) → slice_get books k ≡ Some book → first_count_in books k ≡ book.office.sites
first_count_there [] k book found = cc
first_count_there (x ∷ books) zero book found = let same : x ≡ book = cc in ap (λ (b : BookView). b.office.sites) same
first_count_there (x ∷ books) (suc k) book found = first_count_there books k book found

limit_there : (books : List BookView) (k : ℕ) (book : BookView) → slice_get books k ≡ Some book → limit_in books k ≡ book.office.limit
limit_there [] k book found = cc
limit_there (x ∷ books) zero book found = let same : x ≡ book = cc in ap (λ (b : BookView). b.office.limit) same
limit_there (x ∷ books) (suc k) book found = limit_there books k book found

-- each history is legal for the site of its place
pub legal_in : (books : List BookView) → AreSites books → (k : ℕ)
    → IsLegal (office_numbered k (first_count_in books k) (limit_in books k)) (history_among books k)
legal_in books sites k = by_case (slice_get books k) refl
  where
    by_case : (o : Option BookView) → slice_get books k ≡ o → IsLegal (office_numbered k (first_count_in books k) (limit_in books k)) (history_among books k)
    by_case None none = λ j entry found. cc (ap (λ (h : List Entry). slice_get h j) (history_past books k none))
    by_case (Some book) found =
        let stands = sites.whole k book found in
        let office_is : book.office ≡ office_numbered k (first_count_in books k) (limit_in books k) =
        λ i. record { me = stands.site i; sites = sym (first_count_there books k book found) i; limit = sym (limit_there books k book found) i } in
        subst (λ o. IsLegal o (history_among books k)) office_is
        (subst (IsLegal book.office) (sym (history_there books k book found)) (sites.legal k book found))

owner_below : (n : ℕ) (cell : Cell) → IsCellOf n cell → owner_of cell < n
owner_below n (Gave by to) of = of.0
owner_below n (Used by) of = of
owner_below n (Back by) of = of

-- where no view is ahead, none is above its owner's row at any cell
views_below : (books : List BookView) → AreSites books → NoneIsAhead books → (event : List ℕ) (i : ℕ) (cell : Cell)
    → value_at (state_of (history_among books i)).cells event cell ≤ value_at (state_of (history_among books (owner_of cell))).cells event cell
views_below books sites none event i cell = by_viewer (slice_get books i) refl
  where
    own : ℕ
    own = value_at (state_of (history_among books (owner_of cell))).cells event cell

    by_owner : (viewer : BookView) → slice_get books i ≡ Some viewer → (o : Option BookView) → slice_get books (owner_of cell) ≡ o
        → value_at (state_of viewer.history).cells event cell ≤ own
    by_owner viewer found None past = elim (cases_lt 0 (value_at (state_of viewer.history).cells event cell)) [
      | inl some ↦
          let stands = sites.whole i viewer found in
          let of = legal_within viewer.office viewer.history (sites.own i viewer found) (sites.legal i viewer found) event cell (omega (arith, some)) in
          absurd (omega (arith, past_end books (owner_of cell) past, stands.count, owner_below (sites_of viewer.office viewer.history) cell of))
      | inr l ↦ omega (arith, l)
    ]
    by_owner viewer found (Some owner) there =
        let stands = sites.whole (owner_of cell) owner there in
        subst (λ (h : List Entry). value_at (state_of viewer.history).cells event cell ≤ value_at (state_of h).cells event cell)
        (sym (history_there books (owner_of cell) owner there))
        (none i viewer found (owner_of cell) owner there event cell (sym stands.site))

    by_viewer : (o : Option BookView) → slice_get books i ≡ o → value_at (state_of (history_among books i)).cells event cell ≤ own
    by_viewer None past = omega (
      arith,
      ap (λ (h : List Entry). value_at (state_of h).cells event cell) (history_past books i past),
      value_at-all_zero event cell,
    )
    by_viewer (Some viewer) found =
        subst (λ (h : List Entry). value_at (state_of h).cells event cell ≤ own) (sym (history_there books i viewer found))
        (by_owner viewer found (slice_get books (owner_of cell)) refl)

-- books of all sites of which none is ahead are not oversold
pub audited : (books : List BookView) → AreSites books → NoneIsAhead books → AreNotOversold books
audited books sites none event =
    let n = length books in
    let legal = legal_in books sites in
    let back = refunds_below n (first_count_in books) (limit_in books) (history_among books) event legal in (
      omega (
        arith,
        not_oversold (history_among books) (first_count_in books) (limit_in books) n event sites.few (no_more books) legal (views_below books sites none event),
      ),
      back,
    )
