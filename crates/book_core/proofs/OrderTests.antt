-- The tests by which a peer's delta is judged are the order and the range of the sites, both ways.
use Rattle.std.proofs.Common.{◌≡◌, ℕ, ◌≤◌, Bool, true, false, cond, not, ◌&&◌, List, [], ◌∷◌, Some, None, refl, sym, ap, ◌∙◌, subst, arith, eq-eqb, eqb-true, ne_eqb, ltb-true, ltb-false, leb-false}
use Rattle.std.specs.Prelude.{◌==◌, nat_lt, nat_le, IsTrue, IsSome, length}
use Rattle.std.proofs.lemmas.Bool.{eqb-false, not-true, lt-ltb, le-ltb, and_parts, and_from}
use Rattle.rights_lattice.specs.declared.cell.Cell.{Cell}
use Rattle.rights_lattice.specs.declared.cell.Cell.TheVariants.{Gave, Used, Back}
use Rattle.rights_lattice.specs.Cell.{owner_of, same_cell, same_event}
use Rattle.rights_lattice.specs.Cells.{Key, Cells, Valued, value_at, value_in, is_of, marks_of, greatest}
use Rattle.rights_lattice.specs.Marks.{AreMarks}
use Rattle.rights_lattice.specs.RightsView.{IsCellOf, IsWithin, is_cell_of, are_within}
use Rattle.rights_lattice.specs.State.{State, AtOrBelow, is_within}
use Rattle.rights_lattice.proofs.CellLaws.{of_same, value_in-same, greatest-marks_of}
use Rattle.rights_lattice.proofs.SpotLaws.{same_event_is, same_cell_is, value_in-tests, within_at_or_below, at_or_below_within}
use Rattle.delta_mutators.proofs.EndLaws.{lists_of}
use Rattle.book_core.specs.BookView.{MarksAreWithin}
use Rattle.book_core.specs.Decision.{SiteConfig, office_after}
use Rattle.book_core.specs.Joining.{IsPeer, foreign, is_of_sites}
use Rattle.book_core.specs.declared.entry.Entry.{Entry}
use Rattle.book_core.specs.History.{state_of}
use Rattle.book_core.specs.Legal.{IsNextJoined}
use Rattle.book_core.specs.Laws.{RowTestIsTheOrder, SitesTestIsTheRange}

-- where no mark of the own row is above the state, the own cells stay
own_row_kept : (me : ℕ) (x : Cells) (ms : List Valued) → foreign me x ms ≡ None → (event : List ℕ) (cell : Cell) → owner_of cell ≡ me
    → greatest ms event cell ≤ (value_at x event cell)
own_row_kept me x [] h event cell own = omega arith
own_row_kept me x (m ∷ ms) h event cell own =
    let rest = passed (owner_of m.cell == me) (nat_lt ((value_at x m.event m.cell)) m.value) h in
    omega (
      arith,
      value_in-tests m event cell,
      by_test (same_event event m.event && same_cell cell m.cell) refl rest.0,
      own_row_kept me x ms rest.1 event cell own,
    )
  where
    passed : (b c : Bool) → cond (b && c) (Some m) (foreign me x ms) ≡ None → ((b && c) ≡ false) × (foreign me x ms ≡ None)
    passed true true e = cc
    passed true false e = (refl, e)
    passed false c e = (refl, e)

    by_test : (b : Bool) → (same_event event m.event && same_cell cell m.cell) ≡ b
        → ((owner_of m.cell == me) && nat_lt ((value_at x m.event m.cell)) m.value) ≡ false → cond b m.value 0 ≤ (value_at x event cell)
    by_test false q out = omega arith
    by_test true q out =
        let p = and_parts (same_event event m.event) (same_cell cell m.cell) q in
        let of : event ≡ m.event = same_event_is event m.event p.0 in
        let at : cell ≡ m.cell = same_cell_is cell m.cell p.1 in
        let mine : (owner_of m.cell == me) ≡ true = eq-eqb (owner_of m.cell) me (ap owner_of (sym at) ∙ own) in
        let below : nat_lt ((value_at x m.event m.cell)) m.value ≡ false = cc (ap (λ b. b && nat_lt ((value_at x m.event m.cell)) m.value) mine) in
        rw (of, at) (ltb-false ((value_at x m.event m.cell)) m.value below)

none_foreign : (me : ℕ) (x : Cells) (ms : List Valued)
    → ((event : List ℕ) (cell : Cell) → owner_of cell ≡ me → greatest ms event cell ≤ value_at x event cell) → foreign me x ms ≡ None
none_foreign me x [] h = refl
none_foreign me x (m ∷ ms) h =
    ap (λ b. cond b (Some m) (foreign me x ms)) (by_test (owner_of m.cell == me) refl)
    ∙ none_foreign me x ms (λ event cell own. omega (arith, h event cell own))
  where
    by_test : (b : Bool) → (owner_of m.cell == me) ≡ b → (b && nat_lt (value_at x m.event m.cell) m.value) ≡ false
    by_test false q = refl
    by_test true q = le-ltb (value_at x m.event m.cell) m.value
        (omega (arith, h m.event m.cell (eqb-true (owner_of m.cell) me q), value_in-same m m.event m.cell refl refl))

pub row_test : RowTestIsTheOrder
row_test site D X = (
  λ none event cell own. omega (arith, own_row_kept site X.cells (marks_of D.cells) none event cell own, greatest-marks_of D.cells event cell),
  λ row. none_foreign site X.cells (marks_of D.cells) (λ event cell own. omega (arith, row event cell own, greatest-marks_of D.cells event cell)),
)

cell_of_sites : (n : ℕ) (c : Cell) → is_cell_of n c ≡ true → IsCellOf n c
cell_of_sites n (Gave i j) h = let p = and_parts (nat_lt i n) (nat_lt j n) h in (ltb-true i n p.0, ltb-true j n p.1)
cell_of_sites n (Used i) h = ltb-true i n h
cell_of_sites n (Back i) h = ltb-true i n h

all_within : (n : ℕ) (ms : List Valued) → are_within n ms ≡ true → MarksAreWithin n ms
all_within n [] h e c some = absurd (omega arith)
all_within n (m ∷ ms) h e c some =
    let parts = and_parts (is_cell_of n m.cell) (are_within n ms) h in
    elim (is_of m e c) as (λ b. is_of m e c ≡ b → IsCellOf n c) [
      | true ↦ λ t. subst (λ (k : Key). IsCellOf n k.1) (sym (of_same m e c t)) (cell_of_sites n m.cell parts.0)
      | false ↦ λ t. let none : value_in m e c ≡ 0 = ap (λ b. cond b m.value 0) t in all_within n ms parts.1 e c (omega arith)
    ] refl

cell_is_of_sites : (n : ℕ) (c : Cell) → IsCellOf n c → is_cell_of n c ≡ true
cell_is_of_sites n (Gave i j) h = and_from (nat_lt i n) (nat_lt j n) (lt-ltb i n h.0) (lt-ltb j n h.1)
cell_is_of_sites n (Used i) h = lt-ltb i n h
cell_is_of_sites n (Back i) h = lt-ltb i n h

within_all : (n : ℕ) (ms : List Valued) → AreMarks ms → MarksAreWithin n ms → are_within n ms ≡ true
within_all n [] positive h = refl
within_all n (m ∷ ms) positive h =
    and_from (is_cell_of n m.cell) (are_within n ms)
    (cell_is_of_sites n m.cell (h m.event m.cell (omega (arith, positive.0, value_in-same m m.event m.cell refl refl))))
    (within_all n ms positive.1 (λ e c some. h e c (omega (arith, some))))

peer_test : (office : SiteConfig) (peer : ℕ) → (nat_lt peer office.sites && not (peer == office.me)) ≡ true → IsPeer office peer
peer_test office peer h =
    let p = and_parts (nat_lt peer office.sites) (not (peer == office.me)) h in
    record { below = ltb-true peer office.sites p.0; other = eqb-false peer office.me (not-true (peer == office.me) p.1) }

peer_passes : (office : SiteConfig) (peer : ℕ) → IsPeer office peer → (nat_lt peer office.sites && not (peer == office.me)) ≡ true
peer_passes office peer h = and_from (nat_lt peer office.sites) (not (peer == office.me)) (lt-ltb peer office.sites h.below)
    (ap not (ne_eqb peer office.me h.other))

pub sites_test : SitesTestIsTheRange
sites_test office peer delta = (there, back)
  where
    there : is_of_sites office peer delta ≡ true → IsPeer office peer × IsWithin office.sites delta.cells
    there h =
        let p = and_parts (nat_lt peer office.sites && not (peer == office.me)) (are_within office.sites (marks_of delta.cells)) h in (
          peer_test office peer p.0,
          λ e c some. all_within office.sites (marks_of delta.cells) p.1 e c (omega (arith, some, greatest-marks_of delta.cells e c)),
        )

    back : IsPeer office peer × IsWithin office.sites delta.cells → is_of_sites office peer delta ≡ true
    back h =
        and_from (nat_lt peer office.sites && not (peer == office.me)) (are_within office.sites (marks_of delta.cells))
        (peer_passes office peer h.0)
        (within_all office.sites (marks_of delta.cells) (lists_of delta).positive
        (λ e c some. h.1 e c (omega (arith, some, greatest-marks_of delta.cells e c))))

-- a delta that fails the test has something new, and one with something new fails it
pub not_within : (D X : State) → is_within D X ≡ false → AtOrBelow D X → ⊥
not_within D X out below = let within : is_within D X ≡ true = at_or_below_within D X below in cc

pub is_new : (D X : State) → (AtOrBelow D X → ⊥) → is_within D X ≡ false
is_new D X new = by_test (is_within D X) refl
  where
    by_test : (b : Bool) → is_within D X ≡ b → b ≡ false
    by_test true q = absurd (new (within_at_or_below D X q))
    by_test false q = refl

-- a delta that passes each test is legal next
pub passes : (office : SiteConfig) (h : List Entry) (peer : ℕ) (delta : State) → nat_le office.limit (length h) ≡ false
    → is_of_sites (office_after office h) peer delta ≡ true
    → foreign office.me (state_of h).cells (marks_of delta.cells) ≡ None → is_within delta (state_of h) ≡ false → IsNextJoined office h peer delta
passes office h peer delta room of_sites none new =
    let sites = (sites_test (office_after office h) peer delta).0 of_sites in
    record {
      room = leb-false office.limit (length h) room;
      from_peer = sites.0;
      sites = sites.1;
      own_row = (row_test office.me delta (state_of h)).0 none;
      news = not_within delta (state_of h) new;
    }

-- what each test says of a delta in replay
abbrev pub Tells : Bool → SiteConfig → List Entry → ℕ → State → Type 0
Tells b office h peer delta = (IsTrue b → IsNextJoined office h peer delta) × (IsNextJoined office h peer delta → IsTrue b)

pub strange : (office : SiteConfig) (h : List Entry) (peer : ℕ) (delta : State) → is_of_sites (office_after office h) peer delta ≡ false
    → Tells false office h peer delta
strange office h peer delta out = (λ t. cc, λ next. let passed = (sites_test (office_after office h) peer delta).1 (next.from_peer, next.sites) in cc)

pub above : (office : SiteConfig) (h : List Entry) (peer : ℕ) (delta : State) → IsSome (foreign office.me (state_of h).cells (marks_of delta.cells))
    → Tells false office h peer delta
above office h peer delta some = (
  λ t. cc,
  λ next. let none : IsSome {T = Valued} None = subst IsSome ((row_test office.me delta (state_of h)).1 next.own_row) some in cc,
)

pub fresh : (office : SiteConfig) (h : List Entry) (peer : ℕ) (delta : State) (b : Bool) → nat_le office.limit (length h) ≡ false
    → is_of_sites (office_after office h) peer delta ≡ true
    → foreign office.me (state_of h).cells (marks_of delta.cells) ≡ None → b ≡ is_within delta (state_of h) → Tells (not b) office h peer delta
fresh office h peer delta b room of_sites none test = (
  λ t. passes office h peer delta room of_sites none (sym test ∙ not-true b t),
  λ next. ap not (test ∙ is_new delta (state_of h) next.news),
)
