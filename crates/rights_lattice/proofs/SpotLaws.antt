-- Cells and names by plain tests, and a delta that passes the test of the order.
use Rattle.std.proofs.Common.{◌≡◌, ℕ, ◌≤◌, Bool, true, false, cond, ◌&&◌, ◌||◌, List, [], ◌∷◌, refl, sym, ap, ◌∙◌, subst, arith, leb-true, le-leb, eqb-true, eq-eqb}
use Rattle.std.specs.Prelude.{nat_le, ◌==◌}
use Rattle.std.specs.List.{list_all, list_any}
use Rattle.std.specs.Ordering.{nat_cmp, eq_by_cmp}
use Rattle.std.specs.Cmp.Lexicographic.{slice_cmp}
use Rattle.std.specs.FinMap as finite
use Rattle.std.proofs.lemmas.Bool.{and_parts, and_from, or_right}
use Rattle.std.proofs.lemmas.Map.Lookups.{exact_bytes}
use Rattle.rights_lattice.specs.Cell.{same_cell, same_event}
use Rattle.rights_lattice.specs.Cells.{Key, Cells, Valued, value_at, marks_of, greatest, value_in, is_of}
use Rattle.rights_lattice.specs.State.{State, Names, knows, names_in_order, Name, At, AtOrBelow, is_within}
use Rattle.rights_lattice.specs.declared.cell.Cell.{Cell}
use Rattle.rights_lattice.specs.declared.cell.Cell.TheVariants.{Gave, Used, Back}
use Rattle.rights_lattice.specs.JoinLaws.{TestIsTheOrder}
use Rattle.rights_lattice.proofs.CellLaws.{equal, of_same, is_of-same, value_in-same, greatest-marks_of}
use Rattle.std.specs.Cmp.{eq_by_cmp_equiv}
use Rattle.std.proofs.lemmas.Cmp.{nat_list_cmp_total}

both_ways : (a b : Bool) → (a ≡ true → b ≡ true) → (b ≡ true → a ≡ true) → a ≡ b
both_ways true true f g = refl
both_ways true false f g = sym (f refl)
both_ways false true f g = g refl
both_ways false false f g = refl

pub same_event_is : (e f : List ℕ) → same_event e f ≡ true → e ≡ f
same_event_is [] [] h = refl
same_event_is [] (y ∷ ys) h = cc
same_event_is (x ∷ xs) [] h = cc
same_event_is (x ∷ xs) (y ∷ ys) h =
    let p = and_parts (x == y) (same_event xs ys) h in
    let head : x ≡ y = eqb-true x y p.0 in
    let tail : xs ≡ ys = same_event_is xs ys p.1 in
    λ i. head i ∷ tail i

pub same_event_self : (e : List ℕ) → same_event e e ≡ true
same_event_self [] = refl
same_event_self (x ∷ xs) = and_from (x == x) (same_event xs xs) (eq-eqb x x refl) (same_event_self xs)

pub same_cell_is : (c d : Cell) → same_cell c d ≡ true → c ≡ d
same_cell_is (Gave a b) (Gave c d) h =
    let p = and_parts (a == c) (b == d) h in
    let by : a ≡ c = eqb-true a c p.0 in
    let to : b ≡ d = eqb-true b d p.1 in
    λ i. Gave (by i) (to i)
same_cell_is (Used a) (Used b) h = ap Used (eqb-true a b h)
same_cell_is (Back a) (Back b) h = ap Back (eqb-true a b h)
same_cell_is (Gave a b) (Used c) h = cc
same_cell_is (Gave a b) (Back c) h = cc
same_cell_is (Used a) (Gave c d) h = cc
same_cell_is (Used a) (Back b) h = cc
same_cell_is (Back a) (Gave c d) h = cc
same_cell_is (Back a) (Used b) h = cc

pub same_cell_self : (c : Cell) → same_cell c c ≡ true
same_cell_self (Gave a b) = and_from (a == a) (b == b) (eq-eqb a a refl) (eq-eqb b b refl)
same_cell_self (Used a) = eq-eqb a a refl
same_cell_self (Back a) = eq-eqb a a refl

-- a mark is of a cell by the tests of its event and its cell
pub is_of-tests : (m : Valued) (e : List ℕ) (c : Cell) → is_of m e c ≡ (same_event e m.event && same_cell c m.cell)
is_of-tests m e c = both_ways _ _ there back
  where
    there : is_of m e c ≡ true → (same_event e m.event && same_cell c m.cell) ≡ true
    there t =
        let k = of_same m e c t in
        subst (λ (k : Key). (same_event k.0 m.event && same_cell k.1 m.cell) ≡ true) (sym k)
        (and_from (same_event m.event m.event) (same_cell m.cell m.cell) (same_event_self m.event) (same_cell_self m.cell))

    back : (same_event e m.event && same_cell c m.cell) ≡ true → is_of m e c ≡ true
    back t =
        let p = and_parts (same_event e m.event) (same_cell c m.cell) t in
        let event : e ≡ m.event = same_event_is e m.event p.0 in
        let cell : c ≡ m.cell = same_cell_is c m.cell p.1 in
        subst (λ (k : Key). is_of m k.0 k.1 ≡ true) (λ i. (sym event i, sym cell i)) (is_of-same m)

pub value_in-tests : (m : Valued) (e : List ℕ) (c : Cell) → value_in m e c ≡ cond (same_event e m.event && same_cell c m.cell) m.value 0
value_in-tests m e c = ap (λ b. cond b m.value 0) (is_of-tests m e c)

-- marks that are each at or below a state's cells
pub greatest_le : (X : Cells) (ms : List Valued) (e : List ℕ) (c : Cell) → list_all (λ m. nat_le m.value (value_at X m.event m.cell)) ms ≡ true
    → greatest ms e c ≤ value_at X e c
greatest_le X [] e c h = omega arith
greatest_le X (m ∷ ms) e c h =
    let parts = and_parts (nat_le m.value (value_at X m.event m.cell)) (list_all (λ m. nat_le m.value (value_at X m.event m.cell)) ms) h in
    omega (arith, by_test (is_of m e c) refl (leb-true _ _ parts.0), greatest_le X ms e c parts.1)
  where
    by_test : (b : Bool) → is_of m e c ≡ b → m.value ≤ value_at X m.event m.cell → cond b m.value 0 ≤ value_at X e c
    by_test false q le = omega arith
    by_test true q le = subst (λ (k : Key). m.value ≤ value_at X k.0 k.1) (sym (of_same m e c q)) le

known : (N : Names) (ns : List (List ℕ)) (n : List ℕ) → list_all (λ name. knows N name) ns ≡ true → list_any (eq_by_cmp (slice_cmp nat_cmp) n) ns ≡ true
    → knows N n ≡ true
known N [] n all any = cc
known N (m ∷ ns) n all any =
    let parts = and_parts (knows N m) (list_all (λ name. knows N name) ns) all in
    by_test (eq_by_cmp (slice_cmp nat_cmp) n m) refl any parts.0 (known N ns n parts.1)
  where
    by_test : (b : Bool) → eq_by_cmp (slice_cmp nat_cmp) n m ≡ b → (b || list_any (eq_by_cmp (slice_cmp nat_cmp) n) ns) ≡ true → knows N m ≡ true
        → (list_any (eq_by_cmp (slice_cmp nat_cmp) n) ns ≡ true → knows N n ≡ true) → knows N n ≡ true
    by_test true q here first rest = subst (λ x. knows N x ≡ true) (sym (exact_bytes n m (equal _ q))) first
    by_test false q here first rest = rest here

one_le : (a b : Bool) → (a ≡ true → b ≡ true) → cond a 1 0 ≤ cond b 1 0
one_le true b f = rw (f refl) (omega arith)
one_le false b f = omega arith

-- where a delta passes the test, it is at or below the state
pub within_at_or_below : (D X : State) → is_within D X ≡ true → AtOrBelow D X
within_at_or_below D X h (Name n) =
    let parts = and_parts (list_all (λ name. knows X.names name) (names_in_order D.names))
    (list_all (λ m. nat_le m.value (value_at X.cells m.event m.cell)) (marks_of D.cells)) h in
    one_le (knows D.names n) (knows X.names n) (λ k. known X.names (names_in_order D.names) n parts.0 (sym (finite.contains_key-keys D.names n) ∙ k))
within_at_or_below D X h (At e c) =
    let parts = and_parts (list_all (λ name. knows X.names name) (names_in_order D.names))
    (list_all (λ m. nat_le m.value (value_at X.cells m.event m.cell)) (marks_of D.cells)) h in
    omega (arith, greatest_le X.cells (marks_of D.cells) e c parts.1, greatest-marks_of D.cells e c)

-- marks of which each says at most what a state has
marks_within : (X : Cells) (ms : List Valued) → ((e : List ℕ) (c : Cell) → greatest ms e c ≤ value_at X e c)
    → list_all (λ m. nat_le m.value (value_at X m.event m.cell)) ms ≡ true
marks_within X [] h = refl
marks_within X (m ∷ ms) h =
    and_from (nat_le m.value (value_at X m.event m.cell)) (list_all (λ m. nat_le m.value (value_at X m.event m.cell)) ms)
    (le-leb m.value (value_at X m.event m.cell) (omega (arith, h m.event m.cell, value_in-same m m.event m.cell refl refl)))
    (marks_within X ms (λ e c. omega (arith, h e c)))

names_within : (N : Names) (ns : List (List ℕ)) → ((n : List ℕ) → list_any (eq_by_cmp (slice_cmp nat_cmp) n) ns ≡ true → knows N n ≡ true)
    → list_all (λ name. knows N name) ns ≡ true
names_within N [] h = refl
names_within N (m ∷ ns) h =
    and_from (knows N m) (list_all (λ name. knows N name) ns)
    (h m (ap (λ b. b || list_any (eq_by_cmp (slice_cmp nat_cmp) m) ns) ((eq_by_cmp_equiv nat_list_cmp_total).refl m)))
    (names_within N ns (λ n t. h n (or_right (eq_by_cmp (slice_cmp nat_cmp) n m) _ t)))

le_one : (a b : Bool) → cond a 1 0 ≤ cond b 1 0 → a ≡ true → b ≡ true
le_one true true h t = refl
le_one true false h t = absurd (omega (arith, h))
le_one false b h t = cc

-- a delta at or below a state passes the test
pub at_or_below_within : (D X : State) → AtOrBelow D X → is_within D X ≡ true
at_or_below_within D X h =
    and_from (list_all (λ name. knows X.names name) (names_in_order D.names))
    (list_all (λ m. nat_le m.value (value_at X.cells m.event m.cell)) (marks_of D.cells))
    (names_within X.names (names_in_order D.names) (λ n t. le_one (knows D.names n) (knows X.names n) (h (Name n)) (finite.contains_key-keys D.names n ∙ t)))
    (marks_within X.cells (marks_of D.cells) (λ e c. omega (arith, h (At e c), greatest-marks_of D.cells e c)))

pub test_is_the_order : TestIsTheOrder
test_is_the_order D X = (within_at_or_below D X, at_or_below_within D X)
