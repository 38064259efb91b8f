-- What `raise` and `join` do at each cell, and that equal values make equal maps.
use Rattle.std.proofs.Common.{◌≡◌, ℕ, ◌+◌, ◌-◌, Bool, true, false, cond, ◌&&◌, leb, T, List, [], ◌∷◌, ◌++◌, map, Option, Some, None, refl, sym, ap, ◌∙◌, subst, arith}
use Rattle.std.specs.Prelude.{max}
use Rattle.std.specs.Ordering.{nat_cmp, eq_by_cmp, is_eq, is_lt}
use Rattle.std.specs.Cmp.{IsTotalOrder, eq_by_cmp_equiv}
use Rattle.std.specs.Cmp.Lexicographic.{slice_cmp}
use Rattle.std.specs.declared.cmp.Ordering.{Ordering}
use Rattle.std.specs.declared.cmp.Ordering.TheVariants.{Less, Equal, Greater}
use Rattle.std.specs.FinMap as finite
use Rattle.std.specs.FinMap.Entries as entry
use Rattle.std.proofs.lemmas.Cmp.{nat_list_cmp_total, on_total, then_total}
use Rattle.std.proofs.lemmas.Map.Lookups.{CmpEqualImpliesEq, exact_bytes, exact_pairs}
use Rattle.std.proofs.lemmas.Bool.Decides.{nat_tests}
use Rattle.rights_lattice.specs.Cell.{cell_cmp}
use Rattle.rights_lattice.specs.CellOrder.{cell_cmp_total, exact_cells}
use Rattle.rights_lattice.specs.Cells.{Key, key_cmp, is_of, value_in, greatest, Cells, Valued, from_less_one, value_at, all_zero, raise, raise_all, marks_of, join}
use Rattle.rights_lattice.specs.declared.cell.Cell.{Cell}

pub key_cmp_total : IsTotalOrder key_cmp
key_cmp_total = then_total (on_total (λ k. k.0) nat_list_cmp_total) (on_total (λ k. k.1) cell_cmp_total)

pub exact_keys : CmpEqualImpliesEq key_cmp
exact_keys = exact_pairs (slice_cmp nat_cmp) cell_cmp exact_bytes exact_cells

pub equal : (r : Ordering) → is_eq r ≡ true → r ≡ Equal
equal Less e = cc
equal Equal e = refl
equal Greater e = cc

pub of_same : (m : Valued) (e : List ℕ) (c : Cell) → is_of m e c ≡ true → ◌≡◌ {A = Key} (e, c) (m.event, m.cell)
of_same m e c t = exact_keys _ _ (equal _ t)

from_less_one-insert : (b : Bool) (p : ℕ) (o : Option ℕ) → from_less_one (cond b (Some p) o) ≡ cond b (p + 1) (from_less_one o)
from_less_one-insert true p o = refl
from_less_one-insert false p o = refl

value_at-insert : (X : Cells) (m : Valued) (e : List ℕ) (c : Cell)
    → value_at (finite.insert X (m.event, m.cell) (m.value - 1)) e c ≡ cond (is_of m e c) (m.value - 1 + 1) (value_at X e c)
unfolding value_at
value_at-insert X m e c = ap from_less_one (finite.get-insert key_cmp_total X (m.event, m.cell) (m.value - 1) (e, c)) ∙ from_less_one-insert (is_of m e c) _ _

raised_value : (at le : Bool) (v old here : ℕ) → leb v old ≡ le → (at ≡ true → here ≡ old) → cond le here (cond at (v - 1 + 1) here) ≡ max here (cond at v 0)
raised_value true true v old here l h = grind (arith, nat_tests, h refl)
raised_value true false v old here l h = grind (arith, nat_tests, h refl)
raised_value false true v old here l h = omega arith
raised_value false false v old here l h = omega arith

at_cond : (le : Bool) (X Y : Cells) (e : List ℕ) (c : Cell) → value_at (cond le X Y) e c ≡ cond le (value_at X e c) (value_at Y e c)
at_cond true X Y e c = refl
at_cond false X Y e c = refl

pub value_at-raise : (X : Cells) (m : Valued) (e : List ℕ) (c : Cell) → value_at (raise X m) e c ≡ max (value_at X e c) (value_in m e c)
unfolding raise
value_at-raise X m e c =
    at_cond (leb m.value (value_at X m.event m.cell)) _ _ e c
    ∙ ap (cond (leb m.value (value_at X m.event m.cell)) (value_at X e c)) (value_at-insert X m e c)
    ∙ raised_value (is_of m e c) _ m.value (value_at X m.event m.cell) (value_at X e c) refl (λ t. ap (λ (k : Key). value_at X k.0 k.1) (of_same m e c t))

pub value_at-raise_all : (X : Cells) (ms : List Valued) (e : List ℕ) (c : Cell) → value_at (raise_all X ms) e c ≡ max (value_at X e c) (greatest ms e c)
value_at-raise_all X [] e c = omega arith
value_at-raise_all X (m ∷ ms) e c = omega (arith, value_at-raise_all (raise X m) ms e c, value_at-raise X m e c)

pub value_at-all_zero : (e : List ℕ) (c : Cell) → value_at all_zero e c ≡ 0
unfolding value_at all_zero
value_at-all_zero e c = ap from_less_one (finite.get-empty key_cmp (e, c))

same_number : (o p : Option ℕ) → from_less_one o ≡ from_less_one p → o ≡ p
same_number None None h = refl
same_number None (Some y) h = absurd (omega arith)
same_number (Some x) None h = absurd (omega arith)
same_number (Some x) (Some y) h = let e : x ≡ y = omega arith in ap Some e

-- maps with the same values are equal
pub same_cells : (X Y : Cells) → ((e : List ℕ) (c : Cell) → value_at X e c ≡ value_at Y e c) → X ≡ Y
unfolding value_at
same_cells X Y h = finite.same_map key_cmp_total exact_keys X Y (λ q. same_number _ _ (h q.0 q.1))

pub both_true : (a b : Bool) → T (a && b) → T a × T b
both_true true b h = (tt, h)
both_true false b h = absurd h

pub less_not_equal : (r : Ordering) → T (is_lt r) → is_eq r ≡ false
less_not_equal Less h = refl
less_not_equal Equal h = absurd h
less_not_equal Greater h = absurd h

-- a cell below all keys has no mark
greatest-below : (q : Key) (es : List (Key × ℕ)) → T (entry.below_all key_cmp q es)
    → greatest (map (λ e. record { event = e.0.0; cell = e.0.1; value = e.1 + 1 }) es) q.0 q.1 ≡ 0
greatest-below q [] h = refl
greatest-below q (e ∷ es) h =
    let parts = both_true _ _ h in
    rw (less_not_equal (key_cmp q e.0) parts.0) (omega (arith, greatest-below q es parts.1))

greatest-sorted : (q : Key) (es : List (Key × ℕ)) → T (entry.is_sorted key_cmp es)
    → greatest (map (λ e. record { event = e.0.0; cell = e.0.1; value = e.1 + 1 }) es) q.0 q.1 ≡ from_less_one (entry.find key_cmp q es)
greatest-sorted q [] h = refl
greatest-sorted q (e ∷ es) h =
    let parts : T (entry.below_all key_cmp e.0 es) × T (entry.is_sorted key_cmp es) = both_true _ _ h in
    let rest = greatest-sorted q es parts.1 in
    elim (eq_by_cmp key_cmp q e.0) as (λ b. eq_by_cmp key_cmp q e.0 ≡ b
    → max (cond b (e.1 + 1) 0) (greatest (map (λ e. record { event = e.0.0; cell = e.0.1; value = e.1 + 1 }) es) q.0 q.1) ≡ from_less_one
    (cond b (Some e.1) (entry.find key_cmp q es))) [
      | true ↦ λ t. let k : q ≡ e.0 = exact_keys _ _ (equal _ t) in
          let none = greatest-below q es (subst (λ (x : Key). T (entry.below_all key_cmp x es)) (sym k) parts.0) in omega arith
      | false ↦ λ t. omega arith
    ] refl

pub greatest-marks_of : (X : Cells) (e : List ℕ) (c : Cell) → greatest (marks_of X) e c ≡ value_at X e c
unfolding marks_of value_at
greatest-marks_of X e c = greatest-sorted (e, c) (finite.entries X) (finite.entries_sorted X) ∙ ap from_less_one (sym (finite.get-entries X (e, c)))

pub value_at-join : (X Y : Cells) (e : List ℕ) (c : Cell) → value_at (join X Y) e c ≡ max (value_at X e c) (value_at Y e c)
unfolding join
value_at-join X Y e c = value_at-raise_all X (marks_of Y) e c ∙ ap (max (value_at X e c)) (greatest-marks_of Y e c)

pub is_of-same : (m : Valued) → is_of m m.event m.cell ≡ true
is_of-same m = (eq_by_cmp_equiv key_cmp_total).refl (m.event, m.cell)

pub value_in-same : (m : Valued) (e : List ℕ) (c : Cell) → e ≡ m.event → c ≡ m.cell → value_in m e c ≡ m.value
value_in-same m e c p q = subst (λ (k : Key). value_in m k.0 k.1 ≡ m.value) (λ i. (sym p i, sym q i)) (ap (λ b. cond b m.value 0) (is_of-same m))

pub greatest-append : (ms ns : List Valued) (e : List ℕ) (c : Cell) → greatest (ms ++ ns) e c ≡ max (greatest ms e c) (greatest ns e c)
greatest-append [] ns e c = omega arith
greatest-append (m ∷ ms) ns e c = omega (arith, greatest-append ms ns e c)
