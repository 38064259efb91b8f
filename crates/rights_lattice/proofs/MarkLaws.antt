-- Rising lists are the states that they say, and merged lists are joined states.
use Rattle.std.proofs.Common.{◌≡◌, ℕ, ◌+◌, ◌-◌, ◌≤◌, ◌||◌, List, [], ◌∷◌, ◌++◌, length, take, drop, map, refl, sym, ap, ◌∙◌, arith}
use Rattle.std.specs.Prelude.{IsTrue}
use Rattle.std.specs.Ordering.{nat_cmp, eq_by_cmp}
use Rattle.std.specs.List.{list_any}
use Rattle.std.specs.Cmp.Lexicographic.{slice_cmp}
use Rattle.std.specs.FinMap as finite
use Rattle.std.proofs.lemmas.List.{take_all, append-nil}
use Rattle.rights_lattice.specs.Cells.{Key, key_cmp, Valued, value_at, all_zero, raise, marks_of, greatest}
use Rattle.rights_lattice.specs.Cells as cells
use Rattle.rights_lattice.specs.State.{knows, no_names, with_name, names_in_order, join_names}
use Rattle.rights_lattice.specs.declared.cell.Cell.{Cell}
use Rattle.rights_lattice.specs.Marks.{AreMarks, keyed_marks, are_rising_marks, cells_of, keyed_names, are_rising_names, names_of}
use Rattle.rights_lattice.specs.Merging.{IsMerged, IsMergedNames, has}
use Rattle.rights_lattice.proofs.CellLaws.{same_cells, greatest-marks_of, value_at-join, value_at-raise, value_at-all_zero}
use Rattle.rights_lattice.proofs.MergeLaws.{as_test}
use Rattle.rights_lattice.proofs.StateLaws.{same_names, knows-no_names, knows-with_name, contains-union}

back : (ms : List Valued) → AreMarks ms
    → map (λ (e : Key × ℕ). let m : Valued = record { event = e.0.0; cell = e.0.1; value = e.1 + 1 } in m) (keyed_marks ms) ≡ ms
back [] h = refl
back (m ∷ ms) h =
    let v : m.value - 1 + 1 ≡ m.value = omega (arith, h.0) in
    let rest = back ms h.1 in
    λ i. record { event = m.event; cell = m.cell; value = v i } ∷ rest i

-- the marks of the state of rising marks
pub marks_of-cells_of : (ms : List Valued) → IsTrue (are_rising_marks ms) → AreMarks ms → marks_of (cells_of ms) ≡ ms
unfolding marks_of
marks_of-cells_of ms h k =
    ap (λ (es : List (Key × ℕ)). map (λ (e : Key × ℕ). let m : Valued = record { event = e.0.0; cell = e.0.1; value = e.1 + 1 } in m) es)
    (finite.entries-from_sorted key_cmp (keyed_marks ms) (as_test _ h))
    ∙ back ms k

pub value_at-cells_of : (ms : List Valued) → IsTrue (are_rising_marks ms) → AreMarks ms → (e : List ℕ) (c : Cell) → value_at (cells_of ms) e c ≡ greatest ms e c
value_at-cells_of ms h k e c = sym (greatest-marks_of (cells_of ms) e c) ∙ ap (λ (l : List Valued). greatest l e c) (marks_of-cells_of ms h k)

keys_back : (ns : List (List ℕ)) → map (λ (e : List ℕ × Unit {0}). e.0) (keyed_names ns) ≡ ns
keys_back [] = refl
keys_back (n ∷ ns) = let rest = keys_back ns in λ i. n ∷ rest i

pub names_in_order-names_of : (ns : List (List ℕ)) → IsTrue (are_rising_names ns) → names_in_order (names_of ns) ≡ ns
names_in_order-names_of ns h =
    ap (λ (es : List (List ℕ × Unit {0})). map (λ (e : List ℕ × Unit {0}). e.0) es)
    (finite.entries-from_sorted (slice_cmp nat_cmp) (keyed_names ns) (as_test _ h))
    ∙ keys_back ns

pub knows-names_of : (ns : List (List ℕ)) → IsTrue (are_rising_names ns) → (n : List ℕ) → knows (names_of ns) n ≡ list_any (eq_by_cmp (slice_cmp nat_cmp) n) ns
knows-names_of ns h n =
    finite.contains_key-keys (names_of ns) n ∙ ap (list_any (eq_by_cmp (slice_cmp nat_cmp) n)) (names_in_order-names_of ns h)

pub cells_of-none : cells_of [] ≡ all_zero
cells_of-none = same_cells _ _ (λ e c. value_at-cells_of [] refl tt e c ∙ sym (value_at-all_zero e c))

pub cells_of-one : (m : Valued) → 1 ≤ m.value → cells_of (m ∷ []) ≡ raise all_zero m
cells_of-one m h = same_cells _ _ (λ e c. omega (arith, value_at-cells_of (m ∷ []) refl (h, tt) e c, value_at-raise all_zero m e c, value_at-all_zero e c))

pub names_of-none : names_of [] ≡ no_names
names_of-none = same_names _ _ (λ n. knows-names_of [] refl n ∙ sym (knows-no_names n))

pub names_of-one : (n : List ℕ) → names_of (n ∷ []) ≡ with_name no_names n
names_of-one n = same_names _ _ (λ q. knows-names_of (n ∷ []) refl q
    ∙ ap (λ b. eq_by_cmp (slice_cmp nat_cmp) q n || b) (sym (knows-no_names q)) ∙ sym (knows-with_name no_names n q))

drop_end : {A : Type 0} (ms : List A) → drop (length ms) ms ≡ []
drop_end [] = refl
drop_end (m ∷ ms) = drop_end ms

pub merged_rises : (xs ys out : List Valued) → IsMerged xs ys out (length xs) (length ys) → IsTrue (are_rising_marks out)
merged_rises xs ys out h = ap are_rising_marks (sym (append-nil out) ∙ ap (λ (l : List Valued). out ++ l) (sym (drop_end xs))) ∙ h.left_rises

pub merged_cells : (xs ys out : List Valued) → IsTrue (are_rising_marks xs) → IsTrue (are_rising_marks ys) → AreMarks xs → AreMarks ys
    → IsMerged xs ys out (length xs) (length ys) → cells_of out ≡ cells.join (cells_of xs) (cells_of ys)
merged_cells xs ys out xs_rise ys_rise xs_marks ys_marks h = same_cells _ _ (λ e c.
    let left : greatest (take (length xs) xs) e c ≡ greatest xs e c = ap (λ (l : List Valued). greatest l e c) (take_all (length xs) xs (omega arith)) in
    let right : greatest (take (length ys) ys) e c ≡ greatest ys e c = ap (λ (l : List Valued). greatest l e c) (take_all (length ys) ys (omega arith)) in
    omega (
      arith,
      value_at-cells_of out (merged_rises xs ys out h) h.positive e c,
      value_at-join (cells_of xs) (cells_of ys) e c,
      value_at-cells_of xs xs_rise xs_marks e c,
      value_at-cells_of ys ys_rise ys_marks e c,
      h.greater e c,
      left,
      right,
    ))

pub merged_names_rise : (xs ys out : List (List ℕ)) → IsMergedNames xs ys out (length xs) (length ys) → IsTrue (are_rising_names out)
merged_names_rise xs ys out h = ap are_rising_names (sym (append-nil out) ∙ ap (λ (l : List (List ℕ)). out ++ l) (sym (drop_end xs))) ∙ h.left_rises

pub merged_names : (xs ys out : List (List ℕ)) → IsTrue (are_rising_names xs) → IsTrue (are_rising_names ys)
    → IsMergedNames xs ys out (length xs) (length ys) → names_of out ≡ join_names (names_of xs) (names_of ys)
merged_names xs ys out xs_rise ys_rise h = same_names _ _ (λ n.
    knows-names_of out (merged_names_rise xs ys out h) n ∙ h.known n
    ∙ (λ k. has n (take_all (length xs) xs (omega arith) k) || has n (take_all (length ys) ys (omega arith) k))
    ∙ (λ k. sym (knows-names_of xs xs_rise n) k || sym (knows-names_of ys ys_rise n) k)
    ∙ sym (contains-union (names_of xs) (names_of ys) n))
