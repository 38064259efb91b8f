-- The cells that one state has and another lacks, one raise at a time.
use Rattle.std.proofs.Common.{◌≡◌, ℕ, ◌+◌, ◌-◌, ◌≤◌, length, Bool, true, false, cond, T, List, [], ◌∷◌, map, refl, sym, ap, ◌∙◌, subst, arith}
use Rattle.std.specs.Prelude.{◌==◌}
use Rattle.std.specs.List.{count_by}
use Rattle.std.specs.Ordering.{is_lt}
use Rattle.std.specs.FinMap as finite
use Rattle.std.specs.FinMap.Entries as entry
use Rattle.std.proofs.lemmas.List.{length-map}
use Rattle.std.proofs.lemmas.List.Sums.{sum_by-append, count_by-le-length}
use Rattle.rights_lattice.specs.Cells.{Key, key_cmp, Cells, Valued, value_at, all_zero, raise, marks_of, greatest, value_in, is_of}
use Rattle.rights_lattice.specs.RightsView.{missing}
use Rattle.rights_lattice.proofs.MergeLaws.{not_zero}
use Rattle.rights_lattice.proofs.CellLaws.{both_true, less_not_equal, key_cmp_total, value_at-raise, greatest-marks_of, of_same, value_in-same, is_of-same}

mark_of : Key × ℕ → Valued
mark_of e = record { event = e.0.0; cell = e.0.1; value = e.1 + 1 }

-- two tests that differ at one key alone, where the second is false
record DifferAt (q : Key) (P Q : Valued → Bool) (b : Bool) : Type 0 where
  elsewhere : (m : Valued) → is_of m q.0 q.1 ≡ false → P m ≡ Q m
  now_false : (m : Valued) → is_of m q.0 q.1 ≡ true → Q m ≡ false
  before : (m : Valued) → is_of m q.0 q.1 ≡ true → P m ≡ b

abbrev one : Bool → ℕ
one b = cond b 1 0

counted : (P : Valued → Bool) (m : Valued) (ms : List Valued) → count_by P (m ∷ ms) ≡ cond (P m) 1 0 + count_by P ms
counted P m ms =
    let start : 0 + one (P m) + count_by P ms ≡ one (P m) + count_by P ms = omega arith in
    sum_by-append (λ x. one (P x)) (m ∷ []) ms ∙ start

count_below : (q : Key) (P Q : Valued → Bool) (b : Bool) (es : List (Key × ℕ)) → DifferAt q P Q b → T (entry.below_all key_cmp q es)
    → count_by P (map mark_of es) ≡ count_by Q (map mark_of es)
unfolding mark_of
count_below q P Q b [] d h = refl
count_below q P Q b (e ∷ es) d h =
    let parts : T (is_lt (key_cmp q e.0)) × T (entry.below_all key_cmp q es) = both_true _ _ h in
    let same : one (P (mark_of e)) ≡ one (Q (mark_of e)) = ap one (d.elsewhere (mark_of e) (less_not_equal _ parts.0)) in
    omega (arith, same, counted P (mark_of e) (map mark_of es), counted Q (mark_of e) (map mark_of es), count_below q P Q b es d parts.1)

count_at : (q : Key) (P Q : Valued → Bool) (b : Bool) (es : List (Key × ℕ)) → DifferAt q P Q b → T (entry.is_sorted key_cmp es)
    → 1 ≤ greatest (map mark_of es) q.0 q.1 → count_by P (map mark_of es) ≡ count_by Q (map mark_of es) + cond b 1 0
unfolding mark_of
count_at q P Q b [] d h some = absurd (omega arith)
count_at q P Q b (e ∷ es) d h some =
    let parts : T (entry.below_all key_cmp e.0 es) × T (entry.is_sorted key_cmp es) = both_true _ _ h in
    elim (is_of (mark_of e) q.0 q.1) as (λ t. is_of (mark_of e) q.0 q.1 ≡ t
    → count_by P (map mark_of (e ∷ es)) ≡ count_by Q (map mark_of (e ∷ es)) + cond b 1 0) [
      | true ↦ λ t.
          let key : q ≡ e.0 = of_same (mark_of e) q.0 q.1 t in
          let rest = count_below q P Q b es d (subst (λ (x : Key). T (entry.below_all key_cmp x es)) (sym key) parts.0) in
          let p : one (P (mark_of e)) ≡ one b = ap one (d.before (mark_of e) t) in
          let r : one (Q (mark_of e)) ≡ 0 = ap one (d.now_false (mark_of e) t) in
          omega (arith, rest, p, r, counted P (mark_of e) (map mark_of es), counted Q (mark_of e) (map mark_of es))
      | false ↦ λ t.
          let same : one (P (mark_of e)) ≡ one (Q (mark_of e)) = ap one (d.elsewhere (mark_of e) t) in
          let none : value_in (mark_of e) q.0 q.1 ≡ 0 = ap (λ x. cond x (mark_of e).value 0) t in
          let more : 1 ≤ greatest (map mark_of es) q.0 q.1 = omega (arith, some, none) in
          omega (arith, same, count_at q P Q b es d parts.1 more, counted P (mark_of e) (map mark_of es), counted Q (mark_of e) (map mark_of es))
    ] refl

-- a raise to a cell of Y takes as much room as it takes from what is missing
pub missing-raise : (X Y : Cells) (m : Valued) → 1 ≤ m.value → 1 ≤ value_at Y m.event m.cell
    → missing X Y ≡ missing (raise X m) Y + cond (value_at X m.event m.cell == 0) 1 0
unfolding marks_of mark_of
missing-raise X Y m some here =
    let q : Key = (m.event, m.cell) in
    count_at q (λ n. value_at X n.event n.cell == 0) (λ n. value_at (raise X m) n.event n.cell == 0) (value_at X m.event m.cell == 0) (finite.entries Y)
    (record {
      elsewhere = λ n t.
          let apart : value_in m n.event n.cell ≡ 0 = elim (is_of m n.event n.cell) as (λ b. is_of m n.event n.cell ≡ b → cond b m.value 0 ≡ 0) [
            | true ↦ λ u. let key = of_same m n.event n.cell u in
                let back : is_of n m.event m.cell ≡ true = subst (λ (k : Key). is_of n k.0 k.1 ≡ true) key (is_of-same n) in
                absurd (subst T (sym back ∙ t) tt)
            | false ↦ λ u. refl
          ] refl in
          let same : value_at (raise X m) n.event n.cell ≡ value_at X n.event n.cell = omega (arith, value_at-raise X m n.event n.cell, apart) in
          ap (λ v. v == 0) (sym same);
      now_false = λ n t.
          let key = of_same n m.event m.cell t in
          let at : value_in m n.event n.cell ≡ m.value = value_in-same m n.event n.cell (ap (λ (k : Key). k.0) (sym key)) (ap (λ (k : Key). k.1) (sym key)) in
          not_zero _ (omega (arith, value_at-raise X m n.event n.cell, at, some));
      before = λ n t. ap (λ (k : Key). value_at X k.0 k.1 == 0) (sym (of_same n m.event m.cell t));
    })
    (finite.entries_sorted Y) (omega (arith, greatest-marks_of Y m.event m.cell, here))

-- no more cells are missing than the other state has
pub missing_le-marks : (X Y : Cells) → missing X Y ≤ length (marks_of Y)
missing_le-marks X Y = count_by-le-length (λ m. value_at X m.event m.cell == 0) (marks_of Y)

length-marks_of : (X : Cells) → length (marks_of X) ≡ finite.len X
unfolding marks_of mark_of
length-marks_of X = length-map (finite.entries X) mark_of ∙ sym (finite.len-entries X)

pub length-marks_of-all_zero : length (marks_of all_zero) ≡ 0
unfolding all_zero
length-marks_of-all_zero = length-marks_of all_zero ∙ finite.len-empty key_cmp ℕ

one_more : (b : Bool) (n : ℕ) → cond b n (n + 1) ≤ n + 1
one_more true n = omega arith
one_more false n = omega arith

either : (b : Bool) (X Y : Cells) (n : ℕ) → length (marks_of X) ≤ n → length (marks_of Y) ≤ n → length (marks_of (cond b X Y)) ≤ n
either true X Y n p q = p
either false X Y n p q = q

-- a raise makes at most one cell more that is not 0
pub length-marks_of-raise : (X : Cells) (m : Valued) → length (marks_of (raise X m)) ≤ length (marks_of X) + 1
unfolding raise
length-marks_of-raise X m =
    let Y : Cells = finite.insert X (m.event, m.cell) (m.value - 1) in
    let grown : finite.len Y ≡ cond (finite.contains_key X (m.event, m.cell)) (finite.len X) (finite.len X + 1) = finite.len-insert key_cmp_total X
    (m.event, m.cell) (m.value - 1) in
    let most = one_more (finite.contains_key X (m.event, m.cell)) (finite.len X) in
    either _ X Y (length (marks_of X) + 1) (omega arith) (omega (arith, grown, most, length-marks_of X, length-marks_of Y))
