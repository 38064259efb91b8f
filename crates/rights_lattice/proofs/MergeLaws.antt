-- The steps of a merge of rising lists of marks.
use Rattle.std.proofs.Common.{◌≡◌, ℕ, zero, suc, ◌+◌, ◌-◌, ◌≤◌, ◌<◌, Bool, true, false, cond, T, List, [], ◌∷◌, ◌++◌, length, take, drop, get_or, refl, sym, ap, ◌∙◌, subst, arith, append_assoc}
use Rattle.std.specs.Prelude.{max, IsTrue, ◌==◌}
use Rattle.std.specs.Ordering.{is_lt, is_eq, eq_by_cmp, ordering_reverse}
use Rattle.std.specs.declared.cmp.Ordering.{Ordering}
use Rattle.std.specs.declared.cmp.Ordering.TheVariants.{Less, Equal, Greater}
use Rattle.std.specs.FinMap.Entries as entry
use Rattle.std.proofs.Math.Seq.{drop-cons}
use Rattle.std.proofs.lemmas.List.{length_push, take-append-drop}
use Rattle.std.proofs.lemmas.Bool.Decides.{nat_tests}
use Rattle.std.proofs.lemmas.List.Sums.{count_by_more_yes, count_by_more_no}
use Rattle.rights_lattice.specs.Cells.{Key, key_cmp, Valued, greatest, value_in, is_of}
use Rattle.rights_lattice.specs.declared.cell.Cell.{Cell}
use Rattle.rights_lattice.proofs.CellLaws.{less_not_equal, key_cmp_total, exact_keys, greatest-append}
use Rattle.rights_lattice.proofs.RightsLaws.{greatest-take_more, member_value}
use Rattle.rights_lattice.specs.Marks.{keyed_marks, are_rising_marks, AreMarks}
use Rattle.rights_lattice.specs.Merging.{IsMerged}
use Rattle.rights_lattice.proofs.RisingLaws.{first, second, less, BelowFirst, below_rest, rising_between, rising_tied}

pub as_test : (b : Bool) → IsTrue b → T b
as_test b h = subst T (sym h) tt

pub as_true : (b : Bool) → T b → IsTrue b
as_true true h = refl
as_true false h = absurd h

abbrev pub entry_of : Valued → Key × ℕ
entry_of m = ((m.event, m.cell), m.value - 1)

-- one more behind a list, and then the rest
pub append_one : {A : Type 0} (out : List A) (x : A) (rest : List A) → (out ++ x ∷ []) ++ rest ≡ out ++ x ∷ rest
append_one out x rest = append_assoc out (x ∷ []) rest

-- what is left from a place on begins with what stands there
pub drop_here : {A : Type 0} (ms : List A) (i : ℕ) (x : A) → i < length ms → x ≡ get_or ms i x → drop i ms ≡ x ∷ drop (i + 1) ms
drop_here ms i x lt is =
    let next : suc i ≡ i + 1 = omega arith in
    drop-cons ms i x lt ∙ (λ k. sym is k ∷ drop (next k) ms)

-- the cell of x comes before that of the first of the marks, if there is one
abbrev pub IsBelowFirst : Valued → List Valued → Type 0
IsBelowFirst x [] = Unit {0}
IsBelowFirst x (g ∷ gs) = key_cmp (x.event, x.cell) (g.event, g.cell) ≡ Less

pub below_first : (x : Valued) (gs : List Valued) → IsBelowFirst x gs → BelowFirst key_cmp key_cmp_total entry_of x gs
below_first x [] h = tt
below_first x (g ∷ gs) h = h

-- the taken list goes on into the rest of its own list, and into that of the other, whose first is above
own_rest : (ms out : List Valued) (i : ℕ) (x : Valued) → i < length ms → x ≡ get_or ms i x → IsTrue (are_rising_marks (out ++ drop i ms))
    → IsTrue (are_rising_marks ((out ++ x ∷ []) ++ drop (i + 1) ms))
own_rest ms out i x lt is h = ap are_rising_marks (append_one out x (drop (i + 1) ms) ∙ ap (λ (l : List Valued). out ++ l) (sym (drop_here ms i x lt is))) ∙ h

other_rest : (ms gs out : List Valued) (i : ℕ) (x : Valued) → i < length ms → x ≡ get_or ms i x → IsBelowFirst x gs
    → IsTrue (are_rising_marks (out ++ drop i ms)) → IsTrue (are_rising_marks (out ++ gs)) → IsTrue (are_rising_marks ((out ++ x ∷ []) ++ gs))
other_rest ms gs out i x lt is below h g =
    ap are_rising_marks (append_one out x gs)
    ∙ as_true _ (rising_between key_cmp key_cmp_total entry_of out (drop (i + 1) ms) gs x
    (as_test _ (ap are_rising_marks (ap (λ (l : List Valued). out ++ l) (sym (drop_here ms i x lt is))) ∙ h)) (as_test _ g) (below_first x gs below))

tied_rest : (ms out : List Valued) (i : ℕ) (x m : Valued) → i < length ms → x ≡ get_or ms i x → m.event ≡ x.event → m.cell ≡ x.cell
    → IsTrue (are_rising_marks (out ++ drop i ms)) → IsTrue (are_rising_marks ((out ++ m ∷ []) ++ drop (i + 1) ms))
tied_rest ms out i x m lt is p q h =
    ap are_rising_marks (append_one out m (drop (i + 1) ms))
    ∙ rising_tied key_cmp key_cmp_total entry_of out (drop (i + 1) ms) x m (λ k. (p k, q k))
    ∙ ap are_rising_marks (ap (λ (l : List Valued). out ++ l) (sym (drop_here ms i x lt is))) ∙ h

pub AreMarks-end : (out : List Valued) (x : Valued) → AreMarks out → 1 ≤ x.value → AreMarks (out ++ x ∷ [])
AreMarks-end [] x h p = (p, tt)
AreMarks-end (y ∷ out) x h p = (h.0, AreMarks-end out x h.1 p)

pub positive_at : (ms : List Valued) (i : ℕ) (x : Valued) → i < length ms → x ≡ get_or ms i x → AreMarks ms → 1 ≤ x.value
positive_at [] i x lt is h = absurd (omega arith)
positive_at (m ∷ ms) zero x lt is h = subst (λ (y : Valued). 1 ≤ y.value) (sym is) h.0
positive_at (m ∷ ms) (suc i) x lt is h = positive_at ms i x (omega arith) is h.1

not_Equal : (r : Ordering) → r ≡ Greater → is_eq r ≡ false
not_Equal Less h = cc
not_Equal Equal h = cc
not_Equal Greater h = refl

-- a cell below a rising list has no mark in it
pub none_below : (q : Key) (ms : List Valued) → T (entry.below_all key_cmp q (keyed_marks ms)) → greatest ms q.0 q.1 ≡ 0
none_below q [] h = refl
none_below q (m ∷ ms) h =
    let here : T (is_lt (key_cmp q (m.event, m.cell))) = first _ _ h in
    let rest : T (entry.below_all key_cmp q (keyed_marks ms)) = second (is_lt (key_cmp q (m.event, m.cell))) _ h in
    let no : is_of m q.0 q.1 ≡ false = less_not_equal _ here in
    let none : value_in m q.0 q.1 ≡ 0 = ap (λ b. cond b m.value 0) no in
    omega (arith, none, none_below q ms rest)

above_of : (q : Key) (ms rest : List Valued) (x : Valued) → T (entry.below_all key_cmp q (keyed_marks (ms ++ x ∷ rest))) → key_cmp q (x.event, x.cell) ≡ Less
above_of q [] rest x h = less _ (first _ _ h)
above_of q (m ∷ ms) rest x h = above_of q ms rest x (second _ _ h)

-- nor has one in what comes before it
pub none_before : (ms rest : List Valued) (x : Valued) → T (entry.is_sorted key_cmp (keyed_marks (ms ++ x ∷ rest))) → greatest ms x.event x.cell ≡ 0
none_before [] rest x h = refl
none_before (m ∷ ms) rest x h =
    let lt : key_cmp (m.event, m.cell) (x.event, x.cell) ≡ Less = above_of (m.event, m.cell) ms rest x (first _ _ h) in
    let no : is_of m x.event x.cell ≡ false = not_Equal _ (key_cmp_total.antisymm (x.event, x.cell) (m.event, m.cell) ∙ ap ordering_reverse lt) in
    let none : value_in m x.event x.cell ≡ 0 = ap (λ b. cond b m.value 0) no in
    omega (arith, none, none_before ms rest x (second _ _ h))

pub rest_sorted : (out gs : List Valued) → T (entry.is_sorted key_cmp (keyed_marks (out ++ gs))) → T (entry.is_sorted key_cmp (keyed_marks gs))
rest_sorted [] gs h = h
rest_sorted (m ∷ out) gs h = rest_sorted out gs (second _ _ h)

-- a mark of ys between what is merged and the rest of xs is on a cell that xs lacks
absent : (xs ys out : List Valued) (i j : ℕ) (y : Valued) → j < length ys → y ≡ get_or ys j y → IsBelowFirst y (drop i xs) → IsMerged xs ys out i j
    → greatest xs y.event y.cell ≡ 0
absent xs ys out i j y lt is below h =
    let before = none_before out (drop (j + 1) ys) y
    (as_test _ (ap are_rising_marks (ap (λ (l : List Valued). out ++ l) (sym (drop_here ys j y lt is))) ∙ h.right_rises)) in
    let after = none_below (y.event, y.cell) (drop i xs)
    (below_rest key_cmp key_cmp_total entry_of y (drop i xs) (below_first y (drop i xs) below) (rest_sorted out (drop i xs) (as_test _ h.left_rises))) in
    let split : greatest xs y.event y.cell ≡ max (greatest (take i xs) y.event y.cell) (greatest (drop i xs) y.event y.cell)
    = ap (λ (l : List Valued). greatest l y.event y.cell) (sym (take-append-drop i xs)) ∙ greatest-append (take i xs) (drop i xs) y.event y.cell in
    omega (arith, before, after, split, h.greater y.event y.cell)

is_zero : (n : ℕ) → n ≡ 0 → (n == 0) ≡ true
is_zero zero h = refl
is_zero (suc n) h = absurd (omega arith)

pub not_zero : (n : ℕ) → 1 ≤ n → (n == 0) ≡ false
not_zero zero h = absurd (omega arith)
not_zero (suc n) h = grind (arith, nat_tests)

pub start : (xs ys : List Valued) → IsTrue (are_rising_marks xs) → IsTrue (are_rising_marks ys) → IsMerged xs ys [] 0 0
start xs ys g h = record {
  left_within = omega arith;
  right_within = omega arith;
  left_rises = g;
  right_rises = h;
  positive = tt;
  greater = λ e c. refl;
  size = refl;
}

pub take_left : (xs ys out : List Valued) (i j : ℕ) (x : Valued) → AreMarks xs → i < length xs → x ≡ get_or xs i x → IsBelowFirst x (drop j ys)
    → IsMerged xs ys out i j → IsMerged xs ys (out ++ x ∷ []) (i + 1) j
take_left xs ys out i j x marks lt is below h = record {
  left_within = omega arith;
  right_within = h.right_within;
  left_rises = own_rest xs out i x lt is h.left_rises;
  right_rises = other_rest xs (drop j ys) out i x lt is below h.left_rises h.right_rises;
  positive = AreMarks-end out x h.positive (positive_at xs i x lt is marks);
  greater = λ e c. omega (arith, greatest-append out (x ∷ []) e c, h.greater e c, greatest-take_more xs i x e c lt is);
  size = omega (arith, length_push out x, h.size);
}

pub take_right : (xs ys out : List Valued) (i j : ℕ) (y : Valued) → AreMarks ys → j < length ys → y ≡ get_or ys j y → IsBelowFirst y (drop i xs)
    → IsMerged xs ys out i j → IsMerged xs ys (out ++ y ∷ []) i (j + 1)
take_right xs ys out i j y marks lt is below h =
    let none = absent xs ys out i j y lt is below h in
    record {
      left_within = h.left_within;
      right_within = omega arith;
      left_rises = other_rest ys (drop i xs) out j y lt is below h.right_rises h.left_rises;
      right_rises = own_rest ys out j y lt is h.right_rises;
      positive = AreMarks-end out y h.positive (positive_at ys j y lt is marks);
      greater = λ e c. omega (arith, greatest-append out (y ∷ []) e c, h.greater e c, greatest-take_more ys j y e c lt is);
      size = omega (
        arith,
        length_push out y,
        h.size,
        count_by_more_yes (λ (m : Valued). greatest xs m.event m.cell == 0) ys j y lt
            (subst (λ (m : Valued). (greatest xs m.event m.cell == 0) ≡ true) is (is_zero _ none)),
      );
    }

same_key : (x m : Valued) (e : List ℕ) (c : Cell) → m.event ≡ x.event → m.cell ≡ x.cell → value_in x e c ≡ cond (is_of m e c) x.value 0
same_key x m e c p q = λ k. cond (eq_by_cmp key_cmp (e, c) (sym p k, sym q k)) x.value 0

cond_max : (b : Bool) (u v w : ℕ) → w ≡ max u v → cond b w 0 ≡ max (cond b u 0) (cond b v 0)
cond_max true u v w h = h
cond_max false u v w h = refl

value_in-max : (x y m : Valued) (e : List ℕ) (c : Cell) → m.event ≡ x.event → m.cell ≡ x.cell → m.event ≡ y.event → m.cell ≡ y.cell
    → m.value ≡ max x.value y.value → value_in m e c ≡ max (value_in x e c) (value_in y e c)
value_in-max x y m e c p q r s v = cond_max (is_of m e c) x.value y.value m.value v ∙ (λ k. max (sym (same_key x m e c p q) k) (sym (same_key y m e c r s) k))

pub take_both : (xs ys out : List Valued) (i j : ℕ) (x y m : Valued) → AreMarks xs → AreMarks ys → i < length xs → j < length ys → x ≡ get_or xs i x
    → y ≡ get_or ys j y
    → key_cmp (x.event, x.cell) (y.event, y.cell) ≡ Equal → m.event ≡ x.event → m.cell ≡ x.cell → m.value ≡ max x.value y.value
    → IsMerged xs ys out i j → IsMerged xs ys (out ++ m ∷ []) (i + 1) (j + 1)
take_both xs ys out i j x y m left_marks right_marks i_lt j_lt x_is y_is tie p q v h =
    let key = exact_keys _ _ tie in
    let r : m.event ≡ y.event = p ∙ ap (λ (k : Key). k.0) key in
    let s : m.cell ≡ y.cell = q ∙ ap (λ (k : Key). k.1) key in
    let some = positive_at xs i x i_lt x_is left_marks in
    let found = member_value xs i x i_lt x_is in
    let found_y : x.value ≤ greatest xs y.event y.cell = subst (λ (k : Key). x.value ≤ greatest xs k.0 k.1) key found in
    record {
      left_within = omega arith;
      right_within = omega arith;
      left_rises = tied_rest xs out i x m i_lt x_is p q h.left_rises;
      right_rises = tied_rest ys out j y m j_lt y_is r s h.right_rises;
      positive = AreMarks-end out m h.positive (omega (arith, some, v));
      greater = λ e c. omega (
        arith,
        greatest-append out (m ∷ []) e c,
        h.greater e c,
        greatest-take_more xs i x e c i_lt x_is,
        greatest-take_more ys j y e c j_lt y_is,
        value_in-max x y m e c p q r s v,
      );
      size = omega (
        arith,
        length_push out m,
        h.size,
        count_by_more_no (λ (m : Valued). greatest xs m.event m.cell == 0) ys j y j_lt
            (subst (λ (m : Valued). (greatest xs m.event m.cell == 0) ≡ false) y_is (not_zero _ (omega (arith, some, found_y)))),
      );
    }

-- what comes first in the rest of the other list
pub past_end : (x : Valued) (ms : List Valued) (i : ℕ) → length ms ≤ i → IsBelowFirst x (drop i ms)
past_end x [] zero h = tt
past_end x [] (suc i) h = tt
past_end x (m ∷ ms) zero h = absurd (omega arith)
past_end x (m ∷ ms) (suc i) h = past_end x ms i (omega arith)

pub not_yet : (x y : Valued) (ms : List Valued) (i : ℕ) → i < length ms → y ≡ get_or ms i y → key_cmp (x.event, x.cell) (y.event, y.cell) ≡ Less
    → IsBelowFirst x (drop i ms)
not_yet x y ms i lt is h = subst (IsBelowFirst x) (sym (drop_here ms i y lt is)) h

pub turned : (x y : Valued) → key_cmp (x.event, x.cell) (y.event, y.cell) ≡ Greater → key_cmp (y.event, y.cell) (x.event, x.cell) ≡ Less
turned x y h = key_cmp_total.antisymm (y.event, y.cell) (x.event, x.cell) ∙ ap ordering_reverse h
