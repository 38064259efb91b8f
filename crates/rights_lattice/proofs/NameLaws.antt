-- The steps of a merge of rising lists of names.
use Rattle.std.proofs.Common.{◌≡◌, ℕ, zero, suc, ◌+◌, ◌≤◌, ◌<◌, Bool, true, false, ◌||◌, List, [], ◌∷◌, ◌++◌, length, take, drop, get_or, refl, sym, ap, ◌∙◌, subst, arith}
use Rattle.std.specs.Prelude.{IsTrue}
use Rattle.std.specs.Ordering.{nat_cmp, eq_by_cmp, ordering_reverse}
use Rattle.std.specs.Cmp.Lexicographic.{slice_cmp}
use Rattle.std.specs.declared.cmp.Ordering.TheVariants.{Less, Equal, Greater}
use Rattle.std.proofs.lemmas.List.{take_more}
use Rattle.std.proofs.lemmas.Cmp.{nat_list_cmp_total}
use Rattle.std.proofs.lemmas.Map.Lookups.{exact_bytes}
use Rattle.rights_lattice.specs.Marks.{are_rising_names}
use Rattle.rights_lattice.specs.Merging.{IsMergedNames, has}
use Rattle.rights_lattice.proofs.MergeLaws.{append_one, as_test, as_true, drop_here}
use Rattle.rights_lattice.proofs.RisingLaws.{BelowFirst, rising_between}
use Rattle.rights_lattice.proofs.OrLaws.{or_assoc}

abbrev pub name_entry : List ℕ → List ℕ × Unit {0}
name_entry n = (n, tt)

abbrev pub IsFirst : List ℕ → List (List ℕ) → Type 0
IsFirst = BelowFirst (slice_cmp nat_cmp) nat_list_cmp_total name_entry

own_rest : (ms out : List (List ℕ)) (i : ℕ) (x : List ℕ) → i < length ms → x ≡ get_or ms i x → IsTrue (are_rising_names (out ++ drop i ms))
    → IsTrue (are_rising_names ((out ++ x ∷ []) ++ drop (i + 1) ms))
own_rest ms out i x lt is h = ap are_rising_names (append_one out x (drop (i + 1) ms) ∙ ap (λ (l : List (List ℕ)). out ++ l) (sym (drop_here ms i x lt is))) ∙ h

other_rest : (ms gs out : List (List ℕ)) (i : ℕ) (x : List ℕ) → i < length ms → x ≡ get_or ms i x → IsFirst x gs
    → IsTrue (are_rising_names (out ++ drop i ms)) → IsTrue (are_rising_names (out ++ gs)) → IsTrue (are_rising_names ((out ++ x ∷ []) ++ gs))
other_rest ms gs out i x lt is below h g =
    ap are_rising_names (append_one out x gs)
    ∙ as_true _ (rising_between (slice_cmp nat_cmp) nat_list_cmp_total name_entry out (drop (i + 1) ms) gs x
    (as_test _ (ap are_rising_names (ap (λ (l : List (List ℕ)). out ++ l) (sym (drop_here ms i x lt is))) ∙ h)) (as_test _ g) below)

has-append : (name : List ℕ) (ms ns : List (List ℕ)) → has name (ms ++ ns) ≡ (has name ms || has name ns)
has-append name [] ns = refl
has-append name (m ∷ ms) ns = ap (λ b. eq_by_cmp (slice_cmp nat_cmp) name m || b) (has-append name ms ns)
    ∙ sym (or_assoc (eq_by_cmp (slice_cmp nat_cmp) name m) (has name ms) (has name ns))

has-take_more : (name : List ℕ) (ms : List (List ℕ)) (i : ℕ) (x : List ℕ) → i < length ms → x ≡ get_or ms i x
    → has name (take (i + 1) ms) ≡ (has name (take i ms) || has name (x ∷ []))
has-take_more name ms i x lt is =
    ap (has name) (take_more ms i x lt ∙ ap (λ (y : List ℕ). take i ms ++ y ∷ []) (sym is)) ∙ has-append name (take i ms) (x ∷ [])

left_one : (a b x : Bool) → ((a || b) || x) ≡ ((a || x) || b)
left_one true b x = refl
left_one false true true = refl
left_one false true false = refl
left_one false false true = refl
left_one false false false = refl

both_one : (a b x : Bool) → ((a || b) || x) ≡ ((a || x) || (b || x))
both_one true b x = refl
both_one false true true = refl
both_one false true false = refl
both_one false false true = refl
both_one false false false = refl

pub start : (xs ys : List (List ℕ)) → IsTrue (are_rising_names xs) → IsTrue (are_rising_names ys) → IsMergedNames xs ys [] 0 0
start xs ys g h = record { left_within = omega arith; right_within = omega arith; left_rises = g; right_rises = h; known = λ name. refl }

pub take_left : (xs ys out : List (List ℕ)) (i j : ℕ) (x : List ℕ) → i < length xs → x ≡ get_or xs i x → IsFirst x (drop j ys)
    → IsMergedNames xs ys out i j → IsMergedNames xs ys (out ++ x ∷ []) (i + 1) j
take_left xs ys out i j x lt is below h = record {
  left_within = omega arith;
  right_within = h.right_within;
  left_rises = own_rest xs out i x lt is h.left_rises;
  right_rises = other_rest xs (drop j ys) out i x lt is below h.left_rises h.right_rises;
  known = λ name. has-append name out (x ∷ []) ∙ ap (λ b. b || has name (x ∷ [])) (h.known name)
      ∙ left_one (has name (take i xs)) (has name (take j ys)) (has name (x ∷ []))
      ∙ ap (λ b. b || has name (take j ys)) (sym (has-take_more name xs i x lt is));
}

pub take_right : (xs ys out : List (List ℕ)) (i j : ℕ) (y : List ℕ) → j < length ys → y ≡ get_or ys j y → IsFirst y (drop i xs)
    → IsMergedNames xs ys out i j → IsMergedNames xs ys (out ++ y ∷ []) i (j + 1)
take_right xs ys out i j y lt is below h = record {
  left_within = h.left_within;
  right_within = omega arith;
  left_rises = other_rest ys (drop i xs) out j y lt is below h.right_rises h.left_rises;
  right_rises = own_rest ys out j y lt is h.right_rises;
  known = λ name. has-append name out (y ∷ []) ∙ ap (λ b. b || has name (y ∷ [])) (h.known name)
      ∙ or_assoc (has name (take i xs)) (has name (take j ys)) (has name (y ∷ []))
      ∙ ap (λ b. has name (take i xs) || b) (sym (has-take_more name ys j y lt is));
}

pub take_both : (xs ys out : List (List ℕ)) (i j : ℕ) (x y : List ℕ) → i < length xs → j < length ys → x ≡ get_or xs i x → y ≡ get_or ys j y
    → slice_cmp nat_cmp x y ≡ Equal → IsMergedNames xs ys out i j → IsMergedNames xs ys (out ++ x ∷ []) (i + 1) (j + 1)
take_both xs ys out i j x y i_lt j_lt x_is y_is tie h =
    let same : x ≡ y = exact_bytes x y tie in
    let also : x ≡ get_or ys j x = subst (λ (z : List ℕ). z ≡ get_or ys j z) (sym same) y_is in
    record {
      left_within = omega arith;
      right_within = omega arith;
      left_rises = own_rest xs out i x i_lt x_is h.left_rises;
      right_rises = own_rest ys out j x j_lt also h.right_rises;
      known = λ name. has-append name out (x ∷ []) ∙ ap (λ b. b || has name (x ∷ [])) (h.known name)
          ∙ both_one (has name (take i xs)) (has name (take j ys)) (has name (x ∷ []))
          ∙ (λ k. sym (has-take_more name xs i x i_lt x_is) k || sym (has-take_more name ys j x j_lt also) k);
    }

pub past_end : (x : List ℕ) (ms : List (List ℕ)) (i : ℕ) → length ms ≤ i → IsFirst x (drop i ms)
past_end x [] zero h = tt
past_end x [] (suc i) h = tt
past_end x (m ∷ ms) zero h = absurd (omega arith)
past_end x (m ∷ ms) (suc i) h = past_end x ms i (omega arith)

pub not_yet : (x y : List ℕ) (ms : List (List ℕ)) (i : ℕ) → i < length ms → y ≡ get_or ms i y → slice_cmp nat_cmp x y ≡ Less → IsFirst x (drop i ms)
not_yet x y ms i lt is h = subst (IsFirst x) (sym (drop_here ms i y lt is)) h

pub turned : (x y : List ℕ) → slice_cmp nat_cmp x y ≡ Greater → slice_cmp nat_cmp y x ≡ Less
turned x y h = nat_list_cmp_total.antisymm y x ∙ ap ordering_reverse h
