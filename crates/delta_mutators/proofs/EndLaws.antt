-- One more item at the end of a rising list.
use Rattle.std.proofs.Common.{◌≡◌, ℕ, zero, suc, ◌+◌, ◌-◌, ◌<◌, ◌≤◌, ◌&&◌, Bool, true, false, T, List, [], ◌∷◌, ◌++◌, map, length, get_or, refl, sym, ap, ◌∙◌, subst, arith, append_assoc, inl, inr}
use Rattle.std.specs.Prelude.{IsTrue}
use Rattle.std.specs.List.{list_all}
use Rattle.std.specs.Ordering.{nat_cmp, is_lt, ordering_reverse}
use Rattle.std.specs.Cmp.{IsTotalOrder}
use Rattle.std.specs.Cmp.Lexicographic.{slice_cmp}
use Rattle.std.specs.declared.cmp.Ordering.{Ordering}
use Rattle.std.specs.declared.cmp.Ordering.TheVariants.{Less, Equal, Greater}
use Rattle.std.specs.FinMap as finite
use Rattle.std.specs.FinMap.Entries as entry
use Rattle.std.proofs.Math.Bool.{and_assoc, and-false, and-true}
use Rattle.std.proofs.lemmas.Bool.{cases_Bool, and_parts, and_from}
use Rattle.std.proofs.lemmas.Cmp.{nat_list_cmp_total}
use Rattle.std.proofs.lemmas.List.{append-nil, map-append, map_push}
use Rattle.rights_lattice.specs.Cells.{Key, key_cmp, Valued, raise, marks_of}
use Rattle.rights_lattice.specs.State.{State, with_name, names_in_order}
use Rattle.rights_lattice.proofs.CellLaws.{key_cmp_total, same_cells, greatest-append, value_at-raise}
use Rattle.delta_mutators.specs.declared.delta.Item.{Item}
use Rattle.delta_mutators.specs.declared.delta.Item.TheVariants as item
use Rattle.rights_lattice.specs.Marks.{AreMarks, keyed_marks, are_rising_marks, cells_of, keyed_names, are_rising_names, names_of}
use Rattle.delta_mutators.specs.Lists.{state_from}
pub use Rattle.delta_mutators.specs.Lists.{AreLists}
pub use Rattle.rights_lattice.proofs.MergeLaws.{AreMarks-end}
use Rattle.rights_lattice.proofs.MergeLaws.{as_test, as_true}
use Rattle.delta_mutators.specs.Rises.{is_after_names, is_after_marks, follows, rises, pushed, names_in, marks_in}
use Rattle.rights_lattice.proofs.MarkLaws.{marks_of-cells_of, value_at-cells_of, names_in_order-names_of}

less : (o : Ordering) → is_lt o ≡ true → o ≡ Less
less Less e = refl
less Equal e = absurd cc
less Greater e = absurd cc

-- (a && b) && (c && d) as (a && c) && (b && d)
and_swap : (a b c d : Bool) → ((a && b) && (c && d)) ≡ ((a && c) && (b && d))
and_swap true true c d = refl
and_swap true false true d = refl
and_swap true false false d = refl
and_swap false b c d = refl

reversed : {K : Type 0} (R : K → K → Ordering) → IsTotalOrder R → (x k : K) → is_lt (R x k) ≡ true → R k x ≡ Greater
reversed R o x k h = o.antisymm k x ∙ ap ordering_reverse (less _ h)

lt_trans : {K : Type 0} (R : K → K → Ordering) → IsTotalOrder R → (x y k : K) → is_lt (R x y) ≡ true → is_lt (R y k) ≡ true → is_lt (R x k) ≡ true
lt_trans R o x y k p q = ap is_lt (o.trans x y k (less _ p) (less _ q))

module _ {K X : Type 0} (R : K → K → Ordering) (o : IsTotalOrder R) where
  -- all keys are below this one
  abbrev pub all_below : List (K × X) → K → Bool
  all_below es k = list_all (λ e. is_lt (R e.0 k)) es

  below_all-end : (x k : K) (v : X) (es : List (K × X)) → entry.below_all R x (es ++ (k, v) ∷ []) ≡ (entry.below_all R x es && is_lt (R x k))
  below_all-end x k v [] = and-true _
  below_all-end x k v (e ∷ es) = ap (λ b. is_lt (R x e.0) && b) (below_all-end x k v es)
      ∙ sym (and_assoc (is_lt (R x e.0)) (entry.below_all R x es) (is_lt (R x k)))

  pub is_sorted-end : (k : K) (v : X) (es : List (K × X)) → entry.is_sorted R (es ++ (k, v) ∷ []) ≡ (entry.is_sorted R es && all_below es k)
  is_sorted-end k v [] = refl
  is_sorted-end k v (e ∷ es) =
      (λ i. below_all-end e.0 k v es i && is_sorted-end k v es i)
      ∙ and_swap (entry.below_all R e.0 es) (is_lt (R e.0 k)) (entry.is_sorted R es) (all_below es k)

  below_all-front : (x : K) (es fs : List (K × X)) → entry.below_all R x (es ++ fs) ≡ true → entry.below_all R x es ≡ true
  below_all-front x [] fs h = refl
  below_all-front x (e ∷ es) fs h = let parts = and_parts _ _ h in and_from _ _ parts.0 (below_all-front x es fs parts.1)

  pub is_sorted-front : (es fs : List (K × X)) → entry.is_sorted R (es ++ fs) ≡ true → entry.is_sorted R es ≡ true
  is_sorted-front [] fs h = refl
  is_sorted-front (e ∷ es) fs h = let parts = and_parts _ _ h in and_from _ _ (below_all-front e.0 es fs parts.0) (is_sorted-front es fs parts.1)

  -- what comes after a front of a rising list is above all of it
  pub sorted-after : (k : K) (v : X) (es fs : List (K × X)) → entry.is_sorted R (es ++ (k, v) ∷ fs) ≡ true → all_below es k ≡ true
  sorted-after k v es fs h =
      let front = is_sorted-front (es ++ (k, v) ∷ []) fs (ap (entry.is_sorted R) (append_assoc es ((k, v) ∷ []) fs) ∙ h) in
      (and_parts _ _ (sym (is_sorted-end k v es) ∙ front)).1

  pub put-end : (k : K) (v : X) (es : List (K × X)) → all_below es k ≡ true → entry.put R k v es ≡ es ++ (k, v) ∷ []
  put-end k v [] h = refl
  put-end k v (e ∷ es) h =
      let parts = and_parts _ _ h in
      ap (λ (r : Ordering). entry.by_order r ((k, v) ∷ e ∷ es) ((e.0, v) ∷ es) (e ∷ entry.put R k v es)) (reversed R o e.0 k parts.0)
      ∙ ap (λ (t : List (K × X)). e ∷ t) (put-end k v es parts.1)

  last_step : {A : Type 0} (f : A → K × X) (x y : A) (ys : List A) (k : K) (last : Bool) → is_lt (R (f x).0 (f y).0) ≡ true
      → last ≡ list_all (λ a. is_lt (R (f a).0 k)) (y ∷ ys)
      → last ≡ (is_lt (R (f x).0 k) && list_all (λ a. is_lt (R (f a).0 k)) (y ∷ ys))
  last_step f x y ys k last lt e = elim (cases_Bool (list_all (λ a. is_lt (R (f a).0 k)) (y ∷ ys))) [
    | inl all ↦ let x_below = lt_trans R o (f x).0 (f y).0 k lt (and_parts _ _ all).0 in e ∙ all ∙ sym (and_from _ _ x_below all)
    | inr other ↦ e ∙ other ∙ sym (ap (λ b. is_lt (R (f x).0 k) && b) other ∙ and-false _)
  ]

  -- all of a rising list are below a key where its last is
  pub all-last : {A : Type 0} (f : A → K × X) (xs : List A) (i : ℕ) (d : A) (k : K) → i + 1 ≡ length xs → entry.is_sorted R (map f xs) ≡ true
      → is_lt (R (f (get_or xs i d)).0 k) ≡ list_all (λ a. is_lt (R (f a).0 k)) xs
  all-last f [] i d k e h = absurd (omega (arith, e))
  all-last f (x ∷ []) zero d k e h = sym (and-true _)
  all-last f (x ∷ []) (suc i) d k e h = absurd (omega (arith, e))
  all-last f (x ∷ y ∷ ys) zero d k e h = absurd (omega (arith, e))
  all-last f (x ∷ y ∷ ys) (suc i) d k e h =
      let parts = and_parts _ _ h in
      last_step f x y ys k _ (and_parts _ _ parts.0).0 (all-last f (y ∷ ys) i d k (omega (arith, e)) parts.1)

pub names_last : (ns : List (List ℕ)) (last e : List ℕ) → 0 < length ns → last ≡ get_or ns (length ns - 1) last → IsTrue (are_rising_names ns)
    → is_lt (slice_cmp nat_cmp last e) ≡ is_after_names ns e
names_last ns last e lt is h =
    ap (λ (n : List ℕ). is_lt (slice_cmp nat_cmp n e)) is
    ∙ all-last (slice_cmp nat_cmp) nat_list_cmp_total (λ (n : List ℕ). let u : Unit {0} = tt in (n, u)) ns (length ns - 1) last e (omega (arith, lt)) h

pub marks_last : (ms : List Valued) (last m : Valued) → 0 < length ms → last ≡ get_or ms (length ms - 1) last → IsTrue (are_rising_marks ms)
    → is_lt (key_cmp (last.event, last.cell) (m.event, m.cell)) ≡ is_after_marks ms m
marks_last ms last m lt is h =
    ap (λ (x : Valued). is_lt (key_cmp (x.event, x.cell) (m.event, m.cell))) is
    ∙ all-last key_cmp key_cmp_total (λ (x : Valued). ((x.event, x.cell), x.value - 1)) ms (length ms - 1) last (m.event, m.cell) (omega (arith, lt)) h

all_map : {A B : Type 0} (p : B → Bool) (f : A → B) (xs : List A) → list_all p (map f xs) ≡ list_all (λ x. p (f x)) xs
all_map p f [] = refl
all_map p f (x ∷ xs) = ap (λ b. p (f x) && b) (all_map p f xs)

names_end : (ns : List (List ℕ)) (e : List ℕ) → keyed_names (ns ++ e ∷ []) ≡ keyed_names ns ++ (e, tt) ∷ []
names_end ns e = map_push (λ (n : List ℕ). let u : Unit {0} = tt in (n, u)) ns e

marks_end : (ms : List Valued) (m : Valued) → keyed_marks (ms ++ m ∷ []) ≡ keyed_marks ms ++ ((m.event, m.cell), m.value - 1) ∷ []
marks_end ms m = map_push (λ (x : Valued). ((x.event, x.cell), x.value - 1)) ms m

names_below : (ns : List (List ℕ)) (e : List ℕ) → IsTrue (is_after_names ns e) → all_below (slice_cmp nat_cmp) nat_list_cmp_total (keyed_names ns) e ≡ true
names_below ns e h = all_map (λ (x : List ℕ × Unit {0}). is_lt (slice_cmp nat_cmp x.0 e)) (λ (n : List ℕ). let u : Unit {0} = tt in (n, u)) ns ∙ h

marks_below : (ms : List Valued) (m : Valued) → IsTrue (is_after_marks ms m) → all_below key_cmp key_cmp_total (keyed_marks ms) (m.event, m.cell) ≡ true
marks_below ms m h = all_map (λ (x : Key × ℕ). is_lt (key_cmp x.0 (m.event, m.cell))) (λ (x : Valued). ((x.event, x.cell), x.value - 1)) ms ∙ h

pub rising_names-end : (ns : List (List ℕ)) (e : List ℕ) → IsTrue (are_rising_names ns) → IsTrue (is_after_names ns e)
    → IsTrue (are_rising_names (ns ++ e ∷ []))
rising_names-end ns e h after =
    ap (entry.is_sorted (slice_cmp nat_cmp)) (names_end ns e) ∙ is_sorted-end (slice_cmp nat_cmp) nat_list_cmp_total e tt (keyed_names ns)
    ∙ and_from _ _ h (names_below ns e after)

pub rising_marks-end : (ms : List Valued) (m : Valued) → IsTrue (are_rising_marks ms) → IsTrue (is_after_marks ms m) → IsTrue (are_rising_marks (ms ++ m ∷ []))
rising_marks-end ms m h after =
    ap (entry.is_sorted key_cmp) (marks_end ms m) ∙ is_sorted-end key_cmp key_cmp_total (m.event, m.cell) (m.value - 1) (keyed_marks ms)
    ∙ and_from _ _ h (marks_below ms m after)

pub names_of-end : (ns : List (List ℕ)) (e : List ℕ) → IsTrue (are_rising_names ns) → IsTrue (is_after_names ns e)
    → names_of (ns ++ e ∷ []) ≡ with_name (names_of ns) e
unfolding with_name
names_of-end ns e h after =
    finite.same_entries_map _ _
    (finite.entries-from_sorted (slice_cmp nat_cmp) (keyed_names (ns ++ e ∷ [])) (as_test _ (rising_names-end ns e h after))
    ∙ names_end ns e
    ∙ sym (put-end (slice_cmp nat_cmp) nat_list_cmp_total e tt (keyed_names ns) (names_below ns e after))
    ∙ ap (entry.put (slice_cmp nat_cmp) e tt) (sym (finite.entries-from_sorted (slice_cmp nat_cmp) (keyed_names ns) (as_test _ h)))
    ∙ sym (finite.entries-insert nat_list_cmp_total (names_of ns) e tt))

pub cells_of-end : (ms : List Valued) (m : Valued) → IsTrue (are_rising_marks ms) → AreMarks ms → IsTrue (is_after_marks ms m) → 1 ≤ m.value
    → cells_of (ms ++ m ∷ []) ≡ raise (cells_of ms) m
cells_of-end ms m h k after v =
    same_cells _ _ (λ e c. omega (
      arith,
      value_at-cells_of (ms ++ m ∷ []) (rising_marks-end ms m h after) (AreMarks-end ms m k v) e c,
      value_at-cells_of ms h k e c,
      value_at-raise (cells_of ms) m e c,
      greatest-append ms (m ∷ []) e c,
    ))

pub rises_lists : (ns : List (List ℕ)) (ms : List Valued) (S : State) (i : Item) → AreLists ns ms → state_from ns ms ≡ S → rises S i ≡ follows ns ms i
rises_lists ns ms S i a view =
    ap (λ (T : State). rises T i) (sym view)
    ∙ (λ k. follows (names_in_order-names_of ns a.names_rise k) (marks_of-cells_of ms a.marks_rise a.positive k) i)

pub rises_name : (ns : List (List ℕ)) (ms : List Valued) (S : State) (i : Item) (e : List ℕ) (r : Bool) → AreLists ns ms → state_from ns ms ≡ S
    → i ≡ item.Name e → r ≡ is_after_names ns e → r ≡ rises S i
rises_name ns ms S i e r a view is r_is = r_is ∙ sym (rises_lists ns ms S i a view ∙ ap (follows ns ms) is)

pub rises_mark : (ns : List (List ℕ)) (ms : List Valued) (S : State) (i : Item) (m : Valued) (r : Bool) → AreLists ns ms → state_from ns ms ≡ S
    → i ≡ item.Cell m → r ≡ is_after_marks ms m → r ≡ rises S i
rises_mark ns ms S i m r a view is r_is = r_is ∙ sym (rises_lists ns ms S i a view ∙ ap (follows ns ms) is)

-- what follows from a push
pub record Pushes (ns ns' : List (List ℕ)) (ms ms' : List Valued) (S : State) (i : Item) : Type 0 where
  pub lists : AreLists ns' ms'
  pub ok : state_from ns' ms' ≡ pushed S i
  pub names : names_in_order (names_of ns') ≡ names_in_order S.names ++ names_in i
  pub marks : marks_of (cells_of ms') ≡ marks_of S.cells ++ marks_in i

pub pushes_name : (ns ns' : List (List ℕ)) (ms : List Valued) (S : State) (i : Item) (e : List ℕ) → AreLists ns ms → state_from ns ms ≡ S
    → IsTrue (rises S i) → i ≡ item.Name e → ns' ≡ ns ++ e ∷ [] → Pushes ns ns' ms ms S i
pushes_name ns ns' ms S i e a view r is new =
    let after = sym (rises_lists ns ms S i a view ∙ ap (follows ns ms) is) ∙ r in
    let rise = rising_names-end ns e a.names_rise after in
    let names = names_in_order-names_of ns a.names_rise in
    rw (is, new, ← view) record {
      lists = record { marks_rise = a.marks_rise; names_rise = rise; positive = a.positive };
      ok = λ k. record { cells = cells_of ms; names = names_of-end ns e a.names_rise after k };
      names = names_in_order-names_of (ns ++ e ∷ []) rise ∙ ap (λ (t : List (List ℕ)). t ++ e ∷ []) (sym names);
      marks = sym (append-nil _);
    }

pub pushes_mark : (ns : List (List ℕ)) (ms ms' : List Valued) (S : State) (i : Item) (m : Valued) → AreLists ns ms → state_from ns ms ≡ S
    → IsTrue (rises S i) → i ≡ item.Cell m → 1 ≤ m.value → ms' ≡ ms ++ m ∷ [] → Pushes ns ns ms ms' S i
pushes_mark ns ms ms' S i m a view r is v new =
    let after = sym (rises_lists ns ms S i a view ∙ ap (follows ns ms) is) ∙ r in
    let rise = rising_marks-end ms m a.marks_rise after in
    let positive = AreMarks-end ms m a.positive v in
    let marks = marks_of-cells_of ms a.marks_rise a.positive in
    rw (is, new, ← view) record {
      lists = record { marks_rise = rise; names_rise = a.names_rise; positive = positive };
      ok = λ k. record { cells = cells_of-end ms m a.marks_rise a.positive after v k; names = names_of ns };
      names = sym (append-nil _);
      marks = marks_of-cells_of (ms ++ m ∷ []) rise positive ∙ ap (λ (t : List Valued). t ++ m ∷ []) (sym marks);
    }

names_again : (es : List (List ℕ × Unit {0})) → keyed_names (map (λ (e : List ℕ × Unit {0}). e.0) es) ≡ es
names_again [] = refl
names_again (e ∷ es) = ap (λ (t : List (List ℕ × Unit {0})). e ∷ t) (names_again es)

marks_again : (es : List (Key × ℕ)) → keyed_marks (map (λ (e : Key × ℕ). let m : Valued = record { event = e.0.0; cell = e.0.1; value = e.1 + 1 } in m) es) ≡ es
marks_again [] = refl
marks_again (e ∷ es) = let v : e.1 + 1 - 1 ≡ e.1 = omega arith in λ i. ((e.0.0, e.0.1), v i) ∷ marks_again es i

all_positive : (es : List (Key × ℕ)) → AreMarks (map (λ (e : Key × ℕ). let m : Valued = record { event = e.0.0; cell = e.0.1; value = e.1 + 1 } in m) es)
all_positive [] = tt
all_positive (e ∷ es) = (omega arith, all_positive es)

-- the lists of a state rise
pub lists_of : (S : State) → AreLists (names_in_order S.names) (marks_of S.cells)
unfolding marks_of
lists_of S = record {
  marks_rise = as_true _ (subst (λ (es : List (Key × ℕ)). T (entry.is_sorted key_cmp es)) (sym (marks_again (finite.entries S.cells)))
      (finite.entries_sorted S.cells));
  names_rise = as_true _ (subst (λ (es : List (List ℕ × Unit {0})). T (entry.is_sorted (slice_cmp nat_cmp) es))
      (sym (names_again (finite.entries S.names))) (finite.entries_sorted S.names));
  positive = all_positive (finite.entries S.cells);
}

-- and the state is what they say
pub state_again : (S : State) → state_from (names_in_order S.names) (marks_of S.cells) ≡ S
unfolding marks_of
state_again S = λ i. record {
  cells = (ap finite.from_sorted (marks_again (finite.entries S.cells))
      ∙ finite.same_entries_map _ _ (finite.entries-from_sorted key_cmp (finite.entries S.cells) (finite.entries_sorted S.cells))) i;
  names = (ap finite.from_sorted (names_again (finite.entries S.names))
      ∙ finite.same_entries_map _ _ (finite.entries-from_sorted (slice_cmp nat_cmp) (finite.entries S.names) (finite.entries_sorted S.names))) i;
}

-- what comes after a front of rising lists is above all of it
pub name_after : (ns : List (List ℕ)) (e : List ℕ) (more : List (List ℕ)) → IsTrue (are_rising_names (ns ++ e ∷ more)) → IsTrue (is_after_names ns e)
name_after ns e more h =
    let whole = sym (map-append (λ (n : List ℕ). let u : Unit {0} = tt in (n, u)) ns (e ∷ more)) in
    sym (all_map (λ (x : List ℕ × Unit {0}). is_lt (slice_cmp nat_cmp x.0 e)) (λ (n : List ℕ). let u : Unit {0} = tt in (n, u)) ns)
    ∙ sorted-after (slice_cmp nat_cmp) nat_list_cmp_total e tt (keyed_names ns) (keyed_names more) (ap (entry.is_sorted (slice_cmp nat_cmp)) whole ∙ h)

pub mark_after : (ms : List Valued) (m : Valued) (more : List Valued) → IsTrue (are_rising_marks (ms ++ m ∷ more)) → IsTrue (is_after_marks ms m)
mark_after ms m more h =
    let whole = sym (map-append (λ (x : Valued). ((x.event, x.cell), x.value - 1)) ms (m ∷ more)) in
    sym (all_map (λ (x : Key × ℕ). is_lt (key_cmp x.0 (m.event, m.cell))) (λ (x : Valued). ((x.event, x.cell), x.value - 1)) ms)
    ∙ sorted-after key_cmp key_cmp_total (m.event, m.cell) (m.value - 1) (keyed_marks ms) (keyed_marks more) (ap (entry.is_sorted key_cmp) whole ∙ h)
