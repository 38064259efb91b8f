-- The cells of a table from spots to values: as it is looked up, and after a write.
use Rattle.std.proofs.Common.{◌≡◌, ℕ, zero, suc, ◌+◌, ◌≤◌, ◌<◌, Bool, true, false, cond, ◌&&◌, ◌||◌, leb-true, le-leb, List, [], ◌∷◌, ◌++◌, max, Some, None, refl, sym, ap, ◌∙◌, subst, arith}
use Rattle.std.specs.Option.{unwrap_or}
use Rattle.std.specs.Prelude.{nat_le, ◌==◌}
use Rattle.std.proofs.lemmas.Bool.{and_parts, and_from}
use Rattle.std.specs.List.{list_all, All, AllByRecursion, IsDistinct}
use Rattle.std.specs.Map.{keys_of, lookup, set_value}
use Rattle.std.proofs.lemmas.List.Elements.{All-append}
use Rattle.rights_lattice.specs.declared.cell.Cell.{Cell}
use Rattle.rights_lattice.specs.declared.cell.Cell.TheVariants.{Gave, Used, Back}
use Rattle.rights_lattice.specs.contracts.cell.CellPartialEq.TheImpl as cells_eq
use Rattle.rights_lattice.specs.Cell.{same_cell, same_event}
use Rattle.rights_lattice.specs.Cells.{Key, Cells, Valued, value_at, all_zero, raise, raise_all, greatest, value_in, is_of, greatest_value}
use Rattle.rights_lattice.specs.RightsView.{RightsView, IsCellOf, IsWithin, missing}
use Rattle.rights_lattice.specs.Spots.{same_spot, marks_in, cells_in, IsValued, AreSpots}
use Rattle.rights_lattice.proofs.CellLaws.{same_cells, value_at-raise, of_same, value_in-same}
use Rattle.rights_lattice.proofs.RightsLaws.{value_at-marks}
use Rattle.rights_lattice.proofs.MissingLaws.{missing-raise}
use Rattle.rights_lattice.proofs.SpotLaws.{is_of-tests}
use mathlib.Core.Path.{fun_ext}

-- the program's test of two cells
pub cell_eq : (c d : Cell) → cells_eq.ghosts.eq c d ≡ same_cell c d
cell_eq (Gave a b) (Gave k l) = refl
cell_eq (Gave a b) (Used k) = refl
cell_eq (Gave a b) (Back k) = refl
cell_eq (Used a) (Gave k l) = refl
cell_eq (Used a) (Used k) = refl
cell_eq (Used a) (Back k) = refl
cell_eq (Back a) (Gave k l) = refl
cell_eq (Back a) (Used k) = refl
cell_eq (Back a) (Back k) = refl

-- the program's test of two spots
abbrev pub key_eq : Key → Key → Bool
key_eq q k = same_event q.0 k.0 && cells_eq.ghosts.eq q.1 k.1

key_eq_is : key_eq ≡ same_spot
key_eq_is = fun_ext (λ q. fun_ext (λ k. ap (λ b. same_event q.0 k.0 && b) (cell_eq q.1 k.1)))

-- what an entry says
abbrev pub mark_of : Key × ℕ → Valued
mark_of e = record { event = e.0.0; cell = e.0.1; value = e.1 }

pub same_spot_is : (q k : Key) → same_spot q k ≡ true → q ≡ k
same_spot_is q k t = let m : Valued = record { event = k.0; cell = k.1; value = 0 } in of_same m q.0 q.1 (is_of-tests m q.0 q.1 ∙ t)

-- the value of an entry at a spot
said : (e : Key × ℕ) (q : Key) → value_in (mark_of e) q.0 q.1 ≡ cond (same_spot q e.0) e.1 0
said e q = ap (λ b. cond b e.1 0) (is_of-tests (mark_of e) q.0 q.1)

absent : (es : List (Key × ℕ)) (q : Key) → AllByRecursion (λ k. same_spot q k ≡ false) (keys_of es) → greatest (marks_in es) q.0 q.1 ≡ 0
absent [] q h = refl
absent (e ∷ es) q h =
    let here : value_in (mark_of e) q.0 q.1 ≡ 0 = said e q ∙ ap (λ b. cond b e.1 0) h.0 in
    omega (arith, here, absent es q h.1)

looked_up : (es : List (Key × ℕ)) (q : Key) → IsDistinct same_spot (keys_of es) → greatest (marks_in es) q.0 q.1 ≡ unwrap_or (lookup (same_spot q) es) 0
unfolding IsDistinct
looked_up [] q h = refl
looked_up (e ∷ es) q h = by_test (same_spot q e.0) refl (looked_up es q h.1)
  where
    by_test : (b : Bool) → same_spot q e.0 ≡ b → greatest (marks_in es) q.0 q.1 ≡ unwrap_or (lookup (same_spot q) es) 0
        → greatest (marks_in (e ∷ es)) q.0 q.1 ≡ unwrap_or (cond b (Some e.1) (lookup (same_spot q) es)) 0
    by_test true t rest =
        let here : value_in (mark_of e) q.0 q.1 ≡ e.1 = said e q ∙ ap (λ b. cond b e.1 0) t in
        let none = absent es q (subst (λ (k : Key). AllByRecursion (λ l. same_spot k l ≡ false) (keys_of es)) (sym (same_spot_is q e.0 t)) h.0) in
        omega (arith, here, none)
    by_test false f rest =
        let here : value_in (mark_of e) q.0 q.1 ≡ 0 = said e q ∙ ap (λ b. cond b e.1 0) f in
        omega (arith, here, rest)

-- the look-up is the cell's value
pub value_at-lookup : (n : ℕ) (es : List (Key × ℕ)) (e : List ℕ) (c : Cell) → AreSpots n es
    → value_at (cells_in es) e c ≡ unwrap_or (lookup (key_eq (e, c)) es) 0
value_at-lookup n es e c h = value_at-marks (marks_in es) e c ∙ looked_up es (e, c) h.once
    ∙ ap (λ (eq : Key → Key → Bool). unwrap_or (lookup (eq (e, c)) es) 0) (sym key_eq_is)

pub value_at-absent : (n : ℕ) (es : List (Key × ℕ)) (e : List ℕ) (c : Cell) → AreSpots n es → lookup (key_eq (e, c)) es ≡ None → value_at (cells_in es) e c ≡ 0
value_at-absent n es e c h none = value_at-lookup n es e c h ∙ ap (λ o. unwrap_or o 0) none

-- a new spot, at the end
pub cells_in-push : (es : List (Key × ℕ)) (m : Valued) → cells_in (es ++ ((m.event, m.cell), m.value) ∷ []) ≡ raise (cells_in es) m
cells_in-push es m = from all_zero es
  where
    from : (X : Cells) (es : List (Key × ℕ)) → raise_all X (marks_in (es ++ ((m.event, m.cell), m.value) ∷ [])) ≡ raise (raise_all X (marks_in es)) m
    from X [] = refl
    from X (e ∷ es) = from (raise X (mark_of e)) es

-- a spot that is there, raised
greatest-set : (es : List (Key × ℕ)) (m : Valued) (v : ℕ) (e : List ℕ) (c : Cell) → lookup (same_spot (m.event, m.cell)) es ≡ Some v
    → greatest (marks_in (set_value (same_spot (m.event, m.cell)) es (max m.value v))) e c ≡ max (greatest (marks_in es) e c) (value_in m e c)
greatest-set [] m v e c h = cc
greatest-set (x ∷ es) m v e c h = by_test (same_spot (m.event, m.cell) x.0) refl h (λ found. greatest-set es m v e c found)
  where
    raised : (b d : Bool) (old v w rest : ℕ) → b ≡ d → old ≡ v → max (cond d (max w v) 0) rest ≡ max (max (cond d old 0) rest) (cond b w 0)
    raised true true old v w rest p q = omega arith
    raised false false old v w rest p q = omega arith
    raised true false old v w rest p q = cc
    raised false true old v w rest p q = cc

    by_test : (b : Bool) → same_spot (m.event, m.cell) x.0 ≡ b → cond b (Some x.1) (lookup (same_spot (m.event, m.cell)) es) ≡ Some v
        → (lookup (same_spot (m.event, m.cell)) es ≡ Some v
        → greatest (marks_in (set_value (same_spot (m.event, m.cell)) es (max m.value v))) e c ≡ max (greatest (marks_in es) e c) (value_in m e c))
        → greatest (marks_in (cond b ((x.0, max m.value v) ∷ es) (x ∷ set_value (same_spot (m.event, m.cell)) es (max m.value v)))) e c ≡ max
        (greatest (marks_in (x ∷ es)) e c) (value_in m e c)
    by_test true t found rest =
        let same : is_of m e c ≡ is_of (mark_of x) e c = ap (λ (k : Key). is_of (record { event = k.0; cell = k.1; value = m.value }) e c)
        (same_spot_is (m.event, m.cell) x.0 t) in
        let old : x.1 ≡ v = ap (λ o. unwrap_or o 0) found in
        raised (is_of m e c) (is_of (mark_of x) e c) x.1 v m.value (greatest (marks_in es) e c) same old
    by_test false f found rest = omega (arith, rest found)

pub cells_in-set : (es : List (Key × ℕ)) (m : Valued) (v : ℕ) → lookup (same_spot (m.event, m.cell)) es ≡ Some v
    → cells_in (set_value (same_spot (m.event, m.cell)) es (max m.value v)) ≡ raise (cells_in es) m
cells_in-set es m v h = same_cells _ _ (λ e c.
    omega (
      arith,
      value_at-marks (marks_in (set_value (same_spot (m.event, m.cell)) es (max m.value v))) e c,
      greatest-set es m v e c h,
      value_at-raise (cells_in es) m e c,
      value_at-marks (marks_in es) e c,
    ))

-- what is kept after a write
tail_of : (n : ℕ) (e : Key × ℕ) (es : List (Key × ℕ)) → All (IsValued n) (e ∷ es) → All (IsValued n) es
tail_of n e es h k d lt = h (suc k) d (omega (arith, lt))

first_and : (n : ℕ) (e : Key × ℕ) (es : List (Key × ℕ)) → IsValued n e → All (IsValued n) es → All (IsValued n) (e ∷ es)
first_and n e es p h zero d lt = p
first_and n e es p h (suc k) d lt = h k d (omega (arith, lt))

pub valued-push : (n : ℕ) (es : List (Key × ℕ)) (x : Key × ℕ) → All (IsValued n) es → IsValued n x → All (IsValued n) (es ++ x ∷ [])
valued-push n es x h p = All-append (IsValued n) es (x ∷ []) h (first_and n x [] p (λ k d lt. absurd (omega (arith, lt))))

pub valued-set : (n : ℕ) (es : List (Key × ℕ)) (test : Key → Bool) (w : ℕ) → All (IsValued n) es → 1 ≤ w → w ≤ greatest_value
    → All (IsValued n) (set_value test es w)
valued-set n [] test w h low high = h
valued-set n (e ∷ es) test w h low high = by_test (test e.0) (valued-set n es test w (tail_of n e es h) low high)
  where
    by_test : (b : Bool) → All (IsValued n) (set_value test es w) → All (IsValued n) (cond b ((e.0, w) ∷ es) (e ∷ set_value test es w))
    by_test true rest = first_and n (e.0, w) es (low, high, (h 0 e (omega arith)).2) (tail_of n e es h)
    by_test false rest = first_and n e (set_value test es w) (h 0 e (omega arith)) rest

-- over more sites the same table is kept
pub of_more : (n m : ℕ) (c : Cell) → n ≤ m → IsCellOf n c → IsCellOf m c
of_more n m (Gave by to) le of = (omega (arith, of.0, le), omega (arith, of.1, le))
of_more n m (Used by) le of = omega (arith, of, le)
of_more n m (Back by) le of = omega (arith, of, le)

pub valued-grown : (n m : ℕ) (es : List (Key × ℕ)) → n ≤ m → All (IsValued n) es → All (IsValued m) es
valued-grown n m es le h k d lt = let v = h k d lt in (v.0, v.1, of_more n m _ le v.2)

pub spots-grown : (n m : ℕ) (es : List (Key × ℕ)) → n ≤ m → AreSpots n es → AreSpots m es
spots-grown n m es le h = record { valued = valued-grown n m es le h.valued; once = h.once }

-- what is found is within its limit
at_most : (es : List (Key × ℕ)) (n : ℕ) (test : Key → Bool) → All (IsValued n) es → unwrap_or (lookup test es) 0 ≤ greatest_value
at_most [] n test h = omega arith
at_most (e ∷ es) n test h = by_test (test e.0) (at_most es n test (tail_of n e es h))
  where
    by_test : (b : Bool) → unwrap_or (lookup test es) 0 ≤ greatest_value → unwrap_or (cond b (Some e.1) (lookup test es)) 0 ≤ greatest_value
    by_test true rest = (h 0 e (omega arith)).1
    by_test false rest = rest

pub found_at_most : (n : ℕ) (es : List (Key × ℕ)) (test : Key → Bool) → AreSpots n es → unwrap_or (lookup test es) 0 ≤ greatest_value
found_at_most n es test h = at_most es n test h.valued

-- cells that are not 0 are of the sites
of_sites : (n : ℕ) (es : List (Key × ℕ)) (e : List ℕ) (c : Cell) → All (IsValued n) es → 1 ≤ greatest (marks_in es) e c → IsCellOf n c
of_sites n [] e c h some = absurd (omega (arith, some))
of_sites n (x ∷ es) e c h some = by_test (is_of (mark_of x) e c) refl (of_sites n es e c (tail_of n x es h))
  where
    by_test : (b : Bool) → is_of (mark_of x) e c ≡ b → (1 ≤ greatest (marks_in es) e c → IsCellOf n c) → IsCellOf n c
    by_test true t rest = subst (λ (k : Key). IsCellOf n k.1) (sym (of_same (mark_of x) e c t)) (h 0 x (omega arith)).2
    by_test false f rest =
        let none : value_in (mark_of x) e c ≡ 0 = ap (λ b. cond b x.1 0) f in
        rest (omega (arith, some, none))

pub table_within : (n : ℕ) (es : List (Key × ℕ)) → AreSpots n es → IsWithin n (cells_in es)
table_within n es h e c some = of_sites n es e c h.valued (omega (arith, some, value_at-marks (marks_in es) e c))

-- a table after a raise
pub record IsRaised (n : ℕ) (es fs : List (Key × ℕ)) (m : Valued) : Type 0 where
  pub kept : AreSpots n fs
  pub raised : cells_in fs ≡ raise (cells_in es) m

pub written : (n : ℕ) (es fs : List (Key × ℕ)) (m : Valued) (old w : ℕ) → AreSpots n es → 1 ≤ m.value → m.value ≤ greatest_value
    → lookup (key_eq (m.event, m.cell)) es ≡ Some old → w ≡ max m.value old
    → fs ≡ set_value (key_eq (m.event, m.cell)) es w → keys_of fs ≡ keys_of es → IsRaised n es fs m
written n es fs m old w h low high found is fs_is keys =
    let same : fs ≡ set_value (same_spot (m.event, m.cell)) es (max m.value old) = fs_is ∙ (λ i. set_value (key_eq_is i (m.event, m.cell)) es (is i)) in
    let at : lookup (same_spot (m.event, m.cell)) es ≡ Some old = subst (λ (eq : Key → Key → Bool). lookup (eq (m.event, m.cell)) es ≡ Some old) key_eq_is
    found in
    let before : old ≤ greatest_value = subst (λ o. unwrap_or o 0 ≤ greatest_value) found (found_at_most n es (key_eq (m.event, m.cell)) h) in
    record {
      kept = record {
        valued = subst (All (IsValued n)) (sym same)
            (valued-set n es (same_spot (m.event, m.cell)) (max m.value old) h.valued (omega (arith, low)) (omega (arith, high, before)));
        once = subst (IsDistinct same_spot) (sym keys) h.once;
      };
      raised = ap cells_in same ∙ cells_in-set es m old at;
    }

pub added : (n : ℕ) (es fs : List (Key × ℕ)) (m : Valued) → AreSpots n es → 1 ≤ m.value → m.value ≤ greatest_value → IsCellOf n m.cell
    → fs ≡ es ++ ((m.event, m.cell), m.value) ∷ [] → IsDistinct key_eq (keys_of fs) → IsRaised n es fs m
added n es fs m h low high of fs_is once = record {
  kept = record {
    valued = subst (All (IsValued n)) (sym fs_is) (valued-push n es ((m.event, m.cell), m.value) h.valued (low, high, of));
    once = subst (λ (eq : Key → Key → Bool). IsDistinct eq (keys_of fs)) key_eq_is once;
  };
  raised = ap cells_in fs_is ∙ cells_in-push es m;
}

-- a spot that is not there is 0, so that there is room for it
pub room_for : (n room : ℕ) (es : List (Key × ℕ)) (m d : Valued) (v : RightsView) → AreSpots n es → lookup (key_eq (m.event, m.cell)) es ≡ None
    → (let r : RightsView = record { sites = n; cells = cells_in es; room = room } in r) ≡ v → m ≡ d
    → (value_at v.cells d.event d.cell ≡ 0 → 0 < v.room) → (value_at v.cells d.event d.cell ≡ 0) × (0 < room)
room_for n room es m d v h none view_is mark_is some =
    let zero_at : value_at v.cells d.event d.cell ≡ 0 = subst (λ (x : Valued). value_at v.cells x.event x.cell ≡ 0) mark_is
    (subst (λ (r : RightsView). value_at r.cells m.event m.cell ≡ 0) view_is (value_at-absent n es m.event m.cell h none)) in
    (zero_at, subst (λ (r : RightsView). 0 < r.room) (sym view_is) (some zero_at))

-- a test of every entry, but those of cells that are passed over, says the order of the others
pub all_below : (skip : Cell → Bool) (Y : Cells) (es : List (Key × ℕ)) (e : List ℕ) (c : Cell)
    → list_all (λ x. skip x.0.1 || nat_le x.1 (value_at Y x.0.0 x.0.1)) es ≡ true → skip c ≡ false → greatest (marks_in es) e c ≤ value_at Y e c
all_below skip Y [] e c h own = omega arith
all_below skip Y (x ∷ es) e c h own =
    let parts = and_parts (skip x.0.1 || nat_le x.1 (value_at Y x.0.0 x.0.1)) (list_all (λ x. skip x.0.1 || nat_le x.1 (value_at Y x.0.0 x.0.1)) es) h in
    let here : value_in (mark_of x) e c ≤ value_at Y e c = by_test (is_of (mark_of x) e c) refl parts.0 in
    omega (arith, here, all_below skip Y es e c parts.1 own)
  where
    unskipped : (b d : Bool) → b ≡ false → (b || d) ≡ true → d ≡ true
    unskipped true d p q = cc
    unskipped false d p q = q

    by_test : (b : Bool) → is_of (mark_of x) e c ≡ b → (skip x.0.1 || nat_le x.1 (value_at Y x.0.0 x.0.1)) ≡ true → cond b x.1 0 ≤ value_at Y e c
    by_test true t p =
        let same = of_same (mark_of x) e c t in
        let mine : skip x.0.1 ≡ false = sym (ap (λ (k : Key). skip k.1) same) ∙ own in
        subst (λ (k : Key). x.1 ≤ value_at Y k.0 k.1) (sym same) (leb-true _ _ (unskipped (skip x.0.1) (nat_le x.1 (value_at Y x.0.0 x.0.1)) mine p))
    by_test false t p = omega arith

pub below_all : (skip : Cell → Bool) (Y : Cells) (es : List (Key × ℕ))
    → ((e : List ℕ) (c : Cell) → skip c ≡ false → greatest (marks_in es) e c ≤ value_at Y e c)
    → list_all (λ x. skip x.0.1 || nat_le x.1 (value_at Y x.0.0 x.0.1)) es ≡ true
below_all skip Y [] h = refl
below_all skip Y (x ∷ es) h = and_from _ _ (by_test (skip x.0.1) refl) (below_all skip Y es (λ e c own. omega (arith, h e c own)))
  where
    by_test : (b : Bool) → skip x.0.1 ≡ b → (b || nat_le x.1 (value_at Y x.0.0 x.0.1)) ≡ true
    by_test true t = refl
    by_test false t = le-leb _ _ (omega (arith, h x.0.0 x.0.1 t, value_in-same (mark_of x) x.0.0 x.0.1 refl refl))

-- the first entry that a walk has not joined yet
pub record IsFirst (n : ℕ) (X Y : Cells) (x : Key × ℕ) (rest : List (Key × ℕ)) : Type 0 where
  pub valued : All (IsValued n) rest
  pub below : (e : List ℕ) (c : Cell) → greatest (marks_in rest) e c ≤ value_at Y e c
  pub rises : (e : List ℕ) (c : Cell)
      → max (value_at (raise X (mark_of x)) e c) (greatest (marks_in rest) e c) ≡ max (value_at X e c) (greatest (marks_in (x ∷ rest)) e c)
  pub room : missing X Y ≡ missing (raise X (mark_of x)) Y + cond (value_at X x.0.0 x.0.1 == 0) 1 0

pub first_of : (n : ℕ) (X Y : Cells) (x : Key × ℕ) (es rest : List (Key × ℕ)) → es ≡ x ∷ rest → All (IsValued n) es
    → ((e : List ℕ) (c : Cell) → greatest (marks_in es) e c ≤ value_at Y e c) → IsFirst n X Y x rest
first_of n X Y x es rest is valued below =
    let all : All (IsValued n) (x ∷ rest) = subst (All (IsValued n)) is valued in
    let le : (e : List ℕ) (c : Cell)
    → greatest (marks_in (x ∷ rest)) e c ≤ value_at Y e c = subst (λ (l : List (Key × ℕ)). (e : List ℕ) (c : Cell)
    → greatest (marks_in l) e c ≤ value_at Y e c) is below in
    let some : 1 ≤ x.1 = (all 0 x (omega arith)).0 in
    record {
      valued = tail_of n x rest all;
      below = λ e c. omega (arith, le e c);
      rises = λ e c. omega (arith, value_at-raise X (mark_of x) e c);
      room = missing-raise X Y (mark_of x) some (omega (arith, some, le x.0.0 x.0.1, value_in-same (mark_of x) x.0.0 x.0.1 refl refl));
    }
