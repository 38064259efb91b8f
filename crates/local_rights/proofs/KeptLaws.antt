-- Rights that are kept by event.
use Rattle.std.proofs.Common.{◌≡◌, ℕ, zero, suc, ◌+◌, ◌-◌, ◌*◌, ◌≤◌, ◌<◌, ◌&&◌, Bool, true, false, cond, List, [], Option, Some, None, refl, sym, ap, ◌∙◌, subst, arith}
use Rattle.std.specs.Prelude.{◌==◌, IsSome}
use Rattle.std.specs.Map.{lookup}
use Rattle.std.specs.Option.{unwrap_or}
use Rattle.std.proofs.lemmas.Bool.Decides.{nat_tests}
use Rattle.rights_lattice.specs.declared.cell.Cell.{Cell}
use Rattle.rights_lattice.specs.declared.cell.Cell.TheVariants.{Gave, Used, Back}
use Rattle.rights_lattice.specs.Cell.{same_cell, same_event}
use Rattle.rights_lattice.specs.Cells.{Cells, Valued, greatest_value, value_at, all_zero, raise, is_of, value_in}
use Rattle.rights_lattice.specs.Limits.{most_sites}
use Rattle.rights_lattice.specs.Sums.{max_sites, sum_below}
use Rattle.rights_lattice.proofs.CellLaws.{value_at-raise, value_at-all_zero}
use Rattle.rights_lattice.proofs.SpotLaws.{same_event_is, same_event_self, value_in-tests}
use Rattle.local_rights.specs.Rights.{ceded_in, gained, spent, HasRights}
use Rattle.local_rights.specs.Counted.{left_in, AreKept}
use Rattle.local_rights.specs.declared.effect.Effect.{Effect}
use Rattle.local_rights.specs.declared.effect.Effect.TheVariants.{Takes, Leaves}
use Rattle.local_rights.specs.Effects.{effect_of, left_after}
use Rattle.rights_lattice.specs.RightsView.{IsCellOf}
use Rattle.local_rights.proofs.EffectLaws.{Moves, moves, raised, split_after, taken_is_left}
use Rattle.local_rights.proofs.Within.{few_sites, or_zero}
use Rattle.local_rights.proofs.Sums.{sum_below_same, sum_below-zero}

-- equal cells of an event have equal sums
same_ceded : (X Y : Cells) (e : List ℕ) (i j : ℕ) → value_at X e (Gave i j) ≡ value_at Y e (Gave i j) → ceded_in X e i j ≡ ceded_in Y e i j
same_ceded X Y e i j h = ap (cond (i == j) 0) h

same_gained : (X Y : Cells) (e : List ℕ) (me : ℕ) → ((c : Cell) → value_at X e c ≡ value_at Y e c) → gained X e me ≡ gained Y e me
same_gained X Y e me h = omega (
  arith,
  h (Gave me me),
  h (Back me),
  sum_below_same max_sites (λ j. ceded_in X e j me) (λ j. ceded_in Y e j me)
      (λ j l. same_ceded X Y e j me (h (Gave j me))),
)

same_spent : (X Y : Cells) (e : List ℕ) (me : ℕ) → ((c : Cell) → value_at X e c ≡ value_at Y e c) → spent X e me ≡ spent Y e me
same_spent X Y e me h = omega (
  arith,
  h (Used me),
  sum_below_same max_sites (λ j. ceded_in X e me j) (λ j. ceded_in Y e me j)
      (λ j l. same_ceded X Y e me j (h (Gave me j))),
)

-- nothing is gained and spent where every cell is 0
pub kept_new : (kept : List (List ℕ × ℕ)) (n m me : ℕ) (X : Cells) → kept ≡ [] → m ≡ n → X ≡ all_zero → me < n → n ≤ most_sites → AreKept kept m me X
kept_new kept n m me X empty same all lt few =
    let at : (e : List ℕ) (c : Cell) → value_at X e c ≡ 0 = λ e c. ap (λ (Y : Cells). value_at Y e c) all ∙ value_at-all_zero e c in
    record {
      me_is_site = subst (λ (k : ℕ). me < k) (sym same) lt;
      are_few = subst (λ (k : ℕ). k ≤ most_sites) (sym same) few;
      are_values = λ e c. omega (arith, at e c);
      are_left = λ e.
          let left : left_in kept e ≡ 0 = ap (λ (l : List (List ℕ × ℕ)). left_in l e) empty in
          let got : sum_below max_sites (λ j. ceded_in X e j me) ≡ 0 = sum_below_same max_sites (λ j. ceded_in X e j me) (λ _. 0)
          (λ j l. or_zero (j == me) _ (at e (Gave j me))) ∙ sum_below-zero max_sites in
          let gave : sum_below max_sites (λ j. ceded_in X e me j) ≡ 0 = sum_below_same max_sites (λ j. ceded_in X e me j) (λ _. 0)
          (λ j l. or_zero (me == j) _ (at e (Gave me j))) ∙ sum_below-zero max_sites in
          omega (arith, left, got, gave, at e (Gave me me), at e (Back me), at e (Used me));
      are_all = λ e c some. absurd (omega (arith, some, at e c));
    }

-- over more sites the same is kept
pub kept_grown : (kept : List (List ℕ × ℕ)) (n m me : ℕ) (X Y : Cells) → AreKept kept n me X → n ≤ m → m ≤ most_sites → Y ≡ X → AreKept kept m me Y
kept_grown kept n m me X Y h more few same =
    subst (AreKept kept m me) (sym same) (record {
      me_is_site = omega (arith, h.me_is_site, more);
      are_few = few;
      are_values = h.are_values;
      are_left = h.are_left;
      are_all = h.are_all;
    })

-- what is kept of an event is what is left of it
pub kept_left : (kept : List (List ℕ × ℕ)) (n me : ℕ) (X : Cells) (e : List ℕ) → AreKept kept n me X → (left_in kept e ≡ gained X e me - spent X e me)
    × HasRights X e me
kept_left kept n me X e h = (omega (arith, h.are_left e), omega (arith, h.are_left e))

-- a raise leaves the cells of other events
elsewhere : (X : Cells) (m : Valued) (e : List ℕ) (c : Cell) → same_event m.event e ≡ false → value_at (raise X m) e c ≡ value_at X e c
elsewhere X m e c apart =
    let none : value_in m e c ≡ 0 = by_test (same_event e m.event) refl in
    omega (arith, value_at-raise X m e c, none)
  where
    by_test : (b : Bool) → same_event e m.event ≡ b → value_in m e c ≡ 0
    by_test true t = let clash : true ≡ false = sym (ap (λ (x : List ℕ). same_event x e) (sym (same_event_is e m.event t)) ∙ same_event_self e) ∙ apart in cc
    by_test false f = value_in-tests m e c ∙ ap (λ b. cond (b && same_cell c m.cell) m.value 0) f

-- what a test lets through is no more
pub part_le : (b : Bool) (a : ℕ) → cond b a 0 ≤ a
part_le true a = omega arith
part_le false a = omega arith

-- a raise leaves no cell above the greatest value
raised_value : (X : Cells) (m : Valued) (e : List ℕ) (c : Cell) → m.value ≤ greatest_value → value_at X e c ≤ greatest_value
    → value_at (raise X m) e c ≤ greatest_value
raised_value X m e c most old =
    let said : value_in m e c ≤ m.value = part_le (is_of m e c) m.value in
    omega (arith, value_at-raise X m e c, said, most, old)

pub kept_raise : (kept now : List (List ℕ × ℕ)) (n k me left : ℕ) (X Y : Cells) (m : Valued) → AreKept kept n me X → k ≡ n → Y ≡ raise X m
    → m.value ≤ greatest_value → left + spent Y m.event me ≡ gained Y m.event me
    → ((e : List ℕ) → lookup (same_event e) now ≡ cond (same_event m.event e) (Some left) (lookup (same_event e) kept)) → AreKept now k me Y
kept_raise kept now n k me left X Y m h k_is Y_is most split found = record {
  me_is_site = subst (λ (j : ℕ). me < j) (sym k_is) h.me_is_site;
  are_few = subst (λ (j : ℕ). j ≤ most_sites) (sym k_is) h.are_few;
  are_values = λ e c. subst (λ (Z : Cells). value_at Z e c ≤ greatest_value) (sym Y_is) (raised_value X m e c most (h.are_values e c));
  are_left = λ e. left_at e (same_event m.event e) refl;
  are_all = λ e c some. all_at e c (same_event m.event e) refl some;
}
  where
    left_at : (e : List ℕ) (b : Bool) → same_event m.event e ≡ b → left_in now e + spent Y e me ≡ gained Y e me
    left_at e true t =
        let here : left_in now e ≡ left = ap (λ o. unwrap_or o 0) (found e ∙ ap (λ b. cond b (Some left) (lookup (same_event e) kept)) t) in
        ap (λ v. v + spent Y e me) here ∙ subst (λ (x : List ℕ). left + spent Y x me ≡ gained Y x me) (same_event_is m.event e t) split
    left_at e false f =
        let here : left_in now e ≡ left_in kept e = ap (λ o. unwrap_or o 0) (found e ∙ ap (λ b. cond b (Some left) (lookup (same_event e) kept)) f) in
        let same : (c : Cell) → value_at Y e c ≡ value_at X e c = λ c. ap (λ (Z : Cells). value_at Z e c) Y_is ∙ elsewhere X m e c f in
        omega (arith, here, h.are_left e, same_gained Y X e me same, same_spent Y X e me same)

    all_at : (e : List ℕ) (c : Cell) (b : Bool) → same_event m.event e ≡ b → 1 ≤ value_at Y e c → IsSome (lookup (same_event e) now)
    all_at e c true t some = subst IsSome (sym (found e ∙ ap (λ b. cond b (Some left) (lookup (same_event e) kept)) t)) refl
    all_at e c false f some =
        let before : 1 ≤ value_at X e c = omega (arith, some, ap (λ (Z : Cells). value_at Z e c) Y_is, elsewhere X m e c f) in
        subst IsSome (sym (found e ∙ ap (λ b. cond b (Some left) (lookup (same_event e) kept)) f)) (h.are_all e c before)

-- the room that is left
pub room_taken : (b : Bool) (room old new : ℕ) → room ≤ old → old ≤ new + cond b 1 0 → room - 1 ≤ new
room_taken true room old new p q = omega arith
room_taken false room old new p q = omega arith

pub room_kept : (value room old new : ℕ) → 1 ≤ value → room ≤ old → old ≤ new + cond (value == 0) 1 0 → room ≤ new
room_kept zero room old new some p q = absurd (omega arith)
room_kept (suc value) room old new some p q = grind (arith, nat_tests)

-- what is kept of an event is at most what its cells can make
pub kept_fits : (kept : List (List ℕ × ℕ)) (n me : ℕ) (X : Cells) (e : List ℕ) → AreKept kept n me X → left_in kept e ≤ (max_sites + 2) * greatest_value
kept_fits kept n me X e h =
    let got : sum_below max_sites (λ j. ceded_in X e j me) ≤ max_sites * greatest_value = sum_most max_sites (λ j. ceded_in X e j me)
    (λ j. one (j == me) _ (h.are_values e (Gave j me))) in
    omega (arith, h.are_left e, got, h.are_values e (Gave me me), h.are_values e (Back me))
  where
    one : (b : Bool) (v : ℕ) → v ≤ greatest_value → cond b 0 v ≤ greatest_value
    one true v l = omega arith
    one false v l = l

    sum_most : (n : ℕ) (f : ℕ → ℕ) → ((j : ℕ) → f j ≤ greatest_value) → sum_below n f ≤ n * greatest_value
    sum_most zero f l = omega arith
    sum_most (suc n) f l = omega (arith, sum_most n f l, l n)

-- what a raised mark is to what is kept of its event
kept_moves : (kept : List (List ℕ × ℕ)) (n me : ℕ) (X : Cells) (m : Valued) → AreKept kept n me X → IsCellOf n m.cell
    → Moves X (raise X m) m.event me (effect_of m.cell me) (m.value - value_at X m.event m.cell)
kept_moves kept n me X m h of = moves X (raise X m) m.event m.cell n me (m.value - value_at X m.event m.cell) (raised X m) of (few_sites n h.are_few)

pub kept_takes : (kept : List (List ℕ × ℕ)) (n me : ℕ) (X : Cells) (m : Valued) → AreKept kept n me X → IsCellOf n m.cell
    → HasRights (raise X m) m.event me → effect_of m.cell me ≡ Takes
    → m.value - value_at X m.event m.cell ≤ left_in kept m.event
kept_takes kept n me X m h of has is =
    taken_is_left X (raise X m) m.event me (effect_of m.cell me) (m.value - value_at X m.event m.cell) (left_in kept m.event)
    (kept_moves kept n me X m h of) (h.are_left m.event) has is

pub kept_split : (kept : List (List ℕ × ℕ)) (n me : ℕ) (X : Cells) (m : Valued) → AreKept kept n me X → IsCellOf n m.cell → HasRights (raise X m) m.event me
    → left_after (effect_of m.cell me) (left_in kept m.event) (m.value - value_at X m.event m.cell) + spent (raise X m) m.event me ≡ gained (raise X m)
    m.event me
kept_split kept n me X m h of has =
    split_after X (raise X m) m.event me (effect_of m.cell me) (m.value - value_at X m.event m.cell) (left_in kept m.event) (kept_moves kept n me X m h of)
    (h.are_left m.event) has

-- what is kept once a mark was raised, where it is what is left after that
pub kept_after : (kept now : List (List ℕ × ℕ)) (n k me : ℕ) (X Y : Cells) (m : Valued) (event : List ℕ) (effect : Effect) (more : ℕ) → AreKept kept n me X
    → k ≡ n → Y ≡ raise X m → m.value ≤ greatest_value → IsCellOf n m.cell
    → HasRights (raise X m) m.event me → event ≡ m.event → effect ≡ effect_of m.cell me → more ≡ m.value - value_at X m.event m.cell
    → ((e : List ℕ) → lookup (same_event e) now ≡ cond (same_event event e) (Some (left_after effect (left_in kept event) more))
    (lookup (same_event e) kept)) → AreKept now k me Y
kept_after kept now n k me X Y m event effect more h k_is Y_is most of has event_is effect_is more_is found =
    let left : ℕ = left_after effect (left_in kept event) more in
    let same : left ≡ left_after (effect_of m.cell me) (left_in kept m.event) (m.value - value_at X m.event m.cell) =
    ap (λ x. left_after x (left_in kept event) more) effect_is ∙ ap (λ x. left_after (effect_of m.cell me) (left_in kept x) more) event_is
    ∙ ap (λ x. left_after (effect_of m.cell me) (left_in kept m.event) x) more_is in
    let split : left + spent (raise X m) m.event me ≡ gained (raise X m) m.event me = ap (λ v. v + spent (raise X m) m.event me) same
    ∙ kept_split kept n me X m h of has in
    kept_raise kept now n k me left X Y m h k_is Y_is most (subst (λ (Z : Cells). left + spent Z m.event me ≡ gained Z m.event me) (sym Y_is) split)
    (λ e. found e ∙ ap (λ x. cond (same_event x e) (Some left) (lookup (same_event e) kept)) event_is)

some_is : (o : Option ℕ) → IsSome o → o ≡ Some (unwrap_or o 0)
some_is None h = cc
some_is (Some v) h = refl

-- a cell of other sites that was not 0 leaves what is kept as it is
pub kept_alone : (kept : List (List ℕ × ℕ)) (n k me : ℕ) (X Y : Cells) (m : Valued) → AreKept kept n me X → k ≡ n → Y ≡ raise X m
    → m.value ≤ greatest_value → IsCellOf n m.cell
    → HasRights (raise X m) m.event me → Leaves ≡ effect_of m.cell me → 1 ≤ value_at X m.event m.cell → AreKept kept k me Y
kept_alone kept n k me X Y m h k_is Y_is most of has effect some =
    kept_after kept kept n k me X Y m m.event Leaves (m.value - value_at X m.event m.cell) h k_is Y_is most of has refl effect refl
    (λ e. by_test e (same_event m.event e) refl)
  where
    by_test : (e : List ℕ) (b : Bool) → same_event m.event e ≡ b
        → lookup (same_event e) kept ≡ cond (same_event m.event e) (Some (left_in kept m.event)) (lookup (same_event e) kept)
    by_test e true t =
        let here : lookup (same_event m.event) kept ≡ Some (left_in kept m.event) = some_is (lookup (same_event m.event) kept)
        (h.are_all m.event m.cell some) in
        let there : lookup (same_event e) kept ≡ Some (left_in kept m.event) = subst
        (λ (x : List ℕ). lookup (same_event x) kept ≡ Some (left_in kept m.event)) (same_event_is m.event e t) here in
        there ∙ sym (ap (λ b. cond b (Some (left_in kept m.event)) (lookup (same_event e) kept)) t)
    by_test e false f = sym (ap (λ b. cond b (Some (left_in kept m.event)) (lookup (same_event e) kept)) f)
