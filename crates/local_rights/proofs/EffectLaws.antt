-- What a site has left once one cell has risen: more by what it rose, less by that, or as much as before.
use Rattle.std.proofs.Common.{◌≡◌, ◌≢◌, inl, inr, ℕ, zero, suc, ◌+◌, ◌-◌, ◌<◌, ◌≤◌, ◌&&◌, Bool, true, false, cond, List, refl, sym, ap, ◌∙◌, ◌⊎◌, subst, arith}
use Rattle.std.specs.Prelude.{◌==◌, max}
use Rattle.std.proofs.lemmas.Bool.{cases_eq}
use Rattle.std.proofs.lemmas.Bool.Decides.{nat_tests, eqb_tells}
use Rattle.std.proofs.lemmas.Cmp.{nat_eq_equiv}
use Rattle.rights_lattice.specs.declared.cell.Cell.{Cell}
use Rattle.rights_lattice.specs.declared.cell.Cell.TheVariants.{Gave, Used, Back}
use Rattle.rights_lattice.specs.Cell.{same_cell}
use Rattle.rights_lattice.specs.Cells.{Cells, Valued, value_at, raise, value_in}
use Rattle.rights_lattice.specs.Sums.{max_sites, sum_below}
use Rattle.rights_lattice.specs.RightsView.{IsCellOf}
use Rattle.rights_lattice.proofs.CellLaws.{value_at-raise}
use Rattle.rights_lattice.proofs.SpotLaws.{same_cell_is, same_event_self, value_in-tests}
use Rattle.local_rights.specs.declared.effect.Effect.{Effect}
use Rattle.local_rights.specs.declared.effect.Effect.TheVariants.{Adds, Takes, Leaves}
use Rattle.local_rights.specs.Effects.{effect_of, left_after}
use Rattle.local_rights.specs.Rights.{ceded_in, gained, spent, HasRights}
use Rattle.local_rights.proofs.Sums.{sum_below_same, sum_below-add}

-- one cell of an event has risen by so much, and no other
pub record Rises (X Y : Cells) (e : List ℕ) (d : Cell) (more : ℕ) : Type 0 where
  pub at : (c : Cell) → value_at Y e c ≡ value_at X e c + cond (same_cell c d) more 0

rise : (b : Bool) (v w value : ℕ) → w ≡ value → max v (cond b value 0) ≡ v + cond b (w - v) 0
rise true v w value h = omega (arith, h)
rise false v w value h = omega arith

-- raising a mark is such a rise
pub raised : (X : Cells) (m : Valued) → Rises X (raise X m) m.event m.cell (m.value - value_at X m.event m.cell)
raised X m = record { at = λ c. value_at-raise X m m.event c ∙ by_test c (same_cell c m.cell) refl }
  where
    by_test : (c : Cell) (b : Bool) → same_cell c m.cell ≡ b
        → max (value_at X m.event c) (value_in m m.event c) ≡ value_at X m.event c + cond (same_cell c m.cell) (m.value - value_at X m.event m.cell) 0
    by_test c true t =
        let is : value_in m m.event c ≡ m.value = value_in-tests m m.event c ∙ ap (λ b. cond (b && same_cell c m.cell) m.value 0) (same_event_self m.event)
        ∙ ap (λ b. cond b m.value 0) t in
        let here : value_at X m.event c ≡ value_at X m.event m.cell = ap (value_at X m.event) (same_cell_is c m.cell t) in
        let more : cond (same_cell c m.cell) (m.value - value_at X m.event m.cell) 0 ≡ m.value - value_at X m.event m.cell = ap
        (λ b. cond b (m.value - value_at X m.event m.cell) 0) t in
        omega (arith, is, here, more)
    by_test c false f =
        let is : value_in m m.event c ≡ 0 = value_in-tests m m.event c ∙ ap (λ b. cond (b && same_cell c m.cell) m.value 0) (same_event_self m.event)
        ∙ ap (λ b. cond b m.value 0) f in
        let more : cond (same_cell c m.cell) (m.value - value_at X m.event m.cell) 0 ≡ 0 = ap (λ b. cond b (m.value - value_at X m.event m.cell) 0) f in
        omega (arith, is, more)

-- a sum with one term
one_yes : (n t a : ℕ) → n ≡ t → cond (n == t) a 0 ≡ a
one_yes n t a h = grind (arith, nat_tests)

one_no : (n t a : ℕ) → n ≢ t → cond (n == t) a 0 ≡ 0
one_no n t a h = grind (arith, nat_tests)

none_below : (n t a : ℕ) → n ≤ t → sum_below n (λ j. cond (j == t) a 0) ≡ 0
none_below zero t a h = refl
none_below (suc n) t a h = omega (arith, none_below n t a (omega arith), one_no n t a (omega arith))

one_below : (n t a : ℕ) → t < n → sum_below n (λ j. cond (j == t) a 0) ≡ a
one_below zero t a h = absurd (omega arith)
one_below (suc n) t a h = elim (cases_eq n t) [
  | inl e ↦ omega (arith, none_below n t a (omega arith), one_yes n t a e)
  | inr e ↦ omega (arith, one_below n t a (omega arith), one_no n t a e)
]

-- the terms of the two sums, cell by cell
got_more : (me by to j v more : ℕ) → to ≡ me → by ≢ me
    → cond (j == me) 0 (v + cond ((j == by) && (me == to)) more 0) ≡ cond (j == me) 0 v + cond (j == by) more 0
got_more me by to j v more h k = grind (arith, nat_tests)

got_own : (me by to j v more : ℕ) → by ≡ me → cond (j == me) 0 (v + cond ((j == by) && (me == to)) more 0) ≡ cond (j == me) 0 v
got_own me by to j v more h = grind (arith, nat_tests)

got_other : (me by to j v more : ℕ) → to ≢ me → cond (j == me) 0 (v + cond ((j == by) && (me == to)) more 0) ≡ cond (j == me) 0 v
got_other me by to j v more h = grind (arith, nat_tests)

gave_more : (me by to j v more : ℕ) → by ≡ me → to ≢ me
    → cond (me == j) 0 (v + cond ((me == by) && (j == to)) more 0) ≡ cond (me == j) 0 v + cond (j == to) more 0
gave_more me by to j v more h k = grind (arith, nat_tests)

gave_own : (me by to j v more : ℕ) → to ≡ me → cond (me == j) 0 (v + cond ((me == by) && (j == to)) more 0) ≡ cond (me == j) 0 v
gave_own me by to j v more h = grind (arith, nat_tests)

gave_other : (me by to j v more : ℕ) → by ≢ me → cond (me == j) 0 (v + cond ((me == by) && (j == to)) more 0) ≡ cond (me == j) 0 v
gave_other me by to j v more h = grind (arith, nat_tests)

own_more : (me by to more : ℕ) → by ≡ me → to ≡ me → cond ((me == by) && (me == to)) more 0 ≡ more
own_more me by to more h k = grind (arith, nat_tests)

own_of_others : (me by to more : ℕ) → by ≢ me → cond ((me == by) && (me == to)) more 0 ≡ 0
own_of_others me by to more h = grind (arith, nat_tests)

own_to_others : (me by to more : ℕ) → to ≢ me → cond ((me == by) && (me == to)) more 0 ≡ 0
own_to_others me by to more h = grind (arith, nat_tests)

-- what the cell adds to what was gained and to what was spent
abbrev gain : Effect → ℕ → ℕ
gain Adds more = more
gain Takes more = 0
gain Leaves more = 0

abbrev loss : Effect → ℕ → ℕ
loss Adds more = 0
loss Takes more = more
loss Leaves more = 0

pub record Moves (X Y : Cells) (e : List ℕ) (me : ℕ) (effect : Effect) (more : ℕ) : Type 0 where
  pub gained_is : gained Y e me ≡ gained X e me + gain effect more
  pub spent_is : spent Y e me ≡ spent X e me + loss effect more

takes_gain : (b : Bool) (more : ℕ) → gain (cond b Takes Leaves) more ≡ 0
takes_gain true more = refl
takes_gain false more = refl

takes_loss : (b : Bool) (more : ℕ) → loss (cond b Takes Leaves) more ≡ cond b more 0
takes_loss true more = refl
takes_loss false more = refl

adds_gain : (b : Bool) (more : ℕ) → gain (cond b Adds Leaves) more ≡ cond b more 0
adds_gain true more = refl
adds_gain false more = refl

adds_loss : (b : Bool) (more : ℕ) → loss (cond b Adds Leaves) more ≡ 0
adds_loss true more = refl
adds_loss false more = refl

gain-adds : (more : ℕ) → gain Adds more ≡ more
gain-adds more = refl

loss-adds : (more : ℕ) → loss Adds more ≡ 0
loss-adds more = refl

-- the cell of one kind rises: what was gained, or what was spent, rises with it
pub moves : (X Y : Cells) (e : List ℕ) (d : Cell) (n me more : ℕ) → Rises X Y e d more → IsCellOf n d → n ≤ max_sites → Moves X Y e me (effect_of d me) more
moves X Y e (Used by) n me more rises of few =
    let got : sum_below max_sites (λ j. ceded_in Y e j me) ≡ sum_below max_sites (λ j. ceded_in X e j me) =
    sum_below_same max_sites _ _ (λ j l.
    ap (cond (j == me) 0) (let same : value_at Y e (Gave j me) ≡ value_at X e (Gave j me) = omega (arith, rises.at (Gave j me)) in same)) in
    let gave : sum_below max_sites (λ j. ceded_in Y e me j) ≡ sum_below max_sites (λ j. ceded_in X e me j) =
    sum_below_same max_sites _ _ (λ j l.
    ap (cond (me == j) 0) (let same : value_at Y e (Gave me j) ≡ value_at X e (Gave me j) = omega (arith, rises.at (Gave me j)) in same)) in
    let turned : cond (me == by) more 0 ≡ cond (by == me) more 0 = ap (λ b. cond b more 0) (nat_eq_equiv.symm me by) in
    record {
      gained_is = omega (arith, got, takes_gain (by == me) more, rises.at (Gave me me), rises.at (Back me));
      spent_is = omega (arith, gave, turned, takes_loss (by == me) more, rises.at (Used me));
    }
moves X Y e (Back by) n me more rises of few =
    let got : sum_below max_sites (λ j. ceded_in Y e j me) ≡ sum_below max_sites (λ j. ceded_in X e j me) =
    sum_below_same max_sites _ _ (λ j l.
    ap (cond (j == me) 0) (let same : value_at Y e (Gave j me) ≡ value_at X e (Gave j me) = omega (arith, rises.at (Gave j me)) in same)) in
    let gave : sum_below max_sites (λ j. ceded_in Y e me j) ≡ sum_below max_sites (λ j. ceded_in X e me j) =
    sum_below_same max_sites _ _ (λ j l.
    ap (cond (me == j) 0) (let same : value_at Y e (Gave me j) ≡ value_at X e (Gave me j) = omega (arith, rises.at (Gave me j)) in same)) in
    let turned : cond (me == by) more 0 ≡ cond (by == me) more 0 = ap (λ b. cond b more 0) (nat_eq_equiv.symm me by) in
    record {
      gained_is = omega (arith, got, turned, adds_gain (by == me) more, rises.at (Gave me me), rises.at (Back me));
      spent_is = omega (arith, gave, adds_loss (by == me) more, rises.at (Used me));
    }
moves X Y e (Gave by to) n me more rises of few = by_sites (eqb_tells to me) (eqb_tells by me)
  where
    got_each : (u : ℕ → ℕ) → ((j : ℕ) → cond (j == me) 0 (value_at X e (Gave j me) + cond ((j == by) && (me == to)) more 0) ≡ ceded_in X e j me + u j)
        → sum_below max_sites (λ j. ceded_in Y e j me) ≡ sum_below max_sites (λ j. ceded_in X e j me) + sum_below max_sites u
    got_each u each = sum_below_same max_sites _ _ (λ j l. ap (cond (j == me) 0) (rises.at (Gave j me)) ∙ each j)
        ∙ sum_below-add max_sites (λ j. ceded_in X e j me) u

    gave_each : (u : ℕ → ℕ) → ((j : ℕ) → cond (me == j) 0 (value_at X e (Gave me j) + cond ((me == by) && (j == to)) more 0) ≡ ceded_in X e me j + u j)
        → sum_below max_sites (λ j. ceded_in Y e me j) ≡ sum_below max_sites (λ j. ceded_in X e me j) + sum_below max_sites u
    gave_each u each = sum_below_same max_sites _ _ (λ j l. ap (cond (me == j) 0) (rises.at (Gave me j)) ∙ each j)
        ∙ sum_below-add max_sites (λ j. ceded_in X e me j) u

    got_none : ((j : ℕ) → cond (j == me) 0 (value_at X e (Gave j me) + cond ((j == by) && (me == to)) more 0) ≡ ceded_in X e j me)
        → sum_below max_sites (λ j. ceded_in Y e j me) ≡ sum_below max_sites (λ j. ceded_in X e j me)
    got_none each = sum_below_same max_sites _ _ (λ j l. ap (cond (j == me) 0) (rises.at (Gave j me)) ∙ each j)

    gave_none : ((j : ℕ) → cond (me == j) 0 (value_at X e (Gave me j) + cond ((me == by) && (j == to)) more 0) ≡ ceded_in X e me j)
        → sum_below max_sites (λ j. ceded_in Y e me j) ≡ sum_below max_sites (λ j. ceded_in X e me j)
    gave_none each = sum_below_same max_sites _ _ (λ j l. ap (cond (me == j) 0) (rises.at (Gave me j)) ∙ each j)

    effect : (b d : Bool) → (to == me) ≡ b → (by == me) ≡ d → effect_of (Gave by to) me ≡ cond b Adds (cond d Takes Leaves)
    effect b d p q = ap (λ x. cond x Adds (cond (by == me) Takes Leaves)) p ∙ ap (λ x. cond b Adds (cond x Takes Leaves)) q

    by_sites : (((to == me) ≡ true) × (to ≡ me)) ⊎ (((to == me) ≡ false) × (to ≢ me))
        → (((by == me) ≡ true) × (by ≡ me)) ⊎ (((by == me) ≡ false) × (by ≢ me)) → Moves X Y e me (effect_of (Gave by to) me) more
    by_sites (inl p) (inl q) =
        subst (λ x. Moves X Y e me x more) (sym (effect true true p.0 q.0)) record {
          gained_is = omega (
            arith,
            gain-adds more,
            own_more me by to more q.1 p.1,
            got_none (λ j. got_own me by to j (value_at X e (Gave j me)) more q.1),
            rises.at (Gave me me),
            rises.at (Back me),
          );
          spent_is = omega (arith, loss-adds more, gave_none (λ j. gave_own me by to j (value_at X e (Gave me j)) more p.1), rises.at (Used me));
        }
    by_sites (inl p) (inr q) =
        subst (λ x. Moves X Y e me x more) (sym (effect true false p.0 q.0)) record {
          gained_is = omega (
            arith,
            gain-adds more,
            own_of_others me by to more q.1,
            got_each (λ j. cond (j == by) more 0) (λ j. got_more me by to j (value_at X e (Gave j me)) more p.1 q.1),
            one_below max_sites by more (omega (arith, of.0, few)),
            rises.at (Gave me me),
            rises.at (Back me),
          );
          spent_is = omega (arith, loss-adds more, gave_none (λ j. gave_own me by to j (value_at X e (Gave me j)) more p.1), rises.at (Used me));
        }
    by_sites (inr p) (inl q) =
        subst (λ x. Moves X Y e me x more) (sym (effect false true p.0 q.0)) record {
          gained_is = omega (
            arith,
            takes_gain true more,
            own_to_others me by to more p.1,
            got_none (λ j. got_other me by to j (value_at X e (Gave j me)) more p.1),
            rises.at (Gave me me),
            rises.at (Back me),
          );
          spent_is = omega (
            arith,
            takes_loss true more,
            gave_each (λ j. cond (j == to) more 0) (λ j. gave_more me by to j (value_at X e (Gave me j)) more q.1 p.1),
            one_below max_sites to more (omega (arith, of.1, few)),
            rises.at (Used me),
          );
        }
    by_sites (inr p) (inr q) =
        subst (λ x. Moves X Y e me x more) (sym (effect false false p.0 q.0)) record {
          gained_is = omega (
            arith,
            takes_gain false more,
            own_to_others me by to more p.1,
            got_none (λ j. got_other me by to j (value_at X e (Gave j me)) more p.1),
            rises.at (Gave me me),
            rises.at (Back me),
          );
          spent_is = omega (arith, takes_loss false more, gave_none (λ j. gave_other me by to j (value_at X e (Gave me j)) more q.1), rises.at (Used me));
        }

-- what is left and what was spent are what was gained, once the cell has risen
pub split_after : (X Y : Cells) (e : List ℕ) (me : ℕ) (effect : Effect) (more left : ℕ) → Moves X Y e me effect more → left + spent X e me ≡ gained X e me
    → HasRights Y e me → left_after effect left more + spent Y e me ≡ gained Y e me
split_after X Y e me Adds more left moved split has = omega (arith, moved.gained_is, moved.spent_is, split, has)
split_after X Y e me Takes more left moved split has = omega (arith, moved.gained_is, moved.spent_is, split, has)
split_after X Y e me Leaves more left moved split has = omega (arith, moved.gained_is, moved.spent_is, split, has)

-- no more is taken than is left
pub taken_is_left : (X Y : Cells) (e : List ℕ) (me : ℕ) (effect : Effect) (more left : ℕ) → Moves X Y e me effect more
    → left + spent X e me ≡ gained X e me → HasRights Y e me → effect ≡ Takes → more ≤ left
taken_is_left X Y e me Adds more left moved split has is = cc
taken_is_left X Y e me Takes more left moved split has is = omega (arith, moved.gained_is, moved.spent_is, split, has)
taken_is_left X Y e me Leaves more left moved split has is = cc
