-- The rights of a site are the bounded counter's local rights.
use Rattle.std.proofs.Common.{◌≡◌, ℕ, ◌+◌, Bool, true, false, cond, List, refl, sym, ap, ◌∙◌, arith}
use Rattle.std.specs.Prelude.{nat_eq, ◌-◌, ◌≤◌, pos, ◌-ℤ◌, ◌≤ℤ◌}
use Rattle.std.proofs.lemmas.Int.{ints}
use Rattle.std.proofs.lemmas.Cmp.{nat_eq_equiv}
use Rattle.rights_lattice.specs.Cells.{Cells, value_at}
use Rattle.rights_lattice.specs.declared.cell.Cell.TheVariants.{Gave, Used, Back}
use Rattle.rights_lattice.specs.Sums.{max_sites, sum_below}
use Rattle.local_rights.specs.Rights.{ceded_in, gained, spent, released_in, refunded_in}
use Rattle.local_rights.specs.BoundedCounter.{matrix_of, sum_others, RightsAreLocalRights, RightsNotNegative, ValueIsTheCounters}
use Rattle.local_rights.proofs.Sums.{sum_below_same, sum_below-add}

-- off the diagonal, where two tests say so alike
off_diagonal : (b d : Bool) (u v : ℕ) → b ≡ d → cond b 0 v ≡ cond d 0 (cond b u v)
off_diagonal true true u v h = refl
off_diagonal false false u v h = refl
off_diagonal true false u v h = cc
off_diagonal false true u v h = cc

own : (X : Cells) (e : List ℕ) (i : ℕ) → matrix_of X e i i ≡ value_at X e (Gave i i) + value_at X e (Back i)
own X e i = ap (λ b. cond b (value_at X e (Gave i i) + value_at X e (Back i)) (value_at X e (Gave i i))) (nat_eq_equiv.refl i)

column : (X : Cells) (e : List ℕ) (i : ℕ) → sum_below max_sites (λ j. ceded_in X e j i) ≡ sum_others i (λ j. matrix_of X e j i)
column X e i = sum_below_same max_sites _ _ (λ j l. ap (λ b. cond b 0 (value_at X e (Gave j i))) (nat_eq_equiv.symm j i)
    ∙ off_diagonal (nat_eq i j) (nat_eq j i) (value_at X e (Gave j j) + value_at X e (Back j)) (value_at X e (Gave j i)) (nat_eq_equiv.symm i j))

row : (X : Cells) (e : List ℕ) (i : ℕ) → sum_below max_sites (λ j. ceded_in X e i j) ≡ sum_others i (λ j. matrix_of X e i j)
row X e i = sum_below_same max_sites _ _ (λ j l. ap (λ b. cond b 0 (value_at X e (Gave i j))) (nat_eq_equiv.symm i j)
    ∙ off_diagonal (nat_eq j i) (nat_eq j i) (value_at X e (Gave i i) + value_at X e (Back i)) (value_at X e (Gave i j)) refl)

pub rights_are_local_rights : RightsAreLocalRights
rights_are_local_rights X e i =
    let plus : gained X e i ≡ matrix_of X e i i + sum_others i (λ j. matrix_of X e j i) = omega (arith, own X e i, column X e i) in
    let minus : spent X e i ≡ sum_others i (λ j. matrix_of X e i j) + value_at X e (Used i) = omega (arith, row X e i) in
    λ k. pos (plus k) -ℤ pos (minus k)

pub value_is_the_counters : ValueIsTheCounters
value_is_the_counters X e =
    let created : released_in X e + refunded_in X e ≡ sum_below max_sites (λ i. matrix_of X e i i) =
    sym (sum_below-add max_sites (λ i. value_at X e (Gave i i)) (λ i. value_at X e (Back i))) ∙ sum_below_same max_sites _ _ (λ i l. sym (own X e i)) in
    λ k. pos (created k) -ℤ pos (sum_below max_sites (λ i. value_at X e (Used i)))

-- a difference that is not cut off is the whole number
pub whole_difference : (a b : ℕ) → b ≤ a → pos (a - b) ≡ pos a -ℤ pos b
whole_difference a b h = omega (arith, ints)

at_least : (a b : ℕ) → b ≤ a → pos 0 ≤ℤ (pos a -ℤ pos b)
at_least a b h = omega (arith, ints)

not_less : (a b : ℕ) → pos 0 ≤ℤ (pos a -ℤ pos b) → b ≤ a
not_less a b h = omega (arith, ints)

pub rights_not_negative : RightsNotNegative
rights_not_negative X e i = (at_least (gained X e i) (spent X e i), not_less (gained X e i) (spent X e i))
