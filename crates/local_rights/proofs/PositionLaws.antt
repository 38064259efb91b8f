-- Positions, by the test and by their meaning, and the seats that are open by one.
use Rattle.std.proofs.Common.{◌≡◌, inl, inr, ℕ, zero, suc, ◌+◌, ◌-◌, ◌<◌, ◌≤◌, Bool, true, false, cond, List, Option, Some, None, refl, sym, ap, ◌∙◌, subst, arith, add-one}
use Rattle.std.specs.Prelude.{◌↔◌, nat_le, pos, IsSome, IfSome}
use Rattle.std.proofs.lemmas.Bool.{cases_eq, and_parts, and_from}
use Rattle.std.proofs.lemmas.Bool.Decides.{nat_tests}
use Rattle.rights_lattice.specs.declared.cell.Cell.TheVariants.{Gave, Used, Back}
use Rattle.rights_lattice.specs.Cells.{Cells, value_at}
use Rattle.rights_lattice.specs.RightsView.{IsWithin}
use Rattle.rights_lattice.specs.Sums.{max_sites, sum_below}
use Rattle.local_rights.specs.Rights.{ceded_in, gained, spent, HasRights, IsPosition, released_in, sold_in, refunded_in, paper_value}
use Rattle.local_rights.specs.OpenSeats.{all_below, is_position, open_seats_in, OpenSeatsAreTheCounters}
use Rattle.local_rights.proofs.CounterLaws.{whole_difference}
use Rattle.local_rights.proofs.Sums.{balance, sum_below-add}
use Rattle.local_rights.proofs.Within.{position_below}

-- a test of all numbers below n is a test of each
pub each_of_all : (n : ℕ) (test : ℕ → Bool) → all_below n test ≡ true → (i : ℕ) → i < n → test i ≡ true
each_of_all zero test all i l = absurd (omega arith)
each_of_all (suc n) test all i l =
    let parts = and_parts (all_below n test) (test n) all in
    elim (cases_eq i n) [
      | inl e ↦ ap test e ∙ parts.1
      | inr ne ↦ each_of_all n test parts.0 i (omega arith)
    ]

all_of_each : (n : ℕ) (test : ℕ → Bool) → ((i : ℕ) → i < n → test i ≡ true) → all_below n test ≡ true
all_of_each zero test each = refl
all_of_each (suc n) test each = and_from (all_below n test) (test n) (all_of_each n test (λ i l. each i (omega arith))) (each n (omega arith))

-- one number of which the test does not hold
pub not_all : (n : ℕ) (test : ℕ → Bool) (i : ℕ) → i < n → test i ≡ false → all_below n test ≡ false
not_all n test i l fails = by_all (all_below n test) refl
  where
    by_all : (b : Bool) → all_below n test ≡ b → all_below n test ≡ false
    by_all true t = let clash : true ≡ false = sym (each_of_all n test t i l) ∙ fails in cc
    by_all false f = f

-- one number more
pub all_more : (n : ℕ) (test : ℕ → Bool) → all_below n test ≡ true → test n ≡ true → all_below (n + 1) test ≡ true
all_more n test all here = rw add-one (and_from (all_below n test) (test n) all here)

tested : (a b : ℕ) → nat_le a b ≡ true → a ≤ b
tested a b h = grind (arith, nat_tests)

pub holds : (a b : ℕ) → a ≤ b → nat_le a b ≡ true
holds a b h = grind (arith, nat_tests)

pub position_of_test : (sites : ℕ) (X : Cells) (e : List ℕ) → sites ≤ max_sites → IsWithin sites X → is_position X e ≡ true → IsPosition X e
position_of_test sites X e few within test =
    position_below sites X e within
    (λ i l. tested (spent X e i) (gained X e i) (each_of_all max_sites (λ j. nat_le (spent X e j) (gained X e j)) test i (omega (arith, l, few))))

pub test_of_position : (X : Cells) (e : List ℕ) → IsPosition X e → is_position X e ≡ true
test_of_position X e position = all_of_each max_sites (λ j. nat_le (spent X e j) (gained X e j)) (λ i l. holds (spent X e i) (gained X e i) (position i))

-- by a position no more was sold than was released and taken back
pub sold_within : (X : Cells) (e : List ℕ) → IsPosition X e → sold_in X e ≤ released_in X e + refunded_in X e
sold_within X e position =
    let all =
    balance max_sites (λ i. value_at X e (Gave i i) + value_at X e (Back i)) (λ i. value_at X e (Used i)) (λ i j. ceded_in X e i j) (λ i j. ceded_in X e j i)
    (λ i j l m. let same : ceded_in X e j i ≤ ceded_in X e j i = omega arith in same)
    (λ i l. let split : sum_below max_sites (λ j. ceded_in X e i j) + value_at X e (Used i) ≤ value_at X e (Gave i i) + value_at X e (Back i) + sum_below
    max_sites (λ j. ceded_in X e j i) = omega (arith, position i) in split) in
    omega (arith, all, sum_below-add max_sites (λ i. value_at X e (Gave i i)) (λ i. value_at X e (Back i)))

pub open_at : (X : Cells) (e : List ℕ) → IsPosition X e → open_seats_in X e ≡ Some (released_in X e + refunded_in X e - sold_in X e)
open_at X e position = ap (λ b. cond b (Some (released_in X e + refunded_in X e - sold_in X e)) None) (test_of_position X e position)

pub open_value : (X : Cells) (e : List ℕ) → IsPosition X e → pos (released_in X e + refunded_in X e - sold_in X e) ≡ paper_value X e
open_value X e position = whole_difference (released_in X e + refunded_in X e) (sold_in X e) (sold_within X e position)

-- nothing is open where one site's rights are negative
pub none_open : (X : Cells) (e : List ℕ) (i : ℕ) → i < max_sites → (HasRights X e i → ⊥) → open_seats_in X e ≡ None
none_open X e i l lacks = by_test (is_position X e) refl
  where
    by_test : (b : Bool) → is_position X e ≡ b → open_seats_in X e ≡ None
    by_test true t = absurd (lacks (tested (spent X e i) (gained X e i) (each_of_all max_sites (λ j. nat_le (spent X e j) (gained X e j)) t i l)))
    by_test false f = ap (λ b. cond b (Some (released_in X e + refunded_in X e - sold_in X e)) None) f

none_is_some : {P : Type 0} → (let o : Option ℕ = None in IsSome o) → P
none_is_some h = cc

pub open_seats_are_the_counters : OpenSeatsAreTheCounters
open_seats_are_the_counters sites X e few within = by_test (is_position X e) refl
  where
    by_test : (b : Bool) → is_position X e ≡ b → (IsSome (open_seats_in X e) ↔ IsPosition X e)
        × IfSome (open_seats_in X e) (λ seats. pos seats ≡ paper_value X e)
    by_test true t =
        let position = position_of_test sites X e few within t in
        let is = open_at X e position in (
          (λ _. position, λ _. subst IsSome (sym is) refl),
          subst (λ (o : Option ℕ). IfSome o (λ seats. pos seats ≡ paper_value X e)) (sym is) (open_value X e position),
        )
    by_test false f =
        let is : open_seats_in X e ≡ None = ap (λ b. cond b (Some (released_in X e + refunded_in X e - sold_in X e)) None) f in (
          (λ h. none_is_some (subst (λ (o : Option ℕ). IsSome o) is h), λ position. let clash : false ≡ true = sym f ∙ test_of_position X e position in cc),
          subst (λ (o : Option ℕ). IfSome o (λ seats. pos seats ≡ paper_value X e)) (sym is) tt,
        )
