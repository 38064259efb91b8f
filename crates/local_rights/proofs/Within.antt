-- A state within its count of sites has nothing at the sites past it.
use Rattle.std.proofs.Common.{◌<◌, ◌≡◌, inl, inr, ℕ, ◌≤◌, Bool, true, false, cond, List, refl, arith}
use Rattle.std.specs.Prelude.{◌==◌}
use Rattle.std.proofs.lemmas.Bool.{cases_lt}
use Rattle.rights_lattice.specs.declared.cell.Cell.{Cell}
use Rattle.rights_lattice.specs.declared.cell.Cell.TheVariants.{Gave, Used, Back}
use Rattle.rights_lattice.specs.Cells.{Cells, value_at}
use Rattle.rights_lattice.specs.Limits.{most_sites}
use Rattle.rights_lattice.specs.RightsView.{IsCellOf, IsWithin}
use Rattle.rights_lattice.specs.Sums.{max_sites, sum_below}
use Rattle.local_rights.specs.Rights.{ceded_in, spent, HasRights, IsPosition, released_in, sold_in, refunded_in}
use Rattle.local_rights.proofs.Sums.{sum_below_more, sum_below_same, sum_below-zero}

pub few_sites : (n : ℕ) → n ≤ most_sites → n ≤ max_sites
unfolding max_sites
few_sites n h = omega (arith, h)

outside : (n : ℕ) (X : Cells) (e : List ℕ) (c : Cell) → IsWithin n X → (IsCellOf n c → ⊥) → value_at X e c ≡ 0
outside n X e c within past = elim (cases_lt 0 (value_at X e c)) [
  | inl l ↦ absurd (past (within e c l))
  | inr l ↦ omega (arith, l)
]

pub or_zero : (b : Bool) (v : ℕ) → v ≡ 0 → cond b 0 v ≡ 0
or_zero true v h = refl
or_zero false v h = h

-- the sums over the sites below n are the sums over all sites
pub got_by : (n m : ℕ) (X : Cells) (e : List ℕ) (i : ℕ) → IsWithin n X → n ≤ m → m ≤ max_sites
    → sum_below max_sites (λ j. ceded_in X e j i) ≡ sum_below m (λ j. ceded_in X e j i)
got_by n m X e i within le few =
    sum_below_more m max_sites (λ j. ceded_in X e j i) few (λ j l. or_zero (j == i) _ (outside n X e (Gave j i) within (λ h. omega (arith, h.0, l, le))))

pub given_by : (n m : ℕ) (X : Cells) (e : List ℕ) (i : ℕ) → IsWithin n X → n ≤ m → m ≤ max_sites
    → sum_below max_sites (λ j. ceded_in X e i j) ≡ sum_below m (λ j. ceded_in X e i j)
given_by n m X e i within le few =
    sum_below_more m max_sites (λ j. ceded_in X e i j) few (λ j l. or_zero (i == j) _ (outside n X e (Gave i j) within (λ h. omega (arith, h.1, l, le))))

pub released_by : (n m : ℕ) (X : Cells) (e : List ℕ) → IsWithin n X → n ≤ m → m ≤ max_sites → released_in X e ≡ sum_below m (λ i. value_at X e (Gave i i))
released_by n m X e within le few =
    sum_below_more m max_sites (λ i. value_at X e (Gave i i)) few (λ i l. outside n X e (Gave i i) within (λ h. omega (arith, h.0, l, le)))

pub sold_by : (n m : ℕ) (X : Cells) (e : List ℕ) → IsWithin n X → n ≤ m → m ≤ max_sites → sold_in X e ≡ sum_below m (λ i. value_at X e (Used i))
sold_by n m X e within le few =
    sum_below_more m max_sites (λ i. value_at X e (Used i)) few (λ i l. outside n X e (Used i) within (λ h. omega (arith, h, l, le)))

pub refunded_by : (n m : ℕ) (X : Cells) (e : List ℕ) → IsWithin n X → n ≤ m → m ≤ max_sites → refunded_in X e ≡ sum_below m (λ i. value_at X e (Back i))
refunded_by n m X e within le few =
    sum_below_more m max_sites (λ i. value_at X e (Back i)) few (λ i l. outside n X e (Back i) within (λ h. omega (arith, h, l, le)))

-- a site past the count has spent nothing
pub spent_past : (n : ℕ) (X : Cells) (e : List ℕ) (i : ℕ) → IsWithin n X → n ≤ i → spent X e i ≡ 0
spent_past n X e i within past =
    omega (
      arith,
      sum_below_same max_sites (λ j. ceded_in X e i j) (λ _. 0) (λ j l. or_zero (i == j) _ (outside n X e (Gave i j) within (λ h. omega (arith, h.0, past)))),
      sum_below-zero max_sites,
      outside n X e (Used i) within (λ h. omega (arith, h, past)),
    )

-- so a position needs only the sites below the count
pub position_below : (n : ℕ) (X : Cells) (e : List ℕ) → IsWithin n X → ((i : ℕ) → i < n → HasRights X e i) → IsPosition X e
position_below n X e within each i = elim (cases_lt i n) [
  | inl l ↦ each i l
  | inr l ↦ omega (arith, spent_past n X e i within l)
]
