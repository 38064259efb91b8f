-- The bounded counter (Balegas et al., SRDS 2015), of a matrix R and a vector U: R i i is what site i created, R i j what it
-- gave to site j, and U i what it consumed. That refunds add to R i i is our own.
use Rattle.std.specs.Prelude.{◌≡◌, ◌↔◌, ◌≤ℤ◌, ℕ, ◌+◌, if◌then◌else◌, ◌==◌, List, ℤ, pos, ◌-ℤ◌}
use Rattle.rights_lattice.specs.declared.cell.Cell.TheVariants.{Gave, Used, Back}
use Rattle.rights_lattice.specs.Cells.{Cells, value_at}
use Rattle.rights_lattice.specs.Sums.{max_sites, sum_below}
use Rattle.local_rights.specs.Rights.{rights_of, HasRights, paper_value}

-- the sum of f at the sites other than i
abbrev pub sum_others : ℕ → (ℕ → ℕ) → ℕ
sum_others i f = sum_below max_sites (λ j. if j == i then 0 else f j)

-- what site i created and got from others, less what it gave to them and consumed
abbrev pub local_rights : (ℕ → ℕ → ℕ) → (ℕ → ℕ) → ℕ → ℤ
local_rights R U i = pos (R i i + sum_others i (λ j. R j i)) -ℤ pos (sum_others i (λ j. R i j) + U i)

-- what was created, less what was consumed
abbrev pub counter_value : (ℕ → ℕ → ℕ) → (ℕ → ℕ) → ℤ
counter_value R U = pos (sum_below max_sites (λ i. R i i)) -ℤ pos (sum_below max_sites U)

-- the matrix and the vector of an event
abbrev pub matrix_of : Cells → List ℕ → ℕ → ℕ → ℕ
matrix_of X event i j = if j == i then value_at X event (Gave i i) + value_at X event (Back i) else value_at X event (Gave i j)

abbrev pub used_of : Cells → List ℕ → ℕ → ℕ
used_of X event i = value_at X event (Used i)

abbrev pub RightsAreLocalRights : Type 0
RightsAreLocalRights = (X : Cells) (event : List ℕ) (i : ℕ) → rights_of X event i ≡ local_rights (matrix_of X event) (used_of X event) i

abbrev pub ValueIsTheCounters : Type 0
ValueIsTheCounters = (X : Cells) (event : List ℕ) → paper_value X event ≡ counter_value (matrix_of X event) (used_of X event)

-- that nothing more was spent than gained is that the whole number of the rights is not negative
abbrev pub RightsNotNegative : Type 0
RightsNotNegative = (X : Cells) (event : List ℕ) (i : ℕ) → HasRights X event i ↔ (pos 0 ≤ℤ rights_of X event i)
