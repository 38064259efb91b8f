-- A state: the values of all cells, and the names of events that are known. Its order and its join are those of
-- state-based replicated data (RR-7506): a grow-only set of names, and the greater of each cell.
use Rattle.std.specs.Prelude.{ℕ, ◌≤◌, Bool, ◌&&◌, cond, nat_le, List, [], ◌∷◌, refl}
use Rattle.std.specs.List.{list_all}
use Rattle.std.specs.Ordering.{nat_cmp}
use Rattle.std.specs.Cmp.Lexicographic.{slice_cmp}
use Rattle.std.specs.Coded.{Coded, code_by, coded_ℕ, coded_list, coded×}
use Rattle.std.specs.FinMap as finite
use base.Stored.{coded_unit}
use Rattle.rights_lattice.specs.declared.cell.Cell.{Cell}
use Rattle.rights_lattice.specs.Cells.{Cells, Valued, coded_cells, value_at, all_zero, marks_of}
use Rattle.rights_lattice.specs.Cells as cells

-- a set of event names, as a map to nothing, since its names are read in order
abbrev pub Names : Type 0
Names = finite.FinMap (slice_cmp nat_cmp) (Unit {0})

-- whether the name is known
abbrev pub knows : Names → List ℕ → Bool
knows N name = finite.contains_key N name

-- no name is known
unfoldable pub no_names : Names
no_names = finite.empty

-- one more name
unfoldable pub with_name : Names → List ℕ → Names
with_name N name = finite.insert N name tt

-- each name in turn
abbrev pub with_names : Names → List (List ℕ) → Names
with_names N [] = N
with_names N (name ∷ names) = with_names (with_name N name) names

-- the names, rising
abbrev pub names_in_order : Names → List (List ℕ)
names_in_order N = finite.keys N

-- the names of both
unfoldable pub join_names : Names → Names → Names
join_names N M = with_names N (names_in_order M)

-- what a site knows
pub record State : Type 0 where
  pub cells : Cells
  pub names : Names

abbrev pub coded_state : Coded State
coded_state = code_by (Cells × Names) (coded× coded_cells (finite.code (coded_list coded_ℕ) coded_unit)) (λ s. (s.cells, s.names))
    (λ p. record { cells = p.0; names = p.1 }) (λ _. refl)

-- nothing is known, and every cell is 0
abbrev pub bottom : State
bottom = record { cells = all_zero; names = no_names }

-- the greater of each cell, and the names of both
abbrev pub join : State → State → State
join X Y = record { cells = cells.join X.cells Y.cells; names = join_names X.names Y.names }

-- where a state has a number
pub data Spot : Type 0 where
  Name : (event : List ℕ) → Spot
  At : (event : List ℕ) → (cell : Cell) → Spot

-- the number of a state at a spot: 1 for a name that is known, else 0, and a cell's value
abbrev pub at : State → Spot → ℕ
at X (Name event) = cond (knows X.names event) 1 0
at X (At event cell) = value_at X.cells event cell

-- entry by entry, names included
abbrev pub AtOrBelow : State → State → Type 0
AtOrBelow X Y = (s : Spot) → at X s ≤ at Y s

-- whether all of the names are known
abbrev pub knows_all : Names → List (List ℕ) → Bool
knows_all N names = list_all (λ name. knows N name) names

-- whether no mark is above the value of its cell
abbrev pub reaches_all : Cells → List Valued → Bool
reaches_all X marks = list_all (λ m. nat_le m.value (value_at X m.event m.cell)) marks

-- the same as the order, as a test of a delta's own marks and names
abbrev pub is_within : State → State → Bool
is_within D X = knows_all X.names (names_in_order D.names) && reaches_all X.cells (marks_of D.cells)
