-- A table with the cells of one event. (Our own.)
use Rattle.std.specs.Prelude.{◌≡◌, ℕ, ◌+◌, ◌*◌, List, get_or}
use Rattle.rights_lattice.specs.declared.cell.Cell.{Cell}
use Rattle.rights_lattice.specs.declared.cell.Cell.TheVariants.{Gave, Used, Back}
use Rattle.rights_lattice.specs.Cells.{Cells, value_at}
use Rattle.rights_lattice.specs.RightsView.{IsCellOf}
use Rattle.rights_lattice.specs.Sums.{max_sites}

-- where the number of a cell is, for n sites: the rows of the rights matrix (SRDS 2015), what each site sold, what came back
abbrev pub offset_of : ℕ → Cell → ℕ
offset_of n (Gave i j) = i * n + j
offset_of n (Used i) = n * n + i
offset_of n (Back i) = n * n + n + i

-- the number of a cell in a table
abbrev pub value_in_table : List ℕ → Cell → ℕ
value_in_table table cell = get_or table (offset_of max_sites cell) 0

-- the table has the values that a state gives to the cells of an event
abbrev pub Shows : List ℕ → Cells → List ℕ → Type 0
Shows table X event = (cell : Cell) → IsCellOf max_sites cell → value_in_table table cell ≡ value_at X event cell
