-- The values of the cells of all events: a finite map in which absent is 0. The cells are those of SRDS 2015,
-- with `Back` of our own; the order and the join are those of state-based replicated data (RR-7506).
use Rattle.std.specs.Prelude.{refl, ◌≡◌, ℕ, ◌+◌, ◌-◌, ◌≤◌, max, Bool, cond, nat_le, List, [], ◌∷◌, map, Option, Some, None}
use Rattle.std.specs.Ordering.{nat_cmp, on, then_cmp, eq_by_cmp}
use Rattle.std.specs.declared.cmp.Ordering.{Ordering}
use Rattle.std.specs.Cmp.Lexicographic.{slice_cmp}
use Rattle.std.specs.Coded.{Coded, code_by, coded_ℕ, coded_list, coded×}
use Rattle.std.specs.FinMap as finite
use Rattle.rights_lattice.specs.Cell.{cell_cmp, owner_of}
use Rattle.rights_lattice.specs.CellOrder.{coded_cell}
use Rattle.rights_lattice.specs.declared.cell.Cell.{Cell}

-- the greatest value of a cell
abbrev pub greatest_value : ℕ
greatest_value = 1000000000000

-- the value of a cell that is not 0, an amount or the number of a request
abbrev pub IsValue : ℕ → Type 0
IsValue n = (1 ≤ n) × (n ≤ greatest_value)

-- an event and one of its cells
abbrev pub Key : Type 0
Key = List ℕ × Cell

-- by event, then by cell
abbrev pub key_cmp : Key → Key → Ordering
key_cmp = then_cmp (on (λ k. k.0) (slice_cmp nat_cmp)) (on (λ k. k.1) cell_cmp)

-- A cell that is not 0 is kept as its value less one, so that a map holds no 0 and two maps with the same values are equal.
abbrev pub Cells : Type 0
Cells = finite.FinMap key_cmp ℕ

abbrev pub coded_cells : Coded Cells
coded_cells = finite.code (coded× (coded_list coded_ℕ) coded_cell) coded_ℕ

-- a value of a cell of an event
pub record Valued : Type 0 where
  pub event : List ℕ
  pub cell : Cell
  pub value : ℕ

abbrev pub coded_valued : Coded Valued
coded_valued = code_by (Key × ℕ) (coded× (coded× (coded_list coded_ℕ) coded_cell) coded_ℕ) (λ m. ((m.event, m.cell), m.value))
    (λ p. record { event = p.0.0; cell = p.0.1; value = p.1 }) (λ _. refl)

abbrev pub from_less_one : Option ℕ → ℕ
from_less_one None = 0
from_less_one (Some less_one) = less_one + 1

-- the value of a cell
unfoldable pub value_at : Cells → List ℕ → Cell → ℕ
value_at X event cell = from_less_one (finite.get X (event, cell))

-- every cell is 0
unfoldable pub all_zero : Cells
all_zero = finite.empty

-- the cell of the mark at the greater of its old value and the mark's
unfoldable pub raise : Cells → Valued → Cells
raise X m = cond (nat_le m.value (value_at X m.event m.cell)) X (finite.insert X (m.event, m.cell) (m.value - 1))

-- each mark raised in turn
abbrev pub raise_all : Cells → List Valued → Cells
raise_all X [] = X
raise_all X (m ∷ ms) = raise_all (raise X m) ms

-- the cells that are not 0, rising
unfoldable pub marks_of : Cells → List Valued
marks_of X = map (λ e. record { event = e.0.0; cell = e.0.1; value = e.1 + 1 }) (finite.entries X)

-- the greater of each cell
unfoldable pub join : Cells → Cells → Cells
join X Y = raise_all X (marks_of Y)

-- cell by cell
abbrev pub AtOrBelow : Cells → Cells → Type 0
AtOrBelow X Y = (event : List ℕ) (cell : Cell) → value_at X event cell ≤ value_at Y event cell

-- cell by cell on the row of one site
abbrev pub RowAtOrBelow : ℕ → Cells → Cells → Type 0
RowAtOrBelow owner X Y = (event : List ℕ) (cell : Cell) → owner_of cell ≡ owner → value_at X event cell ≤ value_at Y event cell

-- whether a mark is of this cell of this event
abbrev pub is_of : Valued → List ℕ → Cell → Bool
is_of m event cell = eq_by_cmp key_cmp (event, cell) (m.event, m.cell)

-- what a mark says of a cell
abbrev pub value_in : Valued → List ℕ → Cell → ℕ
value_in m event cell = cond (is_of m event cell) m.value 0

-- the greatest value that marks say of a cell
abbrev pub greatest : List Valued → List ℕ → Cell → ℕ
greatest [] e c = 0
greatest (m ∷ ms) e c = max (value_in m e c) (greatest ms e c)
