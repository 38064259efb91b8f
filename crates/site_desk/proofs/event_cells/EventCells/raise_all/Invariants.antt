use Rattle.std.proofs.Common.{◌≡◌, take}
use Rattle.std.specs.Prelude.{max}
use Rattle.rights_lattice.specs.declared.cell.Cell.{Cell}
use Rattle.rights_lattice.specs.Cells.{greatest}
use Rattle.rights_lattice.specs.RightsView.{IsCellOf}
use Rattle.rights_lattice.specs.Sums.{max_sites}
use Rattle.site_desk.specs.EventCells.{value_in_table}
use Rattle.site_desk.proofs.event_cells.EventCells.raise_all.Given as goal

-- the cells are raised by the marks so far
abbrev pub invariant-loop-mark : goal.invariant-loop-mark
invariant-loop-mark l = (cell : Cell) → IsCellOf max_sites cell
    → value_in_table l.self cell ≡ max (value_in_table l.fn.self cell) (greatest (take l.mark-index l.marks) l.event cell)
