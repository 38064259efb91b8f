-- The owner of a cell, and the order of cells. Cells are the rights matrix and the consumed rights of a
-- bounded counter (SRDS 2015); `Back` and the order are our own.
use Rattle.std.specs.Prelude.{ℕ, Bool, false, ◌&&◌, ◌==◌, nat_eq, List}
use lib.Pointwise.{pointwise}
use Rattle.std.specs.Ordering.{nat_cmp, ordering_then}
use Rattle.std.specs.declared.cmp.Ordering.{Ordering}
use Rattle.std.specs.declared.cmp.Ordering.TheVariants.{Less, Greater}
use Rattle.rights_lattice.specs.declared.cell.Cell.{Cell}
use Rattle.rights_lattice.specs.declared.cell.Cell.TheVariants.{Gave, Used, Back}

-- the site that alone changes the cell
abbrev pub owner_of : Cell → ℕ
owner_of (Gave by to) = by
owner_of (Used by) = by
owner_of (Back by) = by

-- gave before used before back, then by the first site, then by the second
abbrev pub cell_cmp : Cell → Cell → Ordering
cell_cmp (Gave i j) (Gave k l) = ordering_then (nat_cmp i k) (nat_cmp j l)
cell_cmp (Gave i j) (Used k) = Less
cell_cmp (Gave i j) (Back k) = Less
cell_cmp (Used i) (Gave k l) = Greater
cell_cmp (Used i) (Used k) = nat_cmp i k
cell_cmp (Used i) (Back k) = Less
cell_cmp (Back i) (Gave k l) = Greater
cell_cmp (Back i) (Used k) = Greater
cell_cmp (Back i) (Back k) = nat_cmp i k

-- whether two cells are the same
abbrev pub same_cell : Cell → Cell → Bool
same_cell (Gave i j) (Gave k l) = (i == k) && (j == l)
same_cell (Used i) (Used k) = i == k
same_cell (Back i) (Back k) = i == k
same_cell _ _ = false

-- whether two events are the same
abbrev pub same_event : List ℕ → List ℕ → Bool
same_event e f = pointwise nat_eq e f
