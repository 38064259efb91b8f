-- What contracts see of a state of rights. Our own.
use Rattle.std.specs.Prelude.{ℕ, ◌<◌, ◌≤◌, Bool, ◌&&◌, ◌==◌, nat_lt, List, count_by, refl}
use Rattle.std.specs.List.{list_all}
use Rattle.std.specs.Coded.{Coded, code_by, coded_ℕ, coded×}
use Rattle.rights_lattice.specs.declared.cell.Cell.{Cell}
use Rattle.rights_lattice.specs.declared.cell.Cell.TheVariants.{Gave, Used, Back}
use Rattle.rights_lattice.specs.Cells.{Cells, Valued, coded_cells, value_at, marks_of}

-- the values of the cells over a count of sites, and room for cells that are 0 now
pub record RightsView : Type 0 where
  pub sites : ℕ
  pub cells : Cells
  pub room : ℕ

abbrev pub coded_rights : Coded RightsView
coded_rights = code_by ((ℕ × Cells) × ℕ) (coded× (coded× coded_ℕ coded_cells) coded_ℕ) (λ r. ((r.sites, r.cells), r.room))
    (λ p. record { sites = p.0.0; cells = p.0.1; room = p.1 }) (λ _. refl)

-- the cell names sites below the count only
abbrev pub IsCellOf : ℕ → Cell → Type 0
IsCellOf sites (Gave by to) = (by < sites) × (to < sites)
IsCellOf sites (Used by) = by < sites
IsCellOf sites (Back by) = by < sites

-- the same, as a test
abbrev pub is_cell_of : ℕ → Cell → Bool
is_cell_of sites (Gave by to) = nat_lt by sites && nat_lt to sites
is_cell_of sites (Used by) = nat_lt by sites
is_cell_of sites (Back by) = nat_lt by sites

-- the cells that are not 0 are of sites below the count
abbrev pub IsWithin : ℕ → Cells → Type 0
IsWithin sites X = (event : List ℕ) (cell : Cell) → 1 ≤ value_at X event cell → IsCellOf sites cell

-- the same, as a test of the marks
abbrev pub are_within : ℕ → List Valued → Bool
are_within sites marks = list_all (λ m. is_cell_of sites m.cell) marks

-- how many cells are 0 in X and not in Y
abbrev pub missing : Cells → Cells → ℕ
missing X Y = count_by (λ m. value_at X m.event m.cell == 0) (marks_of Y)
