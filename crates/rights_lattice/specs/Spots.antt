-- The cells that are not 0, each once, in the order in which they came. Our own.
use Rattle.std.specs.Prelude.{ℕ, ◌≤◌, Bool, ◌&&◌, ◌||◌, ◌==◌, not, nat_le, List, map}
use Rattle.std.specs.List.{All, IsDistinct, list_all}
use Rattle.std.specs.Map.{keys_of}
use Rattle.rights_lattice.specs.Cell.{owner_of, same_cell, same_event}
use Rattle.rights_lattice.specs.Cells.{Key, Cells, Valued, raise_all, all_zero, greatest_value, value_at}
use Rattle.rights_lattice.specs.RightsView.{IsCellOf}

-- whether two spots are the same
abbrev pub same_spot : Key → Key → Bool
same_spot k l = same_event k.0 l.0 && same_cell k.1 l.1

-- what the cells say
abbrev pub marks_in : List (Key × ℕ) → List Valued
marks_in es = map (λ e. record { event = e.0.0; cell = e.0.1; value = e.1 }) es

-- the values that they are
abbrev pub cells_in : List (Key × ℕ) → Cells
cells_in es = raise_all all_zero (marks_in es)

-- a value that a cell of the sites may have and that is not 0
abbrev pub IsValued : ℕ → Key × ℕ → Type 0
IsValued sites e = (1 ≤ e.1) × (e.1 ≤ greatest_value) × IsCellOf sites e.0.1

-- each cell once
pub record AreSpots (sites : ℕ) (es : List (Key × ℕ)) : Type 0 where
  pub valued : All (IsValued sites) es
  pub once : IsDistinct same_spot (keys_of es)

-- whether each value is at most what the cells say there
abbrev pub are_at_most : Cells → List (Key × ℕ) → Bool
are_at_most X es = list_all (λ e. nat_le e.1 (value_at X e.0.0 e.0.1)) es

-- the same of the cells of a site's row
abbrev pub are_at_most_in_row : Cells → ℕ → List (Key × ℕ) → Bool
are_at_most_in_row X site es = list_all (λ e. not (owner_of e.0.1 == site) || nat_le e.1 (value_at X e.0.0 e.0.1)) es
