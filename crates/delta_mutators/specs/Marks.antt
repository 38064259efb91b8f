-- The mark of an operation, as a delta mutator gives it (JPDC 2018).
use Rattle.std.specs.Prelude.{◌≡◌, ◌↔◌, ℕ, ◌+◌, ◌<◌, List, Result, IfOk, IsErr}
use Rattle.rights_lattice.specs.Cells.{Cells, Valued, greatest_value, value_at}
use Rattle.rights_lattice.specs.declared.cell.Cell.{Cell}

-- the mark of a cell at its old value plus the amount
abbrev pub mark_plus : Cells → List ℕ → Cell → ℕ → Valued
mark_plus X event cell amount = record { event = event; cell = cell; value = value_at X event cell + amount }

-- what an operation comes to: the mark of its cell, or an error where the value of the cell would exceed the greatest
pub record IsRaised {F : Type 0} (X : Cells) (event : List ℕ) (cell : Cell) (amount : ℕ) (came : Result Valued F) : Type 0 where
  pub mark : IfOk came (λ mark. mark ≡ mark_plus X event cell amount)
  pub full : IsErr came ↔ (greatest_value < value_at X event cell + amount)
