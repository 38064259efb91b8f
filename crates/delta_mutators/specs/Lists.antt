-- What the lists of a delta are. Our own.
use Rattle.std.specs.Prelude.{ℕ, List, IsTrue}
use Rattle.rights_lattice.specs.Cells.{Valued}
use Rattle.rights_lattice.specs.Marks.{AreMarks, are_rising_marks, are_rising_names, cells_of, names_of}
use Rattle.rights_lattice.specs.State.{State}

-- rising names, and rising marks that are not 0
pub record AreLists (names : List (List ℕ)) (marks : List Valued) : Type 0 where
  pub marks_rise : IsTrue (are_rising_marks marks)
  pub names_rise : IsTrue (are_rising_names names)
  pub positive : AreMarks marks

-- the delta of these names and marks
abbrev pub state_from : List (List ℕ) → List Valued → State
state_from names marks = record { cells = cells_of marks; names = names_of names }
