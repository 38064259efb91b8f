-- Items one after another. Our own.
use Rattle.std.specs.Prelude.{◌≡◌, ℕ, Bool, true, ◌&&◌, ◌==◌, List, [], ◌∷◌, ◌++◌, length}
use Rattle.rights_lattice.specs.Cells.{Valued, marks_of}
use Rattle.rights_lattice.specs.State.{State, names_in_order}
use Rattle.delta_mutators.specs.declared.delta.Item.{Item}
use Rattle.delta_mutators.specs.declared.delta.Item.TheVariants as item
use Rattle.delta_mutators.specs.Rises.{follows, names_in, marks_in}
use Rattle.delta_wire.specs.Grammar.{IsItem}

abbrev pub all_names : List Item → List (List ℕ)
all_names [] = []
all_names (i ∷ items) = names_in i ++ all_names items

abbrev pub all_marks : List Item → List Valued
all_marks [] = []
all_marks (i ∷ items) = marks_in i ++ all_marks items

-- whether the line of an item may stand behind those of these names and marks: it comes after those of its kind, and no name stands behind a mark
abbrev pub comes_next : List (List ℕ) → List Valued → Item → Bool
comes_next names marks (item.Name name) = length marks == 0 && follows names marks (item.Name name)
comes_next names marks (item.Cell mark) = follows names marks (item.Cell mark)

-- the same behind the lines of a delta
abbrev pub follows_delta : State → Item → Bool
follows_delta S item = comes_next (names_in_order S.names) (marks_of S.cells) item

-- the items may stand so behind these names and marks
abbrev pub Extends : List (List ℕ) → List Valued → List Item → Type 0
Extends names marks [] = Unit {0}
Extends names marks (i ∷ items) = IsItem i × (comes_next names marks i ≡ true) × Extends (names ++ names_in i) (marks ++ marks_in i) items
