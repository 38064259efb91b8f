-- Items that come after all those of their kind: a name above the last name, a mark above the last mark. Our own.
use Rattle.std.specs.Prelude.{◌≡◌, ℕ, Bool, List, [], ◌∷◌, ◌++◌}
use Rattle.std.specs.List.{list_all}
use Rattle.std.specs.Ordering.{nat_cmp, is_lt}
use Rattle.std.specs.Cmp.Lexicographic.{slice_cmp}
use Rattle.rights_lattice.specs.Cells.{key_cmp, Valued, raise, marks_of}
use Rattle.rights_lattice.specs.State.{State, with_name, names_in_order}
use Rattle.delta_mutators.specs.declared.delta.Item.{Item}
use Rattle.delta_mutators.specs.declared.delta.Item.TheVariants as item

-- the name comes after all of these
abbrev pub is_after_names : List (List ℕ) → List ℕ → Bool
is_after_names names name = list_all (λ n. is_lt (slice_cmp nat_cmp n name)) names

-- the mark is of a later cell than all of these
abbrev pub is_after_marks : List Valued → Valued → Bool
is_after_marks marks mark = list_all (λ m. is_lt (key_cmp (m.event, m.cell) (mark.event, mark.cell))) marks

-- whether a name comes after these names, or a mark after these marks
abbrev pub follows : List (List ℕ) → List Valued → Item → Bool
follows names marks (item.Name name) = is_after_names names name
follows names marks (item.Cell mark) = is_after_marks marks mark

-- whether an item comes after all those of its kind in the state
abbrev pub rises : State → Item → Bool
rises S item = follows (names_in_order S.names) (marks_of S.cells) item

-- the state with one more item
abbrev pub pushed : State → Item → State
pushed S (item.Name name) = record { cells = S.cells; names = with_name S.names name }
pushed S (item.Cell mark) = record { cells = raise S.cells mark; names = S.names }

-- the name of an item that is one
abbrev pub names_in : Item → List (List ℕ)
names_in (item.Name name) = name ∷ []
names_in (item.Cell mark) = []

-- the mark of an item that is one
abbrev pub marks_in : Item → List Valued
marks_in (item.Name name) = []
marks_in (item.Cell mark) = mark ∷ []

-- the names of the new state are those of the old one, and then that of the item, if it is one
abbrev pub PutsNameLast : State → Item → State → Type 0
PutsNameLast old item new = names_in_order new.names ≡ names_in_order old.names ++ names_in item

-- the marks of the new state are those of the old one, and then that of the item, if it is one
abbrev pub PutsMarkLast : State → Item → State → Type 0
PutsMarkLast old item new = marks_of new.cells ≡ marks_of old.cells ++ marks_in item
