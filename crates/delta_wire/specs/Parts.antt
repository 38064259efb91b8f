-- The text of a delta in two parts. Our own.
use Rattle.std.specs.Prelude.{ℕ, List, [], ◌∷◌, ◌++◌}
use Rattle.std.specs.List.{flat_map}
use Rattle.rights_lattice.specs.Cells.{Valued}
use Rattle.delta_mutators.specs.declared.delta.Item.TheVariants as item
use Rattle.delta_wire.specs.Grammar.{item_line}

abbrev pub name_line : List ℕ → List ℕ
name_line name = item_line (item.Name name) ++ 10 ∷ []

abbrev pub mark_line : Valued → List ℕ
mark_line mark = item_line (item.Cell mark) ++ 10 ∷ []

abbrev pub names_text : List (List ℕ) → List ℕ
names_text names = flat_map name_line names

abbrev pub marks_text : List Valued → List ℕ
marks_text marks = flat_map mark_line marks
