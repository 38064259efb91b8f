-- The state of one item, a delta (JPDC 2018).
use Rattle.rights_lattice.specs.Cells.{raise, all_zero}
use Rattle.rights_lattice.specs.State.{State, no_names, with_name}
use Rattle.delta_mutators.specs.declared.delta.Item.{Item}
use Rattle.delta_mutators.specs.declared.delta.Item.TheVariants as item

-- the name alone, or the cell alone at the mark's value
abbrev pub item_state : Item → State
item_state (item.Name name) = record { cells = all_zero; names = with_name no_names name }
item_state (item.Cell mark) = record { cells = raise all_zero mark; names = no_names }
