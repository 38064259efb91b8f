-- Applying an operation is joining its delta (JPDC 2018).
use Rattle.std.specs.Prelude.{◌≡◌}
use Rattle.rights_lattice.specs.Cells.{Cells, Valued, raise, all_zero}
use Rattle.rights_lattice.specs.Cells as cells
use Rattle.rights_lattice.specs.State.{State, join}
use Rattle.delta_mutators.specs.declared.delta.Item.{Item}
use Rattle.delta_mutators.specs.Items.{item_state}
use Rattle.delta_mutators.specs.Rises.{pushed}

-- to raise a cell by a mark is to join the state of the mark alone
abbrev pub ApplyingIsJoining : Type 0
ApplyingIsJoining = (X : Cells) (mark : Valued) → raise X mark ≡ cells.join X (raise all_zero mark)

-- to add an item to a state, a name or a mark, is to join the state of the item alone
abbrev pub AddingIsJoining : Type 0
AddingIsJoining = (S : State) (item : Item) → pushed S item ≡ join S (item_state item)
