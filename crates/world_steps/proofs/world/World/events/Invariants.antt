use Rattle.std.proofs.Common.{◌≡◌}
use Rattle.rights_lattice.specs.State.{names_in_order}
use Rattle.world_steps.specs.World.{history_at, known_below}
use Rattle.world_steps.proofs.world.World.events.Given as goal

abbrev pub invariant-loop-node : goal.invariant-loop-node
invariant-loop-node l = l.names.keys ≡ names_in_order (known_below l.node-index (history_at l.self))
