use Rattle.std.proofs.Common.{◌*◌}
use Rattle.rights_lattice.specs.Cells.{greatest_value}
use Rattle.world_steps.specs.Reaching.{AreAtMost}
use Rattle.world_steps.specs.World.{history_at}
use Rattle.world_steps.proofs.Totals.{AreOwn}
use Rattle.world_steps.proofs.world.World.totals.Given as goal

abbrev pub invariant-loop-node : goal.invariant-loop-node
invariant-loop-node l = record {
  own : AreOwn l.node-index (history_at l.self) l.event l.totals;
  bound : AreAtMost (greatest_value * l.node-index) l.totals;
}
