use Rattle.std.proofs.Common.{◌≤◌}
use Rattle.std.specs.Prelude.{vec_capacity}
use Rattle.world_steps.proofs.Added.{AreSoFar}
use Rattle.world_steps.proofs.node.add_sites.Given as goal

abbrev pub invariant-loop-number : goal.invariant-loop-number
invariant-loop-number l = record {
  added : AreSoFar l.sites l.limit l.fn.nodes.items l.nodes.items l.number;
  room : l.sites ≤ vec_capacity l.nodes;
}
