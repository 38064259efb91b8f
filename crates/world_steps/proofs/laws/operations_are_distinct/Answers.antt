use Rattle.world_steps.specs.World.{run, begun}
use Rattle.world_steps.proofs.Promised as promised
use Rattle.world_steps.proofs.laws.operations_are_distinct.Goals as goal

pub returns : goal.returns
returns c = λ limits counts are steps. promised.operations_are_distinct (run steps (begun limits counts))
