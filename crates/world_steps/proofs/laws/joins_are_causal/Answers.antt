use Rattle.world_steps.specs.World.{run, begun}
use Rattle.world_steps.proofs.Promised as promised
use Rattle.world_steps.proofs.Reached.{sound_from}
use Rattle.world_steps.proofs.laws.joins_are_causal.Goals as goal

pub returns : goal.returns
returns c = λ limits counts are steps. promised.joins_are_causal (run steps (begun limits counts)) (sound_from limits counts steps are)
