use Rattle.world_steps.specs.World.{run, begun}
use Rattle.world_steps.proofs.Promised as promised
use Rattle.world_steps.proofs.Reached.{sound_from}
use Rattle.world_steps.proofs.laws.agree_once_acknowledged.Goals as goal

pub returns : goal.returns
returns c = λ limits counts are steps. promised.agree_once_acknowledged (run steps (begun limits counts)) (sound_from limits counts steps are)
