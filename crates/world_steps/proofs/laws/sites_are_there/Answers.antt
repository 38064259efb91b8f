use Rattle.world_steps.specs.World.{run, begun}
use Rattle.world_steps.proofs.Promised as promised
use Rattle.world_steps.proofs.Reached.{sound_from}
use Rattle.world_steps.proofs.laws.sites_are_there.Goals as goal

pub returns-clause-counted : goal.returns-clause-counted
returns-clause-counted c = λ limits counts are steps. promised.counted_are_there (run steps (begun limits counts)) (sound_from limits counts steps are)

pub returns-clause-receivers : goal.returns-clause-receivers
returns-clause-receivers c = λ limits counts are steps. promised.receivers_are_there (run steps (begun limits counts)) (sound_from limits counts steps are)
