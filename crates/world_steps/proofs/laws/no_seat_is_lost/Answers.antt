use Rattle.world_steps.specs.World.{run, begun}
use Rattle.world_steps.proofs.Promised as promised
use Rattle.world_steps.proofs.Reached.{few_from, sound_from}
use Rattle.world_steps.proofs.laws.no_seat_is_lost.Goals as goal

pub returns : goal.returns
returns c = λ limits counts are few steps. promised.no_seat_is_lost (run steps (begun limits counts)) (sound_from limits counts steps are)
    (few_from limits counts steps are few)
