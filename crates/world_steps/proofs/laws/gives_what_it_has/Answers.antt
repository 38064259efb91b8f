use Rattle.world_steps.proofs.Giving as giving
use Rattle.world_steps.proofs.laws.gives_what_it_has.Goals as goal

pub returns : goal.returns
returns c = giving.gives_what_it_has
