use Rattle.world_steps.proofs.Entered as entered
use Rattle.world_steps.proofs.laws.entries_never_oversell.Goals as goal

pub returns : goal.returns
returns c = entered.entries_never_oversell
