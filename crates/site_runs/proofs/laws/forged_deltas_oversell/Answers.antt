use Rattle.site_runs.proofs.Histories as histories
use Rattle.site_runs.proofs.laws.forged_deltas_oversell.Goals as goal

pub returns : goal.returns
returns c = histories.forged_deltas_oversell
