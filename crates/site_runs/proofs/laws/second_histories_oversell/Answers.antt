use Rattle.site_runs.proofs.Histories as histories
use Rattle.site_runs.proofs.laws.second_histories_oversell.Goals as goal

pub returns : goal.returns
returns c = histories.second_histories_oversell
