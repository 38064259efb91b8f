use Rattle.site_desk.specs.Calls.{}
use Rattle.site_runs.proofs.Sums as sums
use Rattle.site_runs.proofs.laws.runs_keep_promises.Goals as goal

pub returns : goal.returns
returns g c = sums.runs_keep_promises g.K.Keeper
