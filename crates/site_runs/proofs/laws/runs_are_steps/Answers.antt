use Rattle.site_desk.specs.Calls.{}
use Rattle.site_runs.proofs.Listing as listing
use Rattle.site_runs.proofs.laws.runs_are_steps.Goals as goal

pub returns : goal.returns
returns g c = listing.runs_are_steps g.K.Keeper
