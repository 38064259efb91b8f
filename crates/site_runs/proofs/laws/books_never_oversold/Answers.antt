use Rattle.site_desk.specs.Calls.{}
use Rattle.site_runs.proofs.Sums as sums
use Rattle.site_runs.proofs.laws.books_never_oversold.Goals as goal

pub returns : goal.returns
returns g c = sums.books_never_oversold g.K.Keeper
