use Rattle.site_runs.proofs.Copying as copying
use Rattle.site_runs.proofs.laws.two_copies_oversell.Goals as goal

pub returns : goal.returns
returns c = copying.two_copies_oversell
