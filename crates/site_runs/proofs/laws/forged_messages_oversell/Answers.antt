use Rattle.site_runs.proofs.Forging as forging
use Rattle.site_runs.proofs.laws.forged_messages_oversell.Goals as goal

pub returns : goal.returns
returns c = forging.forged_messages_oversell
