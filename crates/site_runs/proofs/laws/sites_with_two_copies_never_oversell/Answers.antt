use Rattle.site_runs.proofs.CopiesLaws as copies
use Rattle.site_runs.proofs.laws.sites_with_two_copies_never_oversell.Goals as goal

pub returns-clause-calls : goal.returns-clause-calls
returns-clause-calls g c = copies.calls_are_of_copies g.K.Keeper

pub returns-clause-loss : goal.returns-clause-loss
returns-clause-loss g c = copies.loss_is_a_restart g.K.Keeper

pub returns-clause-bounded : goal.returns-clause-bounded
returns-clause-bounded g c = copies.copies_never_oversell g.K.Keeper
