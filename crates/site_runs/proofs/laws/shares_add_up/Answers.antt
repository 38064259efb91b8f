use Rattle.site_runs.proofs.Sharing as sharing
use Rattle.site_runs.proofs.laws.shares_add_up.Goals as goal

pub returns-clause-seats : goal.returns-clause-seats
returns-clause-seats c = sharing.shares_add_up

pub returns-clause-own : goal.returns-clause-own
returns-clause-own c = sharing.own_share_is_left
