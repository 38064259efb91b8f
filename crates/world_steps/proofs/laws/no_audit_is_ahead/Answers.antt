use Rattle.world_steps.proofs.Entered as entered
use Rattle.world_steps.proofs.laws.no_audit_is_ahead.Goals as goal

pub returns : goal.returns
returns c = entered.no_audit_is_ahead
