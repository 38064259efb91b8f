use Rattle.std.proofs.Common.{◌≡◌}
use Rattle.live_office.proofs.workers.work_at.Given as goal

abbrev pub invariant-callers : goal.invariant-callers
invariant-callers g l = l.seat.parts ≡ l.initial.seat.parts
