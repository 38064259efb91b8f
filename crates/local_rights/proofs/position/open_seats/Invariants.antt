use Rattle.std.proofs.Common.{ℕ, ◌<◌}
use Rattle.local_rights.specs.Rights.{HasRights}
use Rattle.local_rights.proofs.position.open_seats.Given as goal

abbrev pub invariant-loop-number : goal.invariant-loop-number
invariant-loop-number l = (i : ℕ) → i < l.number → HasRights l.rights.cells l.event i
