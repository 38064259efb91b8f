use Rattle.std.proofs.Common.{◌≡◌}
use Rattle.std.specs.Prelude.{map}
use Rattle.world_steps.specs.Audit.{books_of, totals_in}
use Rattle.world_steps.proofs.auditing.lines.Given as goal

abbrev pub invariant-loop-event : goal.invariant-loop-event
invariant-loop-event l = l.lines.items ≡ map (λ event. (event, totals_in (books_of l.books) event)) l.yielded
