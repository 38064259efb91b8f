use Rattle.std.proofs.Common.{arith}
use Rattle.rights_lattice.specs.Sums.{max_sites}
use Rattle.world_steps.proofs.auditing.stands_at.Goals as goal

pub returns-then-number-place-clause-few : goal.returns-then-number-place-clause-few
unfolding max_sites
returns-then-number-place-clause-few c = λ _. omega (arith, c.if-number-place.true, c.number.ensures.in_range)
