use Rattle.std.proofs.Common.{arith, inr}
use Rattle.operator_cli.proofs.init.init.Goals as goal

pub returns : goal.returns
returns g c =
    inr (c.init.result, omega (arith, c.if-number-count.false, c.number.ensures.number, c.count.ensures.count), c.init.ensures, c.outcome_of_init.ensures)
