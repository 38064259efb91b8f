use Rattle.std.proofs.Common.{refl}
use Rattle.operator_cli.proofs.Promised.{scripts_make_steps, totals_are_not_oversold}
use Rattle.operator_cli.proofs.laws.totals_are_not_oversold.Goals as goal

pub returns-clause-steps : goal.returns-clause-steps
returns-clause-steps c = scripts_make_steps

pub returns-clause-totals : goal.returns-clause-totals
returns-clause-totals c = λ sites lines. refl

pub returns-clause-bounded : goal.returns-clause-bounded
returns-clause-bounded c = totals_are_not_oversold
