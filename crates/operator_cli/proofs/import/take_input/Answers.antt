use Rattle.std.proofs.Common.{inl, inr, refl}
use Rattle.operator_cli.proofs.import.take_input.Goals as goal

pub returns-in-Ok : goal.returns-in-Ok
returns-in-Ok g c = inr (c.in-Ok.message, c.take.result, c.in-Ok.ensures, c.take.ensures.took, c.outcome_of_take.ensures)

pub returns-in-Err : goal.returns-in-Err
returns-in-Err g c = inl (c.in-Err.ensures, refl)
