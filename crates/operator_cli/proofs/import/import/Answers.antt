use Rattle.std.proofs.Common.{inl, refl}
use Rattle.operator_cli.specs.Commands.{Imports}
use Rattle.operator_cli.specs.Session.{records}
use Rattle.operator_cli.proofs.CommandLaws.{came_over}
use Rattle.operator_cli.proofs.import.import.Goals as goal

pub returns-in-Ok : goal.returns-in-Ok
returns-in-Ok g c =
    came_over g.S.Store c.args.conn c.close.result (Imports (records g.S.Store) (g.R.Read.remaining c.args.input)) c.take_input-outcome.result c.in-Ok.book
    c.take_input-outcome.new.book c.into_keeper.result c.into_keeper.ensures c.close.ensures c.in-Ok.ensures.opened
    c.take_input-outcome.ensures

pub returns-in-Err : goal.returns-in-Err
returns-in-Err g c = inl (c.in-Err.fault, refl, c.in-Err.ensures.fault)
