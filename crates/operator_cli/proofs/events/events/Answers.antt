use Rattle.std.proofs.Common.{inl, refl}
use Rattle.operator_cli.specs.Commands.{EventsOf}
use Rattle.operator_cli.proofs.CommandLaws.{came_over}
use Rattle.operator_cli.proofs.events.events.Goals as goal

pub returns-in-Ok : goal.returns-in-Ok
returns-in-Ok g c =
    came_over g.S.Store c.args.conn c.close.result EventsOf c.outcome_of_events.result c.in-Ok.book c.in-Ok.book c.into_keeper.result c.into_keeper.ensures
    c.close.ensures c.in-Ok.ensures.opened
    (c.events-called.result, c.events-called.ensures.events, refl, c.outcome_of_events.ensures)

pub returns-in-Err : goal.returns-in-Err
returns-in-Err g c = inl (c.in-Err.fault, refl, c.in-Err.ensures.fault)
