use Rattle.std.proofs.Common.{inl, refl}
use Rattle.operator_cli.specs.Commands.{Grows}
use Rattle.operator_cli.specs.Session.{records}
use Rattle.operator_cli.proofs.CommandLaws.{came_over}
use Rattle.operator_cli.proofs.grow.grow.Goals as goal

pub returns-in-Ok : goal.returns-in-Ok
returns-in-Ok g c =
    came_over g.S.Store c.args.conn c.close.result (Grows (records g.S.Store) c.args.sites) c.outcome_of_grow.result c.in-Ok.book c.grow-called.new.self
    c.into_keeper.result c.into_keeper.ensures c.close.ensures c.in-Ok.ensures.opened
    (c.grow-called.result, c.grow-called.ensures.grown, c.outcome_of_grow.ensures)

pub returns-in-Err : goal.returns-in-Err
returns-in-Err g c = inl (c.in-Err.fault, refl, c.in-Err.ensures.fault)
