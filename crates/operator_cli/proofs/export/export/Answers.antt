use Rattle.std.proofs.Common.{inl, refl}
use Rattle.operator_cli.specs.Commands.{Exports, NextCall}
use Rattle.operator_cli.proofs.CommandLaws.{came_over}
use Rattle.operator_cli.proofs.export.export.Goals as goal

pub returns-in-Ok : goal.returns-in-Ok
returns-in-Ok g c =
    let next = c.next-called.ensures in
    let call : NextCall c.in-Ok.book c.next-called.new.self c.args.to c.next-called.result =
    record { message = next.message; closed = next.closed; no_site = next.no_site; memory = next.memory; same = next.same } in
    came_over g.S.Store c.args.conn c.close.result (Exports c.args.to) c.outcome_of_next.result c.in-Ok.book c.next-called.new.self c.into_keeper.result
    c.into_keeper.ensures c.close.ensures c.in-Ok.ensures.opened
    (c.next-called.result, call, c.outcome_of_next.ensures)

pub returns-in-Err : goal.returns-in-Err
returns-in-Err g c = inl (c.in-Err.fault, refl, c.in-Err.ensures.fault)
