use Rattle.std.proofs.Common.{inl, refl, subst}
use Rattle.sql_records.specs.Held.{RecordsView}
use Rattle.sql_records.specs.Opened.{FindCall}
use Rattle.operator_cli.specs.Commands.{Finds}
use Rattle.operator_cli.proofs.CommandLaws.{came_over}
use Rattle.operator_cli.proofs.find.find.Goals as goal

pub returns-in-Ok : goal.returns-in-Ok
returns-in-Ok g c =
    let first = c.in-Ok.book in
    let records = c.find-called.new.self in
    let here = subst (λ (k : RecordsView g.row.S.Denot). FindCall g.S.Store k records c.args.number c.find-called.result) c.into_keeper-records.ensures
    c.find-called.ensures in
    came_over g.S.Store c.args.conn c.close.result (Finds g.S.Store c.args.number) c.outcome_of_find.result first
    (record { book = first.book; acked = first.acked; keeper = records; closed = first.closed }) records refl c.close.ensures c.in-Ok.ensures.opened
    (c.find-called.result, here, c.outcome_of_find.ensures)

pub returns-in-Err : goal.returns-in-Err
returns-in-Err g c = inl (c.in-Err.fault, refl, c.in-Err.ensures.fault)
