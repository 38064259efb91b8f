use Rattle.std.proofs.Common.{◌∙◌, ℕ, List, inl, inr, refl, subst, sym}
use Rattle.std.proofs.lemmas.Bool.{false≢true}
use Rattle.rights_lattice.specs.EventName.{IsEventName}
use Rattle.sql_records.specs.Held.{RecordsView}
use Rattle.operator_cli.specs.declared.outcome.Outcome.TheVariants.{Tells}
use Rattle.operator_cli.specs.declared.told.CommandReply.TheVariants.{NotFound}
use Rattle.sql_records.specs.Opened.{ListCall}
use Rattle.operator_cli.specs.Commands.{ListsOf}
use Rattle.operator_cli.proofs.CommandLaws.{came_over}
use Rattle.operator_cli.proofs.list.list.Goals as goal

pub returns-in-Some : goal.returns-in-Some
returns-in-Some g c =
    let first = c.in-Ok.book in
    let records = c.list-called.new.self in
    let result = c.list-called.result in
    let here = subst (λ (k : RecordsView g.row.S.Denot). ListCall g.S.Store k records c.in-Some.event result) c.into_keeper-records.ensures
    c.list-called.ensures in
    let named = subst (λ (name : List ℕ). ListCall g.S.Store first.keeper records name result) (c.in-Some.ensures.same ∙ c.as_bytes.ensures.value) here in
    came_over g.S.Store c.args.conn c.close-in-Ok.result (ListsOf g.S.Store c.args.event.now) c.outcome_of_list.result first
    (record { book = first.book; acked = first.acked; keeper = records; closed = first.closed }) records refl c.close-in-Ok.ensures c.in-Ok.ensures.opened
    (inr (result, named, c.outcome_of_list.ensures))

pub returns-in_default : goal.returns-in_default
returns-in_default g c =
    let first = c.in-Ok.book in
    let records = c.into_keeper-records.result in
    came_over g.S.Store c.args.conn c.close.result (ListsOf g.S.Store c.args.event.now) (Tells NotFound) first
    (record { book = first.book; acked = first.acked; keeper = records; closed = first.closed }) records refl c.close.ensures c.in-Ok.ensures.opened
    (inl (
      (λ named. absurd (false≢true (c.in_default.ensures.names.1 (subst IsEventName (sym c.as_bytes.ensures.value) named)))),
      c.into_keeper-records.ensures,
      refl,
    ))

pub returns-in-Err : goal.returns-in-Err
returns-in-Err g c = inl (c.in-Err.fault, refl, c.in-Err.ensures.fault)
