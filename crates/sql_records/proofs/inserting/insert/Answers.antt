use Rattle.std.proofs.Common.{rules, Ok, OnOk, [], ◌∷◌}
use Rattle.sqlite.specs.State.{HasCleanDisk}
use Rattle.sqlite.specs.Held.{state}
use Rattle.sql_records.specs.Held.{HasMore}
use Rattle.sql_records.proofs.AppendLemmas.{insert_stores, insert_more}
use Rattle.sql_records.proofs.inserting.insert.Goals as goal

pub returns-clause-stores : goal.returns-clause-stores
returns-clause-stores g c =
    let conn = c.args.conn.now in
    let more = insert_more c.args.place c.args.entry.now c.columns-row.ensures.storable _ c.columns-row.ensures.columns (state g.S.Store conn)
    (state g.S.Store c.execute.new.self) c.requires.rest _ c.execute.ensures.survives (λ db h. h)
    c.in_ok-execute.field-0 c.in_ok-execute.ensures.runs in
    insert_stores c.args.place c.args.entry.now c.columns-row.ensures.storable _ c.columns-row.ensures.columns (state g.S.Store conn)
    (state g.S.Store c.execute.new.self) c.requires.rest _ c.execute.ensures.survives (λ db h. h)
    (λ db is_open left. g.met.S.Store.settled conn.store db is_open left) (λ is_open. g.met.S.Store.stays conn.store is_open) (Ok tt) more

pub returns-in_err-execute-clause-stores : goal.returns-in_err-execute-clause-stores
returns-in_err-execute-clause-stores g c =
    let conn = c.args.conn.now in
    let none : HasCleanDisk (state g.S.Store c.execute.new.self)
    → OnOk c.from_residual.result (HasMore (state g.S.Store conn) (state g.S.Store c.execute.new.self) c.args.place (c.args.entry.now ∷ [])) = search
    rules in
    insert_stores c.args.place c.args.entry.now c.columns-row.ensures.storable _ c.columns-row.ensures.columns (state g.S.Store conn)
    (state g.S.Store c.execute.new.self) c.requires.rest _ c.execute.ensures.survives (λ db h. h)
    (λ db is_open left. g.met.S.Store.settled conn.store db is_open left) (λ is_open. g.met.S.Store.stays conn.store is_open) c.from_residual.result none
