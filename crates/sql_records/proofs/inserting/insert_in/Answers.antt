use Rattle.std.proofs.Common.{Ok, Err, refl, subst}
use Rattle.sqlite.specs.State.{ExecutesInside}
use Rattle.sqlite.specs.Held.{state}
use Rattle.sql_records.specs.Adding.{RunsInsert}
use Rattle.sql_records.specs.Texts.{insert_text}
use Rattle.sql_records.proofs.AddingLemmas.{by_err}
use Rattle.sql_records.proofs.AppendLemmas.{insert_inside}
use Rattle.sql_records.proofs.inserting.insert_in.Goals as goal

pub returns-clause-adds : goal.returns-clause-adds
returns-clause-adds g c clean begun added rest =
    insert_inside c.args.place c.args.entry.now c.columns-row.ensures.storable _ c.columns-row.ensures.columns (state g.S.Store c.args.tx.now.conn.now)
    (state g.S.Store c.execute.new.self.conn.now)
    c.in_ok-execute.field-0 (c.in_ok-execute.ensures.runs clean rest.inside) begun added rest

pub returns-clause-runs : goal.returns-clause-runs
returns-clause-runs g c clean inside =
    let old = state g.S.Store c.args.tx.now.conn.now in
    let new = state g.S.Store c.execute.new.self.conn.now in
    let count = c.in_ok-execute.field-0 in (
      c.execute.new.self.conn.now,
      count,
      subst (λ p. ExecutesInside 0 insert_text p old new (Ok count)) c.columns-row.ensures.columns
          (c.in_ok-execute.ensures.runs clean inside),
      refl,
    )

pub returns-in_err-execute-clause-runs : goal.returns-in_err-execute-clause-runs
returns-in_err-execute-clause-runs g c clean inside =
    let old = state g.S.Store c.args.tx.now.conn.now in
    let new = state g.S.Store c.execute.new.self.conn.now in
    by_err c.from_residual.result (RunsInsert g.S.Store c.args.place c.args.entry.now c.args.tx.now.conn.now c.execute.new.self.conn.now) _
    c.from_residual.ensures.1
    (λ f e. rw e (subst (λ p. ExecutesInside 0 insert_text p old new (Err c.in_err-execute.field-0.0)) c.columns-row.ensures.columns
    (c.in_err-execute.ensures.runs clean inside)))
