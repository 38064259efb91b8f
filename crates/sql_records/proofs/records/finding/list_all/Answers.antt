use Rattle.std.proofs.Common.{inl, inr, refl, ◌∙◌}
use Rattle.sqlite.specs.Held.{state}
use Rattle.sql_records.specs.Held.{rows_in, history_in}
use Rattle.sql_records.proofs.LookupLemmas.{all_listed, all_fault, of_query}
use Rattle.sql_records.proofs.UndoneLemmas.{left_or_undone, of_err, on_err, undisturbed}
use Rattle.sql_records.proofs.OpeningLemmas.{if_err, on_ok}
use Rattle.history_keeper.specs.Lookups.{listed_in}
use Rattle.sql_records.specs.Lookups.{IsListFault}
use Rattle.sql_records.proofs.records.finding.list_all.Goals as goal

pub returns-clause-listed : goal.returns-clause-listed
returns-clause-listed g c clean =
    let db = (state g.S.Store c.args.conn.now).now.trees in
    let rest = c.requires.rest (c.list_rows.ensures.reads.clean clean) in
    all_listed c.as_slice.result.now (rows_in db) (history_in db) c.args.event.now rest.1.whole refl
    (c.as_slice.ensures.value ∙ c.in_ok-rows.ensures.rows clean) c.all_of.result (λ all. all.items) c.all_of.ensures.ok

pub returns-clause-fault : goal.returns-clause-fault
returns-clause-fault g c clean =
    let old = state g.S.Store c.args.conn.now in
    let new = state g.S.Store c.list_rows.new.conn in
    let db = old.now.trees in
    let rest = c.requires.rest (c.list_rows.ensures.reads.clean clean) in
    all_fault c.as_slice.result.now (rows_in db) (history_in db) c.args.event.now rest.1.whole refl
    (c.as_slice.ensures.value ∙ c.in_ok-rows.ensures.rows clean) (IsListFault old new (listed_in (history_in db) c.args.event.now)) c.all_of.result
    (λ some. inr (c.in_ok-rows.ensures.reads.same clean, some)) c.all_of.ensures.damaged

pub returns-in_err-rows-clause-fault : goal.returns-in_err-rows-clause-fault
returns-in_err-rows-clause-fault g c clean =
    let old = state g.S.Store c.args.conn.now in
    let new = state g.S.Store c.list_rows.new.conn in
    if_err c.from_residual.result _ _ c.from_residual.ensures.1
    (λ f e. rw e (of_query old new (listed_in (history_in old.now.trees) c.args.event.now) c.in_err-rows.field-0.0 (c.in_err-rows.ensures.fault clean)))

pub returns-clause-still : goal.returns-clause-still
returns-clause-still g c clean = on_err c.all_of.result _ (λ on. let same = c.in_ok-rows.ensures.reads.same clean in (same.0.now_is, same.0.mode))

pub returns-in_err-rows-clause-still : goal.returns-in_err-rows-clause-still
returns-in_err-rows-clause-still g c clean =
    let rest = c.requires.rest (c.list_rows.ensures.reads.clean clean) in
    on_err c.from_residual.result _
    (undisturbed (state g.S.Store c.args.conn.now) (state g.S.Store c.list_rows.new.conn) rest.0 rest.1 (c.in_err-rows.ensures.reads.undone clean))

pub returns-clause-reads : goal.returns-clause-reads
returns-clause-reads g c =
    let reads = c.in_ok-rows.ensures.reads in
    record {
      limit = reads.limit;
      clean = reads.clean;
      left = reads.left;
      same = λ clean. on_ok c.all_of.result _ (reads.same clean);
      undone = λ clean. on_err c.all_of.result _
          (left_or_undone (state g.S.Store c.args.conn.now) (state g.S.Store c.list_rows.new.conn) (inl (reads.same clean)));
    }

pub returns-in_err-rows-clause-reads : goal.returns-in_err-rows-clause-reads
returns-in_err-rows-clause-reads g c =
    let reads = c.in_err-rows.ensures.reads in
    record {
      limit = reads.limit;
      clean = reads.clean;
      left = reads.left;
      same = λ clean. of_err c.from_residual.result _ _ c.from_residual.ensures.1;
      undone = λ clean. on_err c.from_residual.result _ (reads.undone clean);
    }
