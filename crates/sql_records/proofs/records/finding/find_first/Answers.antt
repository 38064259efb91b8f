use Rattle.std.proofs.Common.{inl, refl, ◌∙◌}
use Rattle.sqlite.specs.Held.{state}
use Rattle.sql_records.specs.Held.{rows_in, history_in}
use Rattle.sql_records.proofs.OpeningLemmas.{on_ok}
use Rattle.sql_records.proofs.LookupLemmas.{first_kept, first_fault}
use Rattle.sql_records.proofs.UndoneLemmas.{left_or_undone, of_err, on_err, undisturbed}
use Rattle.sql_records.proofs.records.finding.find_first.Goals as goal

pub returns-clause-found : goal.returns-clause-found
returns-clause-found g c clean =
    let db = (state g.S.Store c.args.conn.now).now.trees in
    let rest = c.requires.rest (c.find_rows.ensures.reads.clean clean) in
    first_kept c.as_slice.result.now (rows_in db) (history_in db) c.args.number rest.1.whole refl
    (c.as_slice.ensures.value ∙ c.in_ok-rows.ensures.rows clean) c.first_of.result c.first_of.ensures.ok

pub returns-clause-fault : goal.returns-clause-fault
returns-clause-fault g c clean =
    let db = (state g.S.Store c.args.conn.now).now.trees in
    let rest = c.requires.rest (c.find_rows.ensures.reads.clean clean) in
    first_fault c.as_slice.result.now (rows_in db) (history_in db) c.args.number rest.1.whole refl
    (c.as_slice.ensures.value ∙ c.in_ok-rows.ensures.rows clean) _ c.first_of.result c.first_of.ensures.err

pub returns-clause-still : goal.returns-clause-still
returns-clause-still g c clean = on_err c.first_of.result _ (λ on. let same = c.in_ok-rows.ensures.reads.same clean in (same.0.now_is, same.0.mode))

pub returns-in_err-rows-clause-still : goal.returns-in_err-rows-clause-still
returns-in_err-rows-clause-still g c clean =
    let rest = c.requires.rest (c.find_rows.ensures.reads.clean clean) in
    on_err c.from_residual.result _
    (undisturbed (state g.S.Store c.args.conn.now) (state g.S.Store c.find_rows.new.conn) rest.0 rest.1 (c.in_err-rows.ensures.reads.undone clean))

pub returns-clause-reads : goal.returns-clause-reads
returns-clause-reads g c =
    let reads = c.in_ok-rows.ensures.reads in
    record {
      limit = reads.limit;
      clean = reads.clean;
      left = reads.left;
      same = λ clean. on_ok c.first_of.result _ (reads.same clean);
      undone = λ clean. on_err c.first_of.result _
          (left_or_undone (state g.S.Store c.args.conn.now) (state g.S.Store c.find_rows.new.conn) (inl (reads.same clean)));
    }

pub returns-in_err-rows-clause-reads : goal.returns-in_err-rows-clause-reads
returns-in_err-rows-clause-reads g c =
    let reads = c.in_err-rows.ensures.reads in
    record {
      limit = reads.limit;
      clean = reads.clean;
      left = reads.left;
      same = λ clean. of_err c.from_residual.result _ _ c.from_residual.ensures.1;
      undone = λ clean. on_err c.from_residual.result _ (reads.undone clean);
    }
