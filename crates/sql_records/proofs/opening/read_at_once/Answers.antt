use Rattle.std.proofs.Common.{inl, inr, subst}
use Rattle.sqlite.specs.Held.{state}
use Rattle.sql_records.specs.Rows.{AreWholeIn}
use Rattle.sql_records.proofs.OpeningLemmas.{if_err}
use Rattle.sql_records.proofs.ReadsLemmas.{reads_err, reads_ok}
use Rattle.sql_records.proofs.TurnLemmas.{at_once, err_as, if_both}
use Rattle.sql_records.proofs.opening.read_at_once.Goals as goal

pub returns-clause-entries : goal.returns-clause-entries
returns-clause-entries g c clean =
    let old = state g.S.Store c.args.conn.now in
    let new = state g.S.Store c.read_rows.new.conn in
    let rows = c.in_ok-rows.ensures in
    let is = c.as_slice.ensures.value in
    if_both c.read_all.result _ _ _ c.read_all.ensures.whole c.read_all.ensures.entries
    (λ entries whole items. at_once c.args.read old new _ entries.items (rows.reads.same clean) (rows.shown clean) (subst (AreWholeIn c.args.read 0)
    is whole) (rw is at items))

pub returns-clause-fault : goal.returns-clause-fault
returns-clause-fault g c clean =
    let rows = c.in_ok-rows.ensures in
    err_as c.read_all.result _ _ c.read_all.ensures.fault (λ fault h. inr (rows.reads.same clean, (_, rows.shown clean, rw c.as_slice.ensures.value at h)))

pub returns-in_err-rows-clause-fault : goal.returns-in_err-rows-clause-fault
returns-in_err-rows-clause-fault g c clean =
    if_err c.from_residual.result _ _ c.from_residual.ensures.1 (λ f e. rw e (inl (c.in_err-rows.ensures.fault clean)))

pub returns-in_err-rows-clause-reads : goal.returns-in_err-rows-clause-reads
returns-in_err-rows-clause-reads g c =
    reads_err g.S.Store c.args.conn.now c.read_rows.new.conn _ c.from_residual.result _ c.in_err-rows.ensures.reads c.from_residual.ensures.1

pub returns-clause-reads : goal.returns-clause-reads
returns-clause-reads g c = reads_ok g.S.Store c.args.conn.now c.read_rows.new.conn _ _ c.in_ok-rows.ensures.reads
