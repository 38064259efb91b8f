use Rattle.std.proofs.Common.{inr, subst}
use Rattle.sqlite.specs.Held.{state}
use Rattle.sql_records.specs.Layout.{IsOurs}
use Rattle.sql_records.proofs.OpeningLemmas.{if_err, numbers_fault}
use Rattle.sql_records.proofs.ReadsLemmas.{reads_err, reads_ok, reads_on}
use Rattle.sql_records.proofs.TurnLemmas.{history_fault, read_before}
use Rattle.sql_records.proofs.opening.read_as.Goals as goal

pub returns-clause-read : goal.returns-clause-read
returns-clause-read g c clean =
    let first = state g.S.Store c.args.conn.now in
    let mid = state g.S.Store c.read_meta.new.conn in
    let before = c.read_history.ensures.reads.clean clean in
    let same = c.in_ok-meta.ensures.reads.same before in
    record { entries_are = read_before c.args.read first mid _ same (c.in_ok-entries.ensures.entries clean); meta_is = c.in_ok-meta.ensures.meta before }

pub returns-in_err-meta-clause-fault : goal.returns-in_err-meta-clause-fault
returns-in_err-meta-clause-fault g c clean =
    let first = state g.S.Store c.args.conn.now in
    let last = state g.S.Store c.read_meta.new.conn in
    let ours = c.is_ours.ensures.0 c.if-not-is_ours.false in
    if_err c.from_residual.result _ _ c.from_residual.ensures.1
    (λ f e. rw e (inr (subst IsOurs c.schema.ensures.value ours, numbers_fault c.args.read first last _ (c.in_err-meta.ensures.fault clean))))

pub returns-in_err-entries-clause-fault : goal.returns-in_err-entries-clause-fault
returns-in_err-entries-clause-fault g c clean =
    let first = state g.S.Store c.args.conn.now in
    let mid = state g.S.Store c.read_meta.new.conn in
    let last = state g.S.Store c.read_history.new.conn in
    let ours = c.is_ours.ensures.0 c.if-not-is_ours.false in
    let before = c.read_history.ensures.reads.clean clean in
    let same = c.in_ok-meta.ensures.reads.same before in
    if_err c.from_residual-in_err-entries.result _ _ c.from_residual-in_err-entries.ensures.1 (λ f e. rw e (inr (
      subst IsOurs c.schema.ensures.value ours,
      history_fault c.args.read first mid last same c.read_meta.ensures.counts c.read_meta.ensures.reads.limit
          (c.in_ok-meta.meta, c.in_ok-meta.ensures.numbers, c.in_ok-meta.ensures.meta before) _ (c.in_err-entries.ensures.fault clean),
    )))

pub returns-in_err-meta-clause-foreign : goal.returns-in_err-meta-clause-foreign
returns-in_err-meta-clause-foreign g c foreign outside clean =
    absurd (foreign (subst IsOurs c.schema.ensures.value (c.is_ours.ensures.0 c.if-not-is_ours.false)))

pub returns-in_err-entries-clause-foreign : goal.returns-in_err-entries-clause-foreign
returns-in_err-entries-clause-foreign g c foreign outside clean =
    absurd (foreign (subst IsOurs c.schema.ensures.value (c.is_ours.ensures.0 c.if-not-is_ours.false)))

pub returns-in_err-meta-clause-reads : goal.returns-in_err-meta-clause-reads
returns-in_err-meta-clause-reads g c =
    reads_err g.S.Store c.args.conn.now c.read_meta.new.conn _ c.from_residual.result _ c.in_err-meta.ensures.reads c.from_residual.ensures.1

pub returns-in_err-entries-clause-reads : goal.returns-in_err-entries-clause-reads
returns-in_err-entries-clause-reads g c =
    reads_on g.S.Store c.args.conn.now c.read_meta.new.conn c.read_history.new.conn _ c.from_residual-in_err-entries.result c.in_ok-meta.ensures.reads
    (reads_err g.S.Store c.read_meta.new.conn c.read_history.new.conn _ c.from_residual-in_err-entries.result _ c.in_err-entries.ensures.reads
    c.from_residual-in_err-entries.ensures.1)

pub returns-clause-reads : goal.returns-clause-reads
returns-clause-reads g c =
    reads_on g.S.Store c.args.conn.now c.read_meta.new.conn c.read_history.new.conn _ _ c.in_ok-meta.ensures.reads
    (reads_ok g.S.Store c.read_meta.new.conn c.read_history.new.conn _ _ c.in_ok-entries.ensures.reads)
