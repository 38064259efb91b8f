use Rattle.std.proofs.Common.{sym, subst}
use Rattle.sqlite.specs.Effect.{Database}
use Rattle.sqlite.specs.Held.{state}
use Rattle.sql_records.specs.Layout.{IsOurs}
use Rattle.sql_records.proofs.OpeningLemmas.{if_err}
use Rattle.sql_records.proofs.ReadsLemmas.{reads_err, reads_ok, reads_on}
use Rattle.sql_records.proofs.TurnLemmas.{err_as, history_before, ok_as, read_before}
use Rattle.sql_records.proofs.opening.read_history.Goals as goal

pub read_at_once-requires : goal.read_at_once-requires
read_at_once-requires g c clean =
    let reads = c.in_ok-turned.ensures.reads in
    subst (λ (d : Database). IsOurs d.schema) (sym (reads.same clean).0.now_is) (c.requires (reads.clean clean))

pub returns-in_err-turned-clause-fault : goal.returns-in_err-turned-clause-fault
returns-in_err-turned-clause-fault g c clean = if_err c.from_residual.result _ _ c.from_residual.ensures.1 (λ f e. rw e (c.in_err-turned.ensures.fault clean))

pub returns-in_err-turned-clause-reads : goal.returns-in_err-turned-clause-reads
returns-in_err-turned-clause-reads g c =
    reads_err g.S.Store c.args.conn.now c.read_in_turn.new.conn _ c.from_residual.result _ c.in_err-turned.ensures.reads c.from_residual.ensures.1

pub returns-in-Some-clause-reads : goal.returns-in-Some-clause-reads
returns-in-Some-clause-reads g c = reads_ok g.S.Store c.args.conn.now c.read_in_turn.new.conn _ _ c.in_ok-turned.ensures.reads

pub returns-in-None-clause-entries : goal.returns-in-None-clause-entries
returns-in-None-clause-entries g c clean =
    let first = state g.S.Store c.args.conn.now in
    let mid = state g.S.Store c.read_in_turn.new.conn in
    let same = c.in_ok-turned.ensures.reads.same (c.read_at_once.ensures.reads.clean clean) in
    ok_as c.read_at_once.result _ _ (c.read_at_once.ensures.entries clean) (λ entries h. read_before c.args.read first mid entries.items same h)

pub returns-in-None-clause-fault : goal.returns-in-None-clause-fault
returns-in-None-clause-fault g c clean =
    let first = state g.S.Store c.args.conn.now in
    let mid = state g.S.Store c.read_in_turn.new.conn in
    let last = state g.S.Store c.read_at_once.new.conn in
    let same = c.in_ok-turned.ensures.reads.same (c.read_at_once.ensures.reads.clean clean) in
    err_as c.read_at_once.result _ _ (c.read_at_once.ensures.fault clean)
    (λ fault h. history_before c.args.read first mid last same c.read_in_turn.ensures.counts c.read_in_turn.ensures.reads.limit fault h)

pub returns-in-None-clause-reads : goal.returns-in-None-clause-reads
returns-in-None-clause-reads g c =
    reads_on g.S.Store c.args.conn.now c.read_in_turn.new.conn c.read_at_once.new.conn _ c.read_at_once.result c.in_ok-turned.ensures.reads
    c.read_at_once.ensures.reads
