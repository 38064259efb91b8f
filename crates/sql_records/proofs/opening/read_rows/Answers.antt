use Rattle.std.proofs.Common.{arith}
use Rattle.sqlite.specs.Held.{state}
use Rattle.sql_records.proofs.QueryLemmas.{shown_rows, shown_same, entries_left, select_fails, select_undone, select_wants}
use Rattle.sql_records.proofs.FaultLemmas.{told_fault}
use Rattle.sql_records.proofs.OpeningLemmas.{if_err}
use Rattle.sql_records.specs.Opening.{IsStoreFault}
use Rattle.sql_records.specs.declared.fault.OpenFault.TheVariants.{Memory, Disk}
use Rattle.sql_records.proofs.UndoneLemmas.{of_err, on_err}
use Rattle.sql_records.proofs.opening.read_rows.Goals as goal

pub returns-clause-shown : goal.returns-clause-shown
returns-clause-shown g c clean =
    shown_rows (state g.S.Store c.args.conn.now) (state g.S.Store c.query_all.new.self) _ (c.requires (omega (arith, c.query_all.ensures.survives.clean)))
    (c.in_ok-query_all.ensures.ok clean)

pub returns-in_err-query_all-clause-fault : goal.returns-in_err-query_all-clause-fault
returns-in_err-query_all-clause-fault g c clean =
    let old = state g.S.Store c.args.conn.now in
    let new = state g.S.Store c.query_all.new.self in
    let schema = c.requires (omega (arith, c.query_all.ensures.survives.clean)) in
    if_err c.from_residual.result _ _ c.from_residual.ensures.1
    (λ f e. rw e (told_fault (IsStoreFault old new) Memory Disk old new c.in_err-query_all.field-0.0
    (select_wants old new c.in_err-query_all.field-0.0 schema (c.in_err-query_all.ensures.err clean)) (λ h. h)
    (select_fails old new c.in_err-query_all.field-0.0 schema (c.in_err-query_all.ensures.err clean))))

pub returns-clause-reads : goal.returns-clause-reads
returns-clause-reads g c =
    let old = state g.S.Store c.args.conn.now in
    let new = state g.S.Store c.query_all.new.self in
    let survives = c.query_all.ensures.survives in
    record {
      limit = survives.limit;
      clean = λ clean. omega (arith, survives.clean);
      left = λ clean. entries_left old new (c.requires (omega (arith, survives.clean))) survives clean;
      same = λ clean. shown_same old new _ (c.requires (omega (arith, survives.clean))) (c.in_ok-query_all.ensures.ok clean);
      undone = λ clean. tt;
    }

pub returns-in_err-query_all-clause-reads : goal.returns-in_err-query_all-clause-reads
returns-in_err-query_all-clause-reads g c =
    let old = state g.S.Store c.args.conn.now in
    let new = state g.S.Store c.query_all.new.self in
    let survives = c.query_all.ensures.survives in
    record {
      limit = survives.limit;
      clean = λ clean. omega (arith, survives.clean);
      left = λ clean. entries_left old new (c.requires (omega (arith, survives.clean))) survives clean;
      same = λ clean. of_err c.from_residual.result _ _ c.from_residual.ensures.1;
      undone = λ clean. on_err c.from_residual.result _
          (select_undone old new c.in_err-query_all.field-0.0 (c.requires (omega (arith, survives.clean))) (c.in_err-query_all.ensures.err clean));
    }
