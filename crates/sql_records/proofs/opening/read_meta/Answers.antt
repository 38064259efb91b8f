use Rattle.std.proofs.Common.{arith, inl}
use Rattle.sqlite.specs.Held.{state}
use Rattle.sql_records.proofs.QueryLemmas.{shown_meta, meta_same, meta_left, meta_select_fails, meta_select_undone, meta_select_wants}
use Rattle.sql_records.proofs.FaultLemmas.{told_fault}
use Rattle.sql_records.specs.Opening.{IsMetaFault}
use Rattle.sql_records.specs.declared.fault.OpenFault.TheVariants.{Memory, Disk}
use Rattle.sql_records.proofs.MetaLemmas.{alone, no_row, meta_found, numbers_are, meta_fault}
use Rattle.sql_records.proofs.OpeningLemmas.{if_err, on_ok}
use Rattle.sql_records.proofs.UndoneLemmas.{left_or_undone, of_err, on_err}
use Rattle.sql_records.proofs.opening.read_meta.Goals as goal

pub returns-in-Some-clause-meta : goal.returns-in-Some-clause-meta
returns-in-Some-clause-meta g c clean =
    let old = state g.S.Store c.args.conn.now in
    let new = state g.S.Store c.query_all.new.self in
    let schema = c.requires (omega (arith, c.query_all.ensures.survives.clean)) in
    let one = alone old.now.trees _ c.in-Some.row (shown_meta old new _ schema (c.in_ok-rows.ensures.ok clean)) c.in-Some.ensures.one in
    meta_found c.args.read old.now.trees c.in-Some.row c.read_numbers.result one c.read_numbers.ensures.numbers

pub returns-in-Some-clause-numbers : goal.returns-in-Some-clause-numbers
returns-in-Some-clause-numbers g c = numbers_are c.args.read c.in-Some.row c.read_numbers.result c.read_numbers.ensures.numbers

pub returns-in-Some-clause-fault : goal.returns-in-Some-clause-fault
returns-in-Some-clause-fault g c clean =
    let old = state g.S.Store c.args.conn.now in
    let new = state g.S.Store c.query_all.new.self in
    let schema = c.requires (omega (arith, c.query_all.ensures.survives.clean)) in
    let one = alone old.now.trees _ c.in-Some.row (shown_meta old new _ schema (c.in_ok-rows.ensures.ok clean)) c.in-Some.ensures.one in
    meta_fault c.args.read old new c.in-Some.row c.read_numbers.result one c.read_numbers.ensures.fault

pub returns-in-None-clause-fault : goal.returns-in-None-clause-fault
returns-in-None-clause-fault g c clean =
    let old = state g.S.Store c.args.conn.now in
    let new = state g.S.Store c.query_all.new.self in
    let schema = c.requires (omega (arith, c.query_all.ensures.survives.clean)) in
    no_row c.args.read old.now.trees _ (shown_meta old new _ schema (c.in_ok-rows.ensures.ok clean)) c.in-None.ensures.none

pub returns-in_err-rows-clause-fault : goal.returns-in_err-rows-clause-fault
returns-in_err-rows-clause-fault g c clean =
    let old = state g.S.Store c.args.conn.now in
    let new = state g.S.Store c.query_all.new.self in
    let schema = c.requires (omega (arith, c.query_all.ensures.survives.clean)) in
    if_err c.from_residual.result _ _ c.from_residual.ensures.1
    (λ f e. rw e (told_fault (IsMetaFault c.args.read old new) Memory Disk old new c.in_err-rows.field-0.0
    (meta_select_wants old new c.in_err-rows.field-0.0 schema (c.in_err-rows.ensures.err clean)) (λ h. h)
    (meta_select_fails old new c.in_err-rows.field-0.0 schema (c.in_err-rows.ensures.err clean))))

pub returns-in-Some-clause-reads : goal.returns-in-Some-clause-reads
returns-in-Some-clause-reads g c =
    let old = state g.S.Store c.args.conn.now in
    let new = state g.S.Store c.query_all.new.self in
    let survives = c.query_all.ensures.survives in
    record {
      limit = survives.limit;
      clean = λ clean. omega (arith, survives.clean);
      left = λ clean. meta_left old new (c.requires (omega (arith, survives.clean))) survives clean;
      same = λ clean. on_ok c.read_numbers.result _ (meta_same old new _ (c.requires (omega (arith, survives.clean))) (c.in_ok-rows.ensures.ok clean));
      undone = λ clean. on_err c.read_numbers.result _
          (left_or_undone old new (inl (meta_same old new _ (c.requires (omega (arith, survives.clean))) (c.in_ok-rows.ensures.ok clean))));
    }

pub returns-in-None-clause-reads : goal.returns-in-None-clause-reads
returns-in-None-clause-reads g c =
    let old = state g.S.Store c.args.conn.now in
    let new = state g.S.Store c.query_all.new.self in
    let survives = c.query_all.ensures.survives in
    record {
      limit = survives.limit;
      clean = λ clean. omega (arith, survives.clean);
      left = λ clean. meta_left old new (c.requires (omega (arith, survives.clean))) survives clean;
      same = λ clean. tt;
      undone = λ clean. left_or_undone old new (inl (meta_same old new _ (c.requires (omega (arith, survives.clean))) (c.in_ok-rows.ensures.ok clean)));
    }

pub returns-in_err-rows-clause-reads : goal.returns-in_err-rows-clause-reads
returns-in_err-rows-clause-reads g c =
    let old = state g.S.Store c.args.conn.now in
    let new = state g.S.Store c.query_all.new.self in
    let survives = c.query_all.ensures.survives in
    record {
      limit = survives.limit;
      clean = λ clean. omega (arith, survives.clean);
      left = λ clean. meta_left old new (c.requires (omega (arith, survives.clean))) survives clean;
      same = λ clean. of_err c.from_residual.result _ _ c.from_residual.ensures.1;
      undone = λ clean. on_err c.from_residual.result _
          (meta_select_undone old new c.in_err-rows.field-0.0 (c.requires (omega (arith, survives.clean))) (c.in_err-rows.ensures.err clean));
    }
