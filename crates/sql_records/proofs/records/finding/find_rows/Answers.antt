use Rattle.std.proofs.Common.{arith, subst}
use Rattle.sqlite.specs.Held.{state}
use Rattle.sqlite.specs.State.{Shown, FailsToQuery}
use Rattle.sql_records.specs.Texts.{find_text}
use Rattle.sql_records.proofs.FindLemmas.{find_shows, find_same, find_left, find_fails, find_undone, find_wants}
use Rattle.sql_records.proofs.FaultLemmas.{told_fault}
use Rattle.sql_records.proofs.OpeningLemmas.{if_err}
use Rattle.sql_records.proofs.UndoneLemmas.{of_err, on_err}
use Rattle.sql_records.specs.Lookups.{IsQueryFault}
use Rattle.sql_records.specs.declared.lookup.FindFault.TheVariants.{Memory, Disk}
use Rattle.sql_records.proofs.records.finding.find_rows.Goals as goal

pub returns-clause-rows : goal.returns-clause-rows
returns-clause-rows g c clean =
    let old = state g.S.Store c.args.conn.now in
    let new = state g.S.Store c.query_all.new.self in
    let rest = c.requires.rest (omega (arith, c.query_all.ensures.survives.clean)) in
    find_shows old new c.args.number c.in_ok-query_all.field-0.items rest.1.schema rest.1.whole
    (subst (λ p. Shown find_text p old new c.in_ok-query_all.field-0.items) c.number_param-params.ensures (c.in_ok-query_all.ensures.ok clean))

pub returns-in_err-query_all-clause-fault : goal.returns-in_err-query_all-clause-fault
returns-in_err-query_all-clause-fault g c clean =
    let old = state g.S.Store c.args.conn.now in
    let new = state g.S.Store c.query_all.new.self in
    let rest = c.requires.rest (omega (arith, c.query_all.ensures.survives.clean)) in
    let fails = subst (λ p. FailsToQuery find_text p old new c.in_err-query_all.field-0.0) c.number_param-params.ensures
    (c.in_err-query_all.ensures.err clean) in
    if_err c.from_residual.result _ _ c.from_residual.ensures.1
    (λ f e. rw e (told_fault (IsQueryFault old new) Memory Disk old new c.in_err-query_all.field-0.0
    (find_wants old new c.args.number c.in_err-query_all.field-0.0 rest.1.schema fails) (λ h. h)
    (find_fails old new c.args.number c.in_err-query_all.field-0.0 rest.1.schema fails)))

pub returns-clause-reads : goal.returns-clause-reads
returns-clause-reads g c =
    let old = state g.S.Store c.args.conn.now in
    let new = state g.S.Store c.query_all.new.self in
    let survives = c.query_all.ensures.survives in
    record {
      limit = survives.limit;
      clean = λ clean. omega (arith, survives.clean);
      left = λ clean. let rest = c.requires.rest (omega (arith, survives.clean)) in find_left old new _ rest.1.schema survives clean;
      same = λ clean.
          let rest = c.requires.rest (omega (arith, survives.clean)) in
          find_same old new c.args.number c.in_ok-query_all.field-0.items rest.1.schema
          (subst (λ p. Shown find_text p old new c.in_ok-query_all.field-0.items) c.number_param-params.ensures (c.in_ok-query_all.ensures.ok clean));
      undone = λ clean. tt;
    }

pub returns-in_err-query_all-clause-reads : goal.returns-in_err-query_all-clause-reads
returns-in_err-query_all-clause-reads g c =
    let old = state g.S.Store c.args.conn.now in
    let new = state g.S.Store c.query_all.new.self in
    let survives = c.query_all.ensures.survives in
    record {
      limit = survives.limit;
      clean = λ clean. omega (arith, survives.clean);
      left = λ clean. let rest = c.requires.rest (omega (arith, survives.clean)) in find_left old new _ rest.1.schema survives clean;
      same = λ clean. of_err c.from_residual.result _ _ c.from_residual.ensures.1;
      undone = λ clean.
          let rest = c.requires.rest (omega (arith, survives.clean)) in
          let fails = subst (λ p. FailsToQuery find_text p old new c.in_err-query_all.field-0.0) c.number_param-params.ensures
          (c.in_err-query_all.ensures.err clean) in
          on_err c.from_residual.result _ (find_undone old new c.args.number c.in_err-query_all.field-0.0 rest.1.schema fails);
    }
