use Rattle.std.proofs.Common.{◌≡◌, ◌+◌, ◌∙◌, [], ◌∷◌, take, arith, subst, sym}
use Rattle.sqlite.specs.Held.{state}
use Rattle.sqlite.proofs.StateLemmas.{survives_then}
use Rattle.sql_records.specs.Adding.{PutsAll, FailsToPut, inserting}
use Rattle.sql_records.specs.Held.{IsAdding}
use Rattle.sql_records.specs.Making.{RunInTurn}
use Rattle.sql_records.proofs.AddingLemmas.{by_err, entry_at, inserting_more, run_behind, run_inside}
use Rattle.sql_records.proofs.MakeLemmas.{was_clean}
use Rattle.sql_records.proofs.AppendAllLemmas.{more_behind}
use Rattle.sql_records.proofs.records.store_each.Goals as goal

pub loop-entry-preserved : goal.loop-entry-preserved
loop-entry-preserved g c =
    let old = state g.S.Store c.args.tx.now.conn.now in
    let mid = state g.S.Store c.loop-entry.tx.conn.now in
    let new = state g.S.Store c.store_in.new.tx.conn.now in
    let before = c.loop-entry.invariant in
    let k = c.loop-entry.entry-index in
    record {
      same = c.store_in.ensures.same_reference ∙ before.same;
      next = omega (arith, before.next);
      low = omega (arith, c.in_ok-store_in.ensures.low);
      survives = survives_then old mid new _ _ _ (λ _ db none. absurd none) (λ _ db none. absurd none) before.survives c.store_in.ensures.survives;
      runs = λ clean inside.
          let was = was_clean mid new _ c.store_in.ensures.survives clean in
          let ran = before.runs was inside in
          let at : c.loop-entry.next ≡ c.args.place + k = before.next in
          rw (inserting_more c.args.place c.args.entries.now k c.entry-item.result c.loop-entry-test.true c.entry-item.is)
          (run_behind g.S.Store (inserting c.args.place (take k c.args.entries.now)) _ c.args.tx.now.conn.now c.loop-entry.tx.conn.now
          c.store_in.new.tx.conn.now ran
          (subst (λ n. RunInTurn g.S.Store (inserting n (c.entry-item.result ∷ [])) c.loop-entry.tx.conn.now c.store_in.new.tx.conn.now) at
          (c.in_ok-store_in.ensures.runs clean
          (run_inside g.S.Store (inserting c.args.place (take k c.args.entries.now)) c.args.tx.now.conn.now c.loop-entry.tx.conn.now ran inside))));
      adds = λ clean begun added rest.
          subst (IsAdding begun new (c.loop-entry.next + 1))
          (sym (more_behind added c.args.entries.now c.loop-entry.entry-index c.entry-item.result c.loop-entry-test.true c.entry-item.is))
          (c.in_ok-store_in.ensures.adds clean begun _ (before.adds (was_clean mid new _ c.store_in.ensures.survives clean) begun added rest));
    }

pub returns-in_err-store_in-clause-runs : goal.returns-in_err-store_in-clause-runs
returns-in_err-store_in-clause-runs g c clean inside =
    let mid = c.loop-entry.tx.conn.now in
    let new = c.store_in.new.tx.conn.now in
    let before = c.loop-entry.invariant in
    let k = c.loop-entry.entry-index in
    let ran = before.runs (was_clean (state g.S.Store mid) (state g.S.Store new) _ c.store_in.ensures.survives clean) inside in
    let fails = c.in_err-store_in.ensures.runs clean
    (run_inside g.S.Store (inserting c.args.place (take k c.args.entries.now)) c.args.tx.now.conn.now mid ran inside) in
    by_err c.from_residual.result (PutsAll g.S.Store c.args.place c.args.entries.now c.args.tx.now.conn.now new) _ c.from_residual.ensures.1
    (λ f e. rw e (record {
      done = k;
      entry = c.entry-item.result;
      is = entry_at c.args.entries.now k c.entry-item.result c.loop-entry-test.true c.entry-item.is;
      mid = mid;
      runs = ran;
      fails = subst (λ n. FailsToPut g.S.Store n c.entry-item.result mid new c.in_err-store_in.field-0.0) before.next fails;
    }))
