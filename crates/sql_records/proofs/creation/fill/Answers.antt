use Rattle.std.proofs.Common.{inl, inr, Ok, Err, refl, subst, arith, ◌∙◌}
use Rattle.sqlite.specs.State.{Executes, ExecutesInside}
use Rattle.sqlite.specs.Held.{state}
use Rattle.sql_records.specs.Texts.{meta_insert_text}
use Rattle.sql_records.proofs.InitLemmas.{creates_meta, creates_entries, adds_meta}
use Rattle.sql_records.proofs.OpeningLemmas.{if_err}
use Rattle.sqlite_catalog.specs.Listing.{IsSound}
use Rattle.sql_records.proofs.creation.fill.Goals as goal

pub returns-clause-made : goal.returns-clause-made
returns-clause-made g c clean =
    let old = state g.S.Store c.args.tx.now.conn.now in
    let first = state g.S.Store c.execute.new.self.conn.now in
    let second = state g.S.Store c.execute-2.new.self.conn.now in
    let last = state g.S.Store c.execute-3.new.self.conn.now in
    let one = c.in_ok-execute.ensures.runs (omega (arith, c.execute-2.ensures.survives.clean, c.execute-3.ensures.survives.clean)) c.requires.inside in
    let two = c.in_ok-execute-2.ensures.runs (omega (arith, c.execute-3.ensures.survives.clean)) one.1.mode in
    let three = c.in_ok-execute-3.ensures.runs clean two.1.mode in
    let given = subst (λ p. Executes meta_insert_text p second last (Ok c.in_ok-execute-3.field-0)) c.meta_columns-row.ensures three.0 in
    let meta = creates_meta old first c.in_ok-execute.field-0 c.requires.empty one.0 in
    let entries = creates_entries first second c.in_ok-execute-2.field-0 meta.0 two.0 in
    let row = adds_meta c.args.meta second last c.in_ok-execute-3.field-0 entries.0 (entries.2 ∙ meta.1) given in
    record { schema = row.0; trees = record { sound = subst (λ s. IsSound s last.now.trees) row.0 row.3; meta_is = row.1; entries = row.2 ∙ entries.1 } }

pub returns-clause-runs : goal.returns-clause-runs
returns-clause-runs g c clean =
    let first = c.execute.new.self.conn.now in
    let second = c.execute-2.new.self.conn.now in
    let last = c.execute-3.new.self.conn.now in
    let one = c.in_ok-execute.ensures.runs (omega (arith, c.execute-2.ensures.survives.clean, c.execute-3.ensures.survives.clean)) c.requires.inside in
    let two = c.in_ok-execute-2.ensures.runs (omega (arith, c.execute-3.ensures.survives.clean)) one.1.mode in
    let three = c.in_ok-execute-3.ensures.runs clean two.1.mode in
    let given = subst (λ p. ExecutesInside 0 meta_insert_text p (state g.S.Store second) (state g.S.Store last) (Ok c.in_ok-execute-3.field-0))
    c.meta_columns-row.ensures three in
    (first, c.in_ok-execute.field-0, one, (second, c.in_ok-execute-2.field-0, two, (last, c.in_ok-execute-3.field-0, given, refl)))

pub returns-in_err-execute-clause-fails : goal.returns-in_err-execute-clause-fails
returns-in_err-execute-clause-fails g c clean =
    if_err c.from_residual.result _ _ c.from_residual.ensures.1 (λ f e. rw e (inl (c.in_err-execute.ensures.runs clean c.requires.inside)))

pub returns-in_err-execute-2-clause-fails : goal.returns-in_err-execute-2-clause-fails
returns-in_err-execute-2-clause-fails g c clean =
    let one = c.in_ok-execute.ensures.runs (omega (arith, c.execute-2.ensures.survives.clean)) c.requires.inside in
    let two = c.in_err-execute-2.ensures.runs clean one.1.mode in
    if_err c.from_residual-in_err-execute-2.result _ _ c.from_residual-in_err-execute-2.ensures.1
    (λ f e. rw e (inr (c.execute.new.self.conn.now, c.in_ok-execute.field-0, one, inl two)))

pub returns-in_err-execute-3-clause-fails : goal.returns-in_err-execute-3-clause-fails
returns-in_err-execute-3-clause-fails g c clean =
    let second = c.execute-2.new.self.conn.now in
    let last = c.execute-3.new.self.conn.now in
    let one = c.in_ok-execute.ensures.runs (omega (arith, c.execute-2.ensures.survives.clean, c.execute-3.ensures.survives.clean)) c.requires.inside in
    let two = c.in_ok-execute-2.ensures.runs (omega (arith, c.execute-3.ensures.survives.clean)) one.1.mode in
    let three = c.in_err-execute-3.ensures.runs clean two.1.mode in
    let given = subst (λ p. ExecutesInside 0 meta_insert_text p (state g.S.Store second) (state g.S.Store last) (Err c.in_err-execute-3.field-0.0))
    c.meta_columns-row.ensures three in
    if_err c.from_residual-in_err-execute-3.result _ _ c.from_residual-in_err-execute-3.ensures.1
    (λ f e. rw e (inr (c.execute.new.self.conn.now, c.in_ok-execute.field-0, one, inr (second, c.in_ok-execute-2.field-0, two, inl given))))
