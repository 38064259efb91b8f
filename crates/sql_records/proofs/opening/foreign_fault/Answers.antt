use Rattle.std.proofs.Common.{inl, inr, true, refl, rules, subst, [], ◌⊎◌}
use Rattle.sqlite.specs.State.{HasCleanDisk, Shown, FailsToQuery, IsTooLate}
use Rattle.sqlite.specs.Held.{state}
use Rattle.sql_records.specs.Texts.{meta_select_text}
use Rattle.sql_records.specs.Opening.{IsForeignCauseAs, IsLeftOrUndone}
use Rattle.sql_records.proofs.MakeLemmas.{was_clean}
use Rattle.sql_records.proofs.UndoneLemmas.{shown_keeps, error_keeps, undone_outside}
use Rattle.sql_records.proofs.opening.foreign_fault.Goals as goal

-- `search` knows what the borrowed connection is once its transaction has ended

pub returns-in-Ok-clause-cause : goal.returns-in-Ok-clause-cause
returns-in-Ok-clause-cause g c =
    let mid = c.query_all-answer.new.self.conn.now in
    let cause : HasCleanDisk (state g.S.Store c.rollback.new.self.0) → IsForeignCauseAs g.S.Store c.args.conn.now c.args.read c.foreign_rows.result = λ clean.
    let was = was_clean _ _ _ c.rollback.ensures.survives clean in
    let shows = subst (λ b. Shown meta_select_text [] (state g.S.Store b) (state g.S.Store mid) c.in-Ok.rows.items) c.transaction-tx.ensures.begun
    (c.in-Ok.ensures.ok was) in
    inl (c.in-Ok.rows.items, record { after = mid; clean = was; shows = shows }, c.foreign_rows.ensures.told) in
    search rules

pub returns-in-Err-clause-cause : goal.returns-in-Err-clause-cause
returns-in-Err-clause-cause g c =
    let mid = c.query_all-answer.new.self.conn.now in
    let cause : HasCleanDisk (state g.S.Store c.rollback.new.self.0) → IsForeignCauseAs g.S.Store c.args.conn.now c.args.read c.foreign_told.result = λ clean.
    let was = was_clean _ _ _ c.rollback.ensures.survives clean in
    let fails = subst (λ b. FailsToQuery meta_select_text [] (state g.S.Store b) (state g.S.Store mid) c.in-Err.error
    ⊎ IsTooLate meta_select_text [] (state g.S.Store b) (state g.S.Store mid) c.in-Err.error) c.transaction-tx.ensures.begun (c.in-Err.ensures.err was) in
    inr (c.in-Err.error, record { after = mid; clean = was; fails = fails }, c.foreign_told.ensures.told) in
    search rules

pub returns-in-Ok-clause-undone : goal.returns-in-Ok-clause-undone
returns-in-Ok-clause-undone g c =
    let old = state g.S.Store c.args.conn.now in
    let begun = state g.S.Store (record c.args.conn.now { in_transaction = true }) in
    let mid = state g.S.Store c.query_all-answer.new.self.conn.now in
    let undone : HasCleanDisk (state g.S.Store c.rollback.new.self.0) → IsLeftOrUndone old (state g.S.Store c.rollback.new.self.0) = λ clean.
    let was = was_clean _ _ _ c.rollback.ensures.survives clean in
    let ran = subst (λ b. Shown meta_select_text [] (state g.S.Store b) mid c.in-Ok.rows.items) c.transaction-tx.ensures.begun (c.in-Ok.ensures.ok was) in
    undone_outside old begun mid (state g.S.Store c.rollback.new.self.0) refl (λ on. on) (shown_keeps meta_select_text [] begun mid _ refl ran)
    (c.rollback.ensures.undone clean) in
    search rules

pub returns-in-Err-clause-undone : goal.returns-in-Err-clause-undone
returns-in-Err-clause-undone g c =
    let old = state g.S.Store c.args.conn.now in
    let begun = state g.S.Store (record c.args.conn.now { in_transaction = true }) in
    let mid = state g.S.Store c.query_all-answer.new.self.conn.now in
    let undone : HasCleanDisk (state g.S.Store c.rollback.new.self.0) → IsLeftOrUndone old (state g.S.Store c.rollback.new.self.0) = λ clean.
    let was = was_clean _ _ _ c.rollback.ensures.survives clean in
    let fails = subst (λ b. FailsToQuery meta_select_text [] (state g.S.Store b) mid c.in-Err.error
    ⊎ IsTooLate meta_select_text [] (state g.S.Store b) mid c.in-Err.error) c.transaction-tx.ensures.begun (c.in-Err.ensures.err was) in
    undone_outside old begun mid (state g.S.Store c.rollback.new.self.0) refl (λ on. on) (error_keeps meta_select_text [] begun mid c.in-Err.error fails)
    (c.rollback.ensures.undone clean) in
    search rules
