use Rattle.std.proofs.Common.{inl, inr, rules, subst, IfErr}
use Rattle.std.proofs.lemmas.Result.{IfErr-weaker}
use Rattle.sqlite.specs.State.{HasCleanDisk}
use Rattle.sqlite.specs.Held.{state}
use Rattle.sql_records.specs.Making.{making, RunInTurn, FailInTurn, FailsToMake}
use Rattle.sql_records.proofs.MakeLemmas.{was_clean}
use Rattle.sql_records.proofs.creation.make.Goals as goal

-- `search` knows what the borrowed connection is once its transaction has ended

pub returns-in-Ok-clause-fails : goal.returns-in-Ok-clause-fails
returns-in-Ok-clause-fails g c =
    let filled = c.fill.new.tx.conn.now in
    let fails : HasCleanDisk (state g.S.Store c.commit.new.self.0) → IfErr c.commit.result (FailsToMake g.S.Store c.args.conn.now c.args.meta) = λ clean.
    let runs = c.in-Ok.ensures.runs (was_clean _ _ _ c.commit.ensures.survives clean) in
    let begun = subst (λ b. RunInTurn g.S.Store (making c.args.meta) b filled) c.transaction-tx.ensures.begun runs in
    IfErr-weaker c.commit.result _ _ (λ e h. record { after = c.commit.new.self.0; clean = clean; fails = inr (filled, begun, h) })
    (c.commit.ensures.err clean) in
    search rules

pub returns-in-Err-clause-fails : goal.returns-in-Err-clause-fails
returns-in-Err-clause-fails g c clean =
    let filled = c.fill.new.tx.conn.now in
    let was : HasCleanDisk (state g.S.Store c.rollback.new.self.0) → HasCleanDisk (state g.S.Store filled) = was_clean _ _ _ c.rollback.ensures.survives in
    let before : HasCleanDisk (state g.S.Store filled) = search rules in
    let begun = subst (λ b. FailInTurn g.S.Store (making c.args.meta) b filled c.in-Err.error) c.transaction-tx.ensures.begun (c.in-Err.ensures.fails before) in
    record { after = filled; clean = before; fails = inl begun }
