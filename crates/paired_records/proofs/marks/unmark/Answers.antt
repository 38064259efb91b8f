use Rattle.std.proofs.Common.{rules}
use Rattle.sqlite.specs.State.{HasCleanDisk}
use Rattle.sqlite.specs.Held.{state}
use Rattle.paired_records.specs.Marks.{IsChangedBy, LeavesAsBeforeOr, unmarking}
use Rattle.paired_records.proofs.MarkLemmas.{changed_by, leaves_made}
use Rattle.paired_records.proofs.marks.unmark.Goals as goal

-- `search` knows what the borrowed connection is once its transaction has ended

pub returns-in_err-commit-in-Ok-clause-crash : goal.returns-in_err-commit-in-Ok-clause-crash
returns-in_err-commit-in-Ok-clause-crash g c =
    let leaves : HasCleanDisk (state g.S.Store c.commit.new.self.0)
    → LeavesAsBeforeOr g.S.Store unmarking c.args.conn.now c.commit.new.self.0 =
    leaves_made g.S.Store unmarking c.args.conn.now _ c.clear.new.tx.conn.now c.commit.new.self.0
    c.transaction-tx.ensures.begun c.in-Ok.ensures.runs c.clear.ensures.survives c.commit.ensures.survives in
    search rules

pub returns-then-is_one_of_two-clause-crash : goal.returns-then-is_one_of_two-clause-crash
returns-then-is_one_of_two-clause-crash g c =
    let leaves : HasCleanDisk (state g.S.Store c.commit.new.self.0)
    → LeavesAsBeforeOr g.S.Store unmarking c.args.conn.now c.commit.new.self.0 =
    leaves_made g.S.Store unmarking c.args.conn.now _ c.clear.new.tx.conn.now c.commit.new.self.0
    c.transaction-tx.ensures.begun c.in-Ok.ensures.runs c.clear.ensures.survives c.commit.ensures.survives in
    search rules

pub returns-clause-changed : goal.returns-clause-changed
returns-clause-changed g c =
    let changed : HasCleanDisk (state g.S.Store c.commit.new.self.0)
    → IsChangedBy g.S.Store unmarking c.args.conn.now c.commit.new.self.0 = λ clean.
    changed_by g.S.Store unmarking c.args.conn.now _ c.clear.new.tx.conn.now c.commit.new.self.0
    c.transaction-tx.ensures.begun c.in-Ok.ensures.runs c.commit.ensures.survives (c.in_ok-commit-in-Ok.ensures.ok clean).1
    (λ db is_open left. g.met.S.Store.settled c.commit.new.self.0.store db is_open left) clean in
    search rules

pub returns-clause-crash : goal.returns-clause-crash
returns-clause-crash g c =
    let leaves : HasCleanDisk (state g.S.Store c.commit.new.self.0)
    → LeavesAsBeforeOr g.S.Store unmarking c.args.conn.now c.commit.new.self.0 =
    leaves_made g.S.Store unmarking c.args.conn.now _ c.clear.new.tx.conn.now c.commit.new.self.0
    c.transaction-tx.ensures.begun c.in-Ok.ensures.runs c.clear.ensures.survives c.commit.ensures.survives in
    search rules
