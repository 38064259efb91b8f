use Rattle.std.proofs.Common.{◌≡◌, ◌∙◌, true, not, Err, inl, inr, ap, sym, arith, rules}
use Rattle.std.proofs.lemmas.Bool.{true≢false}
use Rattle.sqlite.specs.State.{HasCleanDisk}
use Rattle.sqlite.specs.Held.{state}
use Rattle.sql_records.specs.Adding.{IsKeepAllFault}
use Rattle.sql_records.specs.Held.{HasMore, KeepsSite, MayLeaveIn, RecordsView, history_in}
use Rattle.history_keeper.specs.Keeping.{LeavesAllOrNone}
use Rattle.sql_records.proofs.AppendAllLemmas.{adding_fails, commit_fails, leaves_none, stored_leaves, stored_more, stored_site, undone_leaves}
use Rattle.sql_records.proofs.MakeLemmas.{was_clean}
use Rattle.sql_records.proofs.OpeningLemmas.{rest_count}
use Rattle.sql_records.proofs.records.store_all.Goals as goal

-- `search` knows what the borrowed connection is once its transaction has ended

pub returns-then-not-is_settled-clause-stopped : goal.returns-then-not-is_settled-clause-stopped
returns-then-not-is_settled-clause-stopped g c clean =
    let conn = c.args.conn.now in
    leaves_none (state g.S.Store conn) c.args.place (c.requires.rest clean) (λ db is_open left. g.met.S.Store.settled conn.store db is_open left)
    c.args.entries.now (state g.S.Store conn) (λ db left. left)

pub returns-in-Ok-commit-clause-more : goal.returns-in-Ok-commit-clause-more
returns-in-Ok-commit-clause-more g c =
    let conn = c.args.conn.now in
    let last = c.commit.new.self.0 in
    let fact : HasCleanDisk (state g.S.Store last)
    → HasMore (state g.S.Store conn) (state g.S.Store last) c.args.place c.args.entries.now = λ clean.
    stored_more g.S.Store conn c.transaction-tx.result.conn.now c.store_each.new.tx.conn.now c.transaction-tx.ensures.begun c.args.place
    c.args.entries.now c.requires.rest c.store_each.ensures.survives (λ db is_open left. g.met.S.Store.settled conn.store db is_open left)
    c.in-Ok.ensures.adds last c.commit.ensures.survives clean (c.in-Ok-commit.ensures.ok clean).1 in
    search rules

pub returns-in-Ok-commit-clause-stopped : goal.returns-in-Ok-commit-clause-stopped
returns-in-Ok-commit-clause-stopped g c clean left h =
    let conn = c.args.conn.now in
    let last = c.commit.new.self.0 in
    let fact : HasCleanDisk (state g.S.Store last)
    → LeavesAllOrNone (history_in (state g.S.Store conn).now.trees) c.args.entries.now (MayLeaveIn (state g.S.Store last)) = λ was_clean.
    stored_leaves g.S.Store conn c.transaction-tx.result.conn.now c.store_each.new.tx.conn.now c.transaction-tx.ensures.begun c.args.place
    c.args.entries.now c.requires.rest c.store_each.ensures.survives (λ db is_open left. g.met.S.Store.settled conn.store db is_open left)
    c.in-Ok.ensures.adds last c.commit.ensures.survives was_clean in
    let here : HasCleanDisk (state g.S.Store last) = search (rules, clean) in
    let found : (state g.S.Store last).may_leave h.0 = search (rules, h.1) in
    fact here left (h.0, found, h.2)

pub returns-in-Ok-commit-clause-site : goal.returns-in-Ok-commit-clause-site
returns-in-Ok-commit-clause-site g c =
    let conn = c.args.conn.now in
    let last = c.commit.new.self.0 in
    let fact : HasCleanDisk (state g.S.Store last)
    → KeepsSite (state g.S.Store conn) (state g.S.Store last) = λ clean. stored_site g.S.Store conn c.transaction-tx.result.conn.now
    c.store_each.new.tx.conn.now c.transaction-tx.ensures.begun c.args.place c.args.entries.now c.requires.rest c.store_each.ensures.survives
    (λ db is_open left. g.met.S.Store.settled conn.store db is_open left) c.in-Ok.ensures.adds last c.commit.ensures.survives clean
    (λ is_open. g.met.S.Store.stays conn.store is_open) in
    search rules

pub returns-in-Err-commit-clause-stopped : goal.returns-in-Err-commit-clause-stopped
returns-in-Err-commit-clause-stopped g c clean left h =
    let conn = c.args.conn.now in
    let last = c.commit.new.self.0 in
    let fact : HasCleanDisk (state g.S.Store last)
    → LeavesAllOrNone (history_in (state g.S.Store conn).now.trees) c.args.entries.now (MayLeaveIn (state g.S.Store last)) = λ was_clean.
    stored_leaves g.S.Store conn c.transaction-tx.result.conn.now c.store_each.new.tx.conn.now c.transaction-tx.ensures.begun c.args.place
    c.args.entries.now c.requires.rest c.store_each.ensures.survives (λ db is_open left. g.met.S.Store.settled conn.store db is_open left)
    c.in-Ok.ensures.adds last c.commit.ensures.survives was_clean in
    let here : HasCleanDisk (state g.S.Store last) = search (rules, clean) in
    let found : (state g.S.Store last).may_leave h.0 = search (rules, h.1) in
    fact here left (h.0, found, h.2)

pub returns-in-Err-commit-clause-site : goal.returns-in-Err-commit-clause-site
returns-in-Err-commit-clause-site g c =
    let conn = c.args.conn.now in
    let last = c.commit.new.self.0 in
    let fact : HasCleanDisk (state g.S.Store last)
    → KeepsSite (state g.S.Store conn) (state g.S.Store last) = λ clean. stored_site g.S.Store conn c.transaction-tx.result.conn.now
    c.store_each.new.tx.conn.now c.transaction-tx.ensures.begun c.args.place c.args.entries.now c.requires.rest c.store_each.ensures.survives
    (λ db is_open left. g.met.S.Store.settled conn.store db is_open left) c.in-Ok.ensures.adds last c.commit.ensures.survives clean
    (λ is_open. g.met.S.Store.stays conn.store is_open) in
    search rules

pub returns-in-Err-clause-stopped : goal.returns-in-Err-clause-stopped
returns-in-Err-clause-stopped g c clean left h =
    let conn = c.args.conn.now in
    let last = c.rollback.new.self.0 in
    let fact : HasCleanDisk (state g.S.Store last)
    → LeavesAllOrNone (history_in (state g.S.Store conn).now.trees) c.args.entries.now (MayLeaveIn (state g.S.Store last)) = λ was_clean.
    undone_leaves g.S.Store conn c.transaction-tx.result.conn.now c.store_each.new.tx.conn.now c.transaction-tx.ensures.begun c.args.place
    c.args.entries.now c.requires.rest c.store_each.ensures.survives (λ db is_open left. g.met.S.Store.settled conn.store db is_open left) last
    c.rollback.ensures.survives was_clean in
    let here : HasCleanDisk (state g.S.Store last) = search (rules, clean) in
    let found : (state g.S.Store last).may_leave h.0 = search (rules, h.1) in
    fact here left (h.0, found, h.2)

pub returns-in-Err-commit-clause-cause : goal.returns-in-Err-commit-clause-cause
returns-in-Err-commit-clause-cause g c =
    let conn = c.args.conn.now in
    let filled = c.store_each.new.tx.conn.now in
    let last = c.commit.new.self.0 in
    let old : RecordsView g.row.S.Denot = record { conn = conn; failures = 0 } in
    let new : RecordsView g.row.S.Denot = record { conn = last; failures = 1 } in
    let fact : HasCleanDisk (state g.S.Store last) → IsKeepAllFault g.S.Store old new c.args.entries.now c.keep_fault.result = λ clean.
    let was = was_clean (state g.S.Store filled) (state g.S.Store last) _ c.commit.ensures.survives clean in
    commit_fails g.S.Store conn c.transaction-tx.result.conn.now c.store_each.new.tx.conn.now c.transaction-tx.ensures.begun c.args.place
    c.args.entries.now c.requires.rest c.store_each.ensures.survives (λ db is_open left. g.met.S.Store.settled conn.store db is_open left) last
    c.in-Err-commit.error c.keep_fault.result was c.keep_fault.ensures (c.in-Ok.ensures.runs was) (c.in-Err-commit.ensures.err clean) in
    search rules

pub returns-in-Err-clause-cause : goal.returns-in-Err-clause-cause
returns-in-Err-clause-cause g c =
    let conn = c.args.conn.now in
    let filled = c.store_each.new.tx.conn.now in
    let last = c.rollback.new.self.0 in
    let old : RecordsView g.row.S.Denot = record { conn = conn; failures = 0 } in
    let new : RecordsView g.row.S.Denot = record { conn = last; failures = 1 } in
    let fact : HasCleanDisk (state g.S.Store last) → IsKeepAllFault g.S.Store old new c.args.entries.now c.in-Err.fault = λ clean.
    let was = was_clean (state g.S.Store filled) (state g.S.Store last) _ c.rollback.ensures.survives clean in
    adding_fails g.S.Store conn c.transaction-tx.result.conn.now c.store_each.new.tx.conn.now c.transaction-tx.ensures.begun c.args.place
    c.args.entries.now c.requires.rest c.store_each.ensures.survives (λ db is_open left. g.met.S.Store.settled conn.store db is_open left) last
    c.in-Err.fault was (λ e. c.in-Err.ensures.named (ap Err e)) (c.in-Err.ensures.runs was) in
    search rules

pub returns-then-not-is_settled-clause-cause : goal.returns-then-not-is_settled-clause-cause
returns-then-not-is_settled-clause-cause g c clean =
    let rest = c.requires.rest clean in
    let count = rest_count (state g.S.Store c.args.conn.now) c.args.place rest in
    let settled : not c.args.conn.now.in_transaction ≡ true = ap not rest.autocommit in
    elim c.then-not-is_settled.either [
      | inl busy ↦ absurd (true≢false (sym settled ∙ sym c.is_autocommit-is_settled.ensures.value ∙ busy))
      | inr far ↦ inl (omega (arith, far.1, count))
    ]
