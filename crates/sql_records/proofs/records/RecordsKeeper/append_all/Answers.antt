use Rattle.std.proofs.Common.{◌++◌, ap, subst, ◌∙◌}
use Rattle.sqlite.specs.Held.{state}
use Rattle.history_keeper.specs.Keeping.{LeavesAllOrNone}
use Rattle.sql_records.specs.Held.{MayLeaveIn, kept_in}
use Rattle.sql_records.proofs.OpeningLemmas.{leaves_only, keeps}
use Rattle.sql_records.proofs.records.RecordsKeeper.append_all.Goals as goal

pub returns-in-Ok-clause-kept : goal.returns-in-Ok-clause-kept
returns-in-Ok-clause-kept g c clean =
    let conn = c.store_all.new.conn in
    let new = state g.S.Store conn in
    let only = leaves_only new _ ((c.in-Ok.ensures.more clean).rest) (λ db is_open left. g.met.S.Store.settled conn.store db is_open left)
    (λ is_open. g.met.S.Store.stays conn.store is_open) in
    keeps _ _ (MayLeaveIn new) ((c.in-Ok.ensures.more clean).added ∙ ap (λ k. kept_in g.S.Store k ++ c.args.entries.now) c.self.view_is) only

pub returns-in-Err-clause-stopped : goal.returns-in-Err-clause-stopped
returns-in-Err-clause-stopped g c none clean =
    let new = state g.S.Store c.store_all.new.conn in
    subst (λ k. LeavesAllOrNone (kept_in g.S.Store k) c.args.entries.now (MayLeaveIn new)) c.self.view_is (c.store_all.ensures.stopped clean)
