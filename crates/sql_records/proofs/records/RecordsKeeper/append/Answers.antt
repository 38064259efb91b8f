use Rattle.std.proofs.Common.{◌++◌, [], ◌∷◌, ap, subst, ◌∙◌}
use Rattle.sqlite.specs.Held.{state}
use Rattle.history_keeper.specs.Keeping.{LeavesWithOrWithout}
use Rattle.sql_records.specs.Held.{MayLeaveIn, kept_in}
use Rattle.sql_records.proofs.OpeningLemmas.{leaves_only, keeps}
use Rattle.sql_records.proofs.records.RecordsKeeper.append.Goals as goal

pub returns-in-Ok-clause-kept : goal.returns-in-Ok-clause-kept
returns-in-Ok-clause-kept g c clean =
    let conn = c.store.new.conn in
    let new = state g.S.Store conn in
    let it = (c.in-Ok.ensures.stores clean).more in
    let only = leaves_only new _ (it.rest) (λ db is_open left. g.met.S.Store.settled conn.store db is_open left)
    (λ is_open. g.met.S.Store.stays conn.store is_open) in
    keeps _ _ (MayLeaveIn new) (it.added ∙ ap (λ k. kept_in g.S.Store k ++ c.args.entry.now ∷ []) c.self.view_is) only

pub returns-in-Err-clause-stopped : goal.returns-in-Err-clause-stopped
returns-in-Err-clause-stopped g c none clean =
    let new = state g.S.Store c.store.new.conn in
    subst (λ k. LeavesWithOrWithout (kept_in g.S.Store k) c.args.entry.now (MayLeaveIn new)) c.self.view_is ((c.store.ensures.stores clean).crash)
