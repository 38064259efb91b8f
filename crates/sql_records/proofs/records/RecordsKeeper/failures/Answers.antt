use Rattle.std.proofs.Common.{subst, sym}
use Rattle.sqlite.specs.Held.{state}
use Rattle.history_keeper.specs.Keeping.{LeavesOnly}
use Rattle.sql_records.specs.Held.{IsTrusted, MayLeave, kept_in}
use Rattle.sql_records.proofs.OpeningLemmas.{leaves_only}
use Rattle.sql_records.proofs.records.RecordsKeeper.failures.Goals as goal

pub returns-clause-rest : goal.returns-clause-rest
returns-clause-rest g c none clean =
    let conn = c.self.inside.conn in
    let rest = c.self.invariant none (subst (λ k. IsTrusted g.S.Store k) (sym c.self.view_is) clean) in
    subst (λ k. LeavesOnly (kept_in g.S.Store k) (MayLeave g.S.Store k)) c.self.view_is
    (leaves_only (state g.S.Store conn) c.self.inside.count rest (λ db is_open left. g.met.S.Store.settled conn.store db is_open left)
    (λ is_open. g.met.S.Store.stays conn.store is_open))
