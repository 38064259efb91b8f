use Rattle.std.proofs.Common.{◌≡◌, ◌+◌, Some, sym, subst, ap, ◌∙◌}
use Rattle.std.specs.Prelude.{slice_get}
use Rattle.rights_lattice.specs.State.{State, join}
use Rattle.book_core.specs.History.{delta_of}
use Rattle.delta_buffer.specs.Pending.{PendingView, IsPendingOf}
use Rattle.delta_buffer.proofs.PendingLaws.{added}
use Rattle.delta_buffer.proofs.pending.Pending.add.Goals as goal

pub returns-clause-pending : goal.returns-clause-pending
returns-clause-pending c h is found =
    let p : PendingView = record { from = c.self.inside.from; upto = c.self.inside.upto; delta = c.self.inside.delta } in
    let was : IsPendingOf h p = subst (IsPendingOf h) (sym c.self.view_is) is in
    let there : slice_get h p.upto ≡ Some c.args.entry.now = ap (λ (v : PendingView). slice_get h v.upto) c.self.view_is ∙ found in
    let joined : c.in_ok-self-inside.field-0 ≡ join p.delta (delta_of c.args.entry.now) = c.in_ok-self-inside.ensures ∙ ap (join p.delta) c.delta.ensures in
    subst (λ (d : State). IsPendingOf h (record { from = p.from; upto = p.upto + 1; delta = d })) (sym joined)
    (added h p c.args.entry.now c.self.invariant was there)
