use Rattle.std.proofs.Common.{◌≡◌, List, [], ◌∷◌, ◌++◌, length, get_or, sym, ap, ◌∙◌, subst, arith}
use Rattle.delta_buffer.specs.Pending.{PendingView}
use Rattle.site_exchange.specs.Pendings.{BeginAtAcked, IsPendingIn, KeepAdded}
use Rattle.site_exchange.proofs.PendingLaws.{nothing_behind, added_more, begins_more, pending_more}
use Rattle.site_exchange.proofs.exchange.reach.Goals as goal

pub returns-in_err-push-clause-pending : goal.returns-in_err-push-clause-pending
returns-in_err-push-clause-pending c h peer le old =
    subst (λ (ps : List PendingView). IsPendingIn h ps peer) (sym c.in_err-push.ensures.items) (c.loop-peer.invariant.pending h peer le old)

pub loop-peer-preserved : goal.loop-peer-preserved
loop-peer-preserved c =
    let ps = c.loop-peer.pendings.items in
    let acked = c.args.acked.now in
    let now : c.push.new.self.items ≡ ps ++ nothing_behind (get_or acked (length ps) 0) ∷ [] =
    c.in_ok-push.ensures.items ∙ ap (λ (v : PendingView). ps ++ v ∷ [])
    (c.behind.ensures ∙ ap (λ k. nothing_behind (get_or acked k 0)) (sym c.loop-peer.invariant.reached)) in
    record {
      reached = omega (arith, c.in_ok-push.ensures.len, c.loop-peer.invariant.reached);
      begins = λ begins. subst (BeginAtAcked acked) (sym now) (begins_more acked ps (c.loop-peer.invariant.begins begins));
      pending = λ h peer le old. subst (λ (qs : List PendingView). IsPendingIn h qs peer) (sym now)
          (pending_more acked ps h peer le (c.loop-peer.invariant.pending h peer le old));
      added = subst (KeepAdded c.args.pendings.now.items) (sym now)
          (added_more c.args.pendings.now.items ps (nothing_behind (get_or acked (length ps) 0)) c.loop-peer.invariant.added);
    }

pub returns-in_err-push-clause-added : goal.returns-in_err-push-clause-added
returns-in_err-push-clause-added c = subst (KeepAdded c.args.pendings.now.items) (sym c.in_err-push.ensures.items) c.loop-peer.invariant.added
