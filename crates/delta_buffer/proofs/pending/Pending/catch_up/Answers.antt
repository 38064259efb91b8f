use Rattle.std.proofs.Common.{◌≡◌, length, sym, subst, ap, ◌∙◌}
use Rattle.rights_lattice.specs.State.{join}
use Rattle.book_core.specs.History.{interval}
use Rattle.delta_buffer.specs.Pending.{PendingView, IsPendingOf}
use Rattle.delta_buffer.proofs.PendingLaws.{caught_up}
use Rattle.delta_buffer.proofs.pending.Pending.catch_up.Goals as goal

pub returns-clause-added : goal.returns-clause-added
returns-clause-added c =
    let h = c.args.book.now.history in
    let p : PendingView = record { from = c.self.inside.from; upto = c.self.inside.upto; delta = c.self.inside.delta } in
    let was : IsPendingOf h p = subst (IsPendingOf h) (sym c.self.view_is) c.requires in
    let all : c.len-len.result ≡ length h = c.len-len.ensures.len in
    let from : p.from ≡ c.args.self.now.from = ap (λ (v : PendingView). v.from) c.self.view_is in
    let joined : c.in_ok-self-inside.field-0 ≡ interval h c.args.self.now.from (length h) =
    c.in_ok-self-inside.ensures
    ∙ ap (join p.delta) (c.in_ok-missing.ensures.delta ∙ ap (interval h p.upto) all)
    ∙ caught_up h p (length h) c.self.invariant was was.within
    ∙ ap (λ a. interval h a (length h)) from in
    λ k. record { from = from k; upto = all k; delta = joined k }
