use Rattle.std.proofs.Common.{rules, sym, subst}
use Rattle.site_exchange.specs.Pendings.{ExchangeView, IsPendingIn, KeepsPendings}
use Rattle.site_exchange.proofs.exchange.Exchange.ack.Goals as goal

pub forget-requires-clause-pending : goal.forget-requires-clause-pending
forget-requires-clause-pending c =
    let h = c.args.book.now.history in
    subst (IsPendingIn h c.self.inside.pendings.items) (sym c.number-place.ensures.number)
    (subst (λ (e : ExchangeView). IsPendingIn h e.pendings c.args.peer) (sym c.self.view_is) c.requires.pending)

pub returns-clause-kept : goal.returns-clause-kept
returns-clause-kept c =
    subst (λ (e : ExchangeView). KeepsPendings c.args.book.now.history e.pendings c.forget.new.pendings.items) c.self.view_is c.in_ok-forget.ensures.kept

pub invariant_of-self-2 : goal.invariant_of-self-2
invariant_of-self-2 c =
    let begins = c.in_ok-forget.ensures.begins c.self.inside.acked (search rules) c.self.invariant in
    search (rules, begins)
