use Rattle.std.proofs.Common.{rules, sym, subst}
use Rattle.site_exchange.specs.Pendings.{ExchangeView, IsCaughtUp, IsInStep, IsPendingIn}
use Rattle.site_exchange.proofs.PendingLaws.{added_then, keeps_opened}
use Rattle.site_exchange.proofs.exchange.Exchange.next.Goals as goal

pub returns-in_err-reach-clause-kept : goal.returns-in_err-reach-clause-kept
returns-in_err-reach-clause-kept c =
    let fields = c.self.inside in
    let e : ExchangeView = record { sites = fields.sites; acked = fields.acked; pendings = fields.pendings.items } in
    keeps_opened c.args.book.now.history e c.args.self.now c.reach.new.pendings.items c.self.view_is (c.reach.ensures.pending c.args.book.now.history)
    c.reach.ensures.added

pub due-requires-clause-pending : goal.due-requires-clause-pending
due-requires-clause-pending c =
    let h = c.args.book.now.history in
    let step = subst (λ (e : ExchangeView). IsInStep h e c.args.to) (sym c.self.view_is) c.requires.in_step in
    subst (IsPendingIn h c.reach.new.pendings.items) (sym c.number-place.ensures.number) (c.reach.ensures.pending h c.args.to step.acked step.pending)

pub returns-in_err-delta-clause-kept : goal.returns-in_err-delta-clause-kept
returns-in_err-delta-clause-kept c =
    let fields = c.self.inside in
    let e : ExchangeView = record { sites = fields.sites; acked = fields.acked; pendings = fields.pendings.items } in
    let h = c.args.book.now.history in
    keeps_opened h e c.args.self.now c.due.new.pendings.items c.self.view_is
    (λ peer le old. c.due.ensures.kept.pending peer (c.reach.ensures.pending h peer le old))
    (added_then e.pendings c.reach.new.pendings.items c.due.new.pendings.items c.reach.ensures.added c.due.ensures.kept.added)

pub returns-clause-kept : goal.returns-clause-kept
returns-clause-kept c =
    let fields = c.self.inside in
    let e : ExchangeView = record { sites = fields.sites; acked = fields.acked; pendings = fields.pendings.items } in
    let h = c.args.book.now.history in
    keeps_opened h e c.args.self.now c.due.new.pendings.items c.self.view_is
    (λ peer le old. c.due.ensures.kept.pending peer (c.reach.ensures.pending h peer le old))
    (added_then e.pendings c.reach.new.pendings.items c.due.new.pendings.items c.reach.ensures.added c.due.ensures.kept.added)

pub returns-clause-reached : goal.returns-clause-reached
returns-clause-reached c some = subst (IsCaughtUp c.args.book.now.history c.due.new.pendings.items) c.number-place.ensures.number (search rules)
