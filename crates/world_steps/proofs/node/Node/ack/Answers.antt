use Rattle.site_exchange.proofs.ExchangeLaws.{exchange_acked}
use Rattle.world_steps.proofs.node.Node.ack.Goals as goal

pub ack-requires-clause-pending : goal.ack-requires-clause-pending
ack-requires-clause-pending c = c.self.invariant.pending c.args.by

pub invariant_of-self : goal.invariant_of-self
invariant_of-self c =
    let b = c.self.inside.book in
    exchange_acked c.ack.result b.office b.history c.self.inside.exchange c.ack.new.self c.ack.ensures.sites c.ack.ensures.kept c.ack.ensures.unchanged
    c.self.invariant
