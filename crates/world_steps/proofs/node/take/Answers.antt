use Rattle.std.proofs.Common.{Some}
use Rattle.book_core.specs.declared.entry.Entry.TheVariants.{Joined}
use Rattle.site_exchange.proofs.Counts.{count_joined}
use Rattle.site_exchange.proofs.ExchangeLaws.{exchange_entered}
use Rattle.world_steps.proofs.node.take.Goals as goal

pub invariant_of-node : goal.invariant_of-node
invariant_of-node c =
    let b = c.node.inside.book in
    exchange_entered c.join.result b.office c.join.new.book.office (Some (Joined c.in-Joined-Delta.by c.in-Joined-Delta.delta)) b.history
    c.join.new.book.history c.node.inside.exchange
    c.join.ensures.office c.join.ensures.stored c.join.ensures.unchanged (count_joined b.office b.history c.in-Joined-Delta.by c.in-Joined-Delta.delta)
    c.node.invariant
