use Rattle.site_exchange.proofs.ExchangeLaws.{exchange_entered}
use Rattle.world_steps.specs.World.{entry_of_input}
use Rattle.world_steps.proofs.Nodes.{count_of_input}
use Rattle.world_steps.proofs.node.stop.Goals as goal

pub invariant_of-node : goal.invariant_of-node
invariant_of-node c =
    let b = c.node.inside.book in
    let entry = entry_of_input b.office b.history c.args.sent.now c.args.input.now in
    exchange_entered c.store.result b.office c.store.new.book.office entry b.history c.store.new.book.history c.node.inside.exchange
    c.store.ensures.stores.office c.store.ensures.stores.stored c.store.ensures.stores.unchanged
    (count_of_input b.office b.history c.args.sent.now c.args.input.now c.requires.in_hand.kind) c.node.invariant

pub invariant_of-node-else-is_err : goal.invariant_of-node-else-is_err
invariant_of-node-else-is_err c =
    let b = c.node.inside.book in
    let entry = entry_of_input b.office b.history c.args.sent.now c.args.input.now in
    exchange_entered c.store.result b.office c.store.new.book.office entry b.history c.store.new.book.history c.node.inside.exchange
    c.store.ensures.stores.office c.store.ensures.stores.stored c.store.ensures.stores.unchanged
    (count_of_input b.office b.history c.args.sent.now c.args.input.now c.requires.in_hand.kind) c.node.invariant
