use Rattle.std.proofs.Common.{ap}
use Rattle.book_core.specs.BookView.{BookView}
use Rattle.site_exchange.proofs.ExchangeLaws.{exchange_still}
use Rattle.world_steps.proofs.node.plan_growth.Goals as goal

pub invariant_of-node : goal.invariant_of-node
invariant_of-node c =
    let b : BookView = c.node.inside.book in
    exchange_still b.office c.plan_grow.new.self.office b.history c.plan_grow.new.self.history c.node.inside.exchange
    (ap (λ (b : BookView). b.office) c.plan_grow.ensures.unchanged) (ap (λ (b : BookView). b.history) c.plan_grow.ensures.unchanged) c.node.invariant
