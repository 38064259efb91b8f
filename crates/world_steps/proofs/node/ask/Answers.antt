use Rattle.std.proofs.Common.{◌≡◌, Some, ap, subst, ◌∙◌, [], ◌∷◌, ◌++◌}
use Rattle.book_core.specs.BookView.{BookView}
use Rattle.book_core.specs.declared.entry.Entry.{Entry}
use Rattle.book_core.specs.declared.plan.Plan.TheVariants.{New}
use Rattle.book_core.specs.Plans.{IsPlan}
use Rattle.site_exchange.proofs.Counts.{count_entry}
use Rattle.site_exchange.proofs.ExchangeLaws.{exchange_extended, exchange_still}
use Rattle.world_steps.proofs.node.ask.Goals as goal

pub invariant_of-node : goal.invariant_of-node
invariant_of-node c =
    let b : BookView = c.node.inside.book in
    exchange_still b.office c.plan.new.self.office b.history c.plan.new.self.history c.node.inside.exchange
    (ap (λ (b : BookView). b.office) c.plan.ensures.unchanged) (ap (λ (b : BookView). b.history) c.plan.ensures.unchanged) c.node.invariant

pub invariant_of-node-in-Ok-New : goal.invariant_of-node-in-Ok-New
invariant_of-node-in-Ok-New c =
    let b : BookView = c.node.inside.book in
    let planned : Entry = c.in-Ok-New.planned in
    let is : c.enter.new.self.history ≡ b.history ++ planned ∷ [] = c.enter.ensures.history
    ∙ ap (λ (b : BookView). b.history ++ planned ∷ []) c.plan.ensures.unchanged in
    let office : c.enter.new.self.office ≡ b.office = c.enter.ensures.office ∙ ap (λ (b : BookView). b.office) c.plan.ensures.unchanged in
    let plan : IsPlan c.plan.new.self c.args.number c.args.request.now (New planned) =
    subst (IsPlan c.plan.new.self c.args.number c.args.request.now) c.in-Ok-New.field-0-is c.in-Ok-New.ensures.plan in
    exchange_extended b.office c.enter.new.self.office (Some planned) b.history c.enter.new.self.history c.node.inside.exchange office is
    (count_entry b.office b.history c.args.number c.args.request.now planned plan.0) c.node.invariant

pub invariant_of-node-in-Err-Memory : goal.invariant_of-node-in-Err-Memory
invariant_of-node-in-Err-Memory c =
    let b : BookView = c.node.inside.book in
    exchange_still b.office c.plan.new.self.office b.history c.plan.new.self.history c.node.inside.exchange
    (ap (λ (b : BookView). b.office) c.plan.ensures.unchanged) (ap (λ (b : BookView). b.history) c.plan.ensures.unchanged) c.node.invariant

pub invariant_of-node-in-Err : goal.invariant_of-node-in-Err
invariant_of-node-in-Err c =
    let b : BookView = c.node.inside.book in
    exchange_still b.office c.plan.new.self.office b.history c.plan.new.self.history c.node.inside.exchange
    (ap (λ (b : BookView). b.office) c.plan.ensures.unchanged) (ap (λ (b : BookView). b.history) c.plan.ensures.unchanged) c.node.invariant
