use Rattle.std.proofs.Common.{◌≡◌, Some, ap, sym, subst, ◌∙◌, arith}
use Rattle.book_core.specs.Decision.{SiteConfig, sites_of}
use Rattle.book_core.specs.Legal.{IsNext}
use Rattle.book_core.proofs.Histories.{next_sites, sites_of-push}
use Rattle.site_exchange.specs.Pendings.{IsExchangeOf}
use Rattle.site_exchange.proofs.ExchangeLaws.{exchange_grown}
use Rattle.world_steps.specs.NodeView.{NodeView}
use Rattle.world_steps.proofs.node.enter.Goals as goal

pub grow-requires : goal.grow-requires
grow-requires c =
    let b = c.node.inside.book in
    let next : IsNext b.office b.history c.args.planned = subst (λ (n : NodeView). IsNext n.book.office n.book.history c.args.planned) (sym c.node.view_is)
    c.requires.next in
    omega (
      arith,
      c.node.invariant.counted,
      next_sites b.office b.history c.args.planned next,
      sites_of-push b.office b.history c.args.planned,
      ap (sites_of b.office) c.enter.ensures.history,
      ap (λ (o : SiteConfig). sites_of o c.enter.new.self.history) c.enter.ensures.office,
      c.sites.ensures.sites,
    )

pub invariant_of-node : goal.invariant_of-node
invariant_of-node c =
    let b = c.node.inside.book in
    let h = c.enter.new.self.history in
    let counts : c.sites.result ≡ sites_of b.office h = c.sites.ensures.sites ∙ ap (λ (o : SiteConfig). sites_of o h) c.enter.ensures.office in
    subst (λ (o : SiteConfig). IsExchangeOf o h c.grow.new.self) (sym c.enter.ensures.office)
    (exchange_grown b.office (Some c.args.planned) b.history h c.node.inside.exchange c.grow.new.self c.enter.ensures.history
    (c.grow.ensures ∙ ap (λ n. record c.node.inside.exchange { sites = n }) counts) c.node.invariant)
