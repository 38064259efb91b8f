use Rattle.std.proofs.Common.{◌≡◌, sym, subst, ap, ◌∙◌, arith, rules, get_or}
use Rattle.book_core.specs.declared.entry.Entry.TheVariants.{Grown}
use Rattle.book_core.specs.Decision.{SiteConfig, sites_of}
use Rattle.book_core.proofs.Histories.{sites_of-push}
use Rattle.site_exchange.specs.Pendings.{ExchangeView, IsExchangeOf}
use Rattle.site_exchange.specs.Taking.{extended}
use Rattle.site_exchange.proofs.ExchangeLaws.{exchange_grown}
use Rattle.site_desk.specs.SiteView.{growth_in}
use Rattle.site_desk.proofs.Acknowledged.{no_shorter}
use Rattle.site_desk.proofs.site_book.SiteBook.grow.Goals as goal

pub invariant_of-self-2 : goal.invariant_of-self-2
invariant_of-self-2 g c =
    let book = c.self.inside.book in
    let office = book.office in
    let h = book.history in
    let now = c.grow-grown.new.book.history in
    let entry = growth_in book c.args.sites in
    let is : now ≡ extended entry h = c.in_ok-grown.ensures.enters.entered in
    let counted : sites_of office now ≡ c.args.sites = ap (sites_of office) (is ∙ ap (λ e. extended e h) c.in_ok-grown.ensures.growth)
    ∙ sites_of-push office h (Grown c.args.sites) in (
      record {
        sound = search rules;
        broken = search rules;
        same = search rules;
        rests = search rules;
        acknowledged = λ peer. omega (
          arith,
          c.self.invariant.0.acknowledged peer,
          ap (λ (e : ExchangeView). get_or e.acked peer 0) c.grow.ensures,
          no_shorter c.grow-grown.result entry h now c.grow-grown.ensures.enters.entered c.grow-grown.ensures.enters.unchanged,
        );
        has_rights = search rules;
      },
      subst (λ (o : SiteConfig). IsExchangeOf o now c.grow.new.self) (sym c.grow-grown.ensures.enters.office)
          (exchange_grown office entry h now c.self.inside.exchange c.grow.new.self is
          (c.grow.ensures ∙ ap (λ n. record c.self.inside.exchange { sites = n }) (sym counted)) c.self.invariant.1),
    )
