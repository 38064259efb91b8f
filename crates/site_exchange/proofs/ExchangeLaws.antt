-- A site's exchange, as the site goes on. For callers.
use Rattle.std.proofs.Common.{◌≡◌, List, Option, refl, sym, ◌∙◌, subst}
use Rattle.std.specs.Prelude.{Result, Ok, Err, OnOk, OnErr}
use Rattle.book_core.specs.declared.entry.Entry.{Entry}
use Rattle.book_core.specs.Decision.{SiteConfig, sites_of}
use Rattle.site_exchange.specs.Taking.{extended}
use Rattle.site_exchange.specs.Pendings.{ArePending, ExchangeView, IsExchangeOf, KeepsPendings}
use Rattle.site_exchange.proofs.PendingLaws.{pending_extended}

-- of a site that stayed as it was
pub exchange_still : (office now_office : SiteConfig) (h now : List Entry) (e : ExchangeView) → now_office ≡ office → now ≡ h → IsExchangeOf office h e
    → IsExchangeOf now_office now e
exchange_still office now_office h now e same_office same is =
    subst (λ (o : SiteConfig). IsExchangeOf o now e) (sym same_office) (subst (λ (g : List Entry). IsExchangeOf office g e) (sym same) is)

-- of a site that got this entry, if any, which is no growth
pub exchange_extended : (office now_office : SiteConfig) (entry : Option Entry) (h now : List Entry) (e : ExchangeView) → now_office ≡ office
    → now ≡ extended entry h
    → sites_of office (extended entry h) ≡ sites_of office h → IsExchangeOf office h e → IsExchangeOf now_office now e
exchange_extended office now_office entry h now e same_office is count before =
    exchange_still office now_office (extended entry h) now e same_office is
    (record { counted = before.counted ∙ sym count; pending = pending_extended entry h e before.pending })

-- of a site in which an input was entered, or that stayed as it was
pub exchange_entered : {A F : Type 0} (came : Result A F) (office now_office : SiteConfig) (entry : Option Entry) (h now : List Entry) (e : ExchangeView)
    → now_office ≡ office
    → OnOk came (now ≡ extended entry h) → OnErr came (now ≡ h) → sites_of office (extended entry h) ≡ sites_of office h → IsExchangeOf office h e
    → IsExchangeOf now_office now e
exchange_entered (Ok a) office now_office entry h now e same_office is same count before = exchange_extended office now_office entry h now e same_office is
    count before
exchange_entered (Err f) office now_office entry h now e same_office is same count before = exchange_still office now_office h now e same_office same before

-- of a site that grew, once the exchange counts what the site counts
pub exchange_grown : (office : SiteConfig) (entry : Option Entry) (h now : List Entry) (e new : ExchangeView) → now ≡ extended entry h
    → new ≡ record e { sites = sites_of office now }
    → IsExchangeOf office h e → IsExchangeOf office now new
exchange_grown office entry h now e new is counts before =
    subst (IsExchangeOf office now) (sym counts)
    (record { counted = refl; pending = subst (λ (g : List Entry). ArePending g e) (sym is) (pending_extended entry h e before.pending) })

-- that took an acknowledgement, or refused it
pub exchange_acked : {T E : Type 0} (r : Result T E) (office : SiteConfig) (h : List Entry) (e now : ExchangeView) → now.sites ≡ e.sites
    → OnOk r (KeepsPendings h e.pendings now.pendings) → OnErr r (now ≡ e) → IsExchangeOf office h e → IsExchangeOf office h now
exchange_acked (Ok x) office h e now sites taken same before = record
    { counted = sites ∙ before.counted; pending = λ peer. taken.pending peer (before.pending peer) }
exchange_acked (Err x) office h e now sites taken same before = subst (IsExchangeOf office h) (sym same) before
