-- The code of a world's view. (Our own.)
use Rattle.std.specs.Prelude.{ℕ, List, refl}
use Rattle.std.specs.Coded.{Coded, code_by, coded_ℕ, coded_list, coded×}
use Rattle.book_core.specs.declared.entry.Entry.{Entry}
use Rattle.book_core.specs.BookCode.{coded_entry}
use Rattle.site_exchange.specs.contracts.message.Message as message
use Rattle.site_exchange.specs.declared.message.Message.{Message}
use Rattle.site_exchange.specs.Exchange.{SitePart}
use Rattle.world_steps.specs.World.{World}

abbrev pub coded_site : Coded SitePart
coded_site = code_by (List Entry × List ℕ) (coded× (coded_list coded_entry) (coded_list coded_ℕ)) (λ s. (s.history, s.acked))
    (λ p. record { history = p.0; acked = p.1 }) (λ _. refl)

abbrev pub coded_world : Coded World
coded_world =
    code_by (((List ℕ × List ℕ) × List SitePart) × List Message)
    (coded× (coded× (coded× (coded_list coded_ℕ) (coded_list coded_ℕ)) (coded_list coded_site)) (coded_list message.the_row.coded))
    (λ w. (((w.limits, w.counts), w.sites), w.sent)) (λ p. record { limits = p.0.0.0; counts = p.0.0.1; sites = p.0.1; sent = p.1 }) (λ _. refl)
