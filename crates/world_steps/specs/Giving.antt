-- What a site gives is no more than it has. (Our own.)
use Rattle.std.specs.Prelude.{◌≡◌, ℕ, Some}
use Rattle.rights_lattice.specs.State.{State, AtOrBelow}
use Rattle.book_core.specs.History.{state_of}
use Rattle.site_exchange.specs.declared.message.Message.TheVariants.{Delta}
use Rattle.site_exchange.specs.Exchange.{SitePart, next}

-- The delta that is due to a peer is at or below the state of the site that gives it.
abbrev pub GivesWhatItHas : Type 0
GivesWhatItHas = (me to : ℕ) (site : SitePart) (by dest upto : ℕ) (delta : State) → next me site to ≡ Some (Delta by dest upto delta)
    → AtOrBelow delta (state_of site.history)
