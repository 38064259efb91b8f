-- How many sites a site of the program counts, as an input is entered that is no growth.
use Rattle.std.proofs.Common.{◌≡◌, List, Option, Some, None, refl}
use Rattle.std.specs.Prelude.{slice_get}
use Rattle.book_core.specs.declared.entry.Entry.{Entry}
use Rattle.book_core.specs.Decision.{SiteConfig, sites_of}
use Rattle.site_exchange.specs.declared.message.Message.{Message}
use Rattle.site_exchange.specs.Taking.{extended}
use Rattle.site_exchange.proofs.Counts.{count_asked, count_taken}
use Rattle.world_steps.specs.declared.step.Input.{Input}
use Rattle.world_steps.specs.declared.step.Input.TheVariants as input
use Rattle.world_steps.specs.World.{IsGrowth, entry_if_sent, entry_of_input}

count_if_sent : (office : SiteConfig) (h : List Entry) (m : Option Message) → sites_of office (extended (entry_if_sent office h m) h) ≡ sites_of office h
count_if_sent office h None = refl
count_if_sent office h (Some m) = count_taken office h m

pub count_of_input : (office : SiteConfig) (h : List Entry) (sent : List Message) (i : Input) → (IsGrowth i → ⊥)
    → sites_of office (extended (entry_of_input office h sent i) h) ≡ sites_of office h
count_of_input office h sent (input.Request number request) kind = count_asked office h number request
count_of_input office h sent (input.Take index) kind = count_if_sent office h (slice_get sent index)
count_of_input office h sent (input.Grow sites) kind = absurd (kind tt)
