-- Sites, all messages ever sent, and the steps that change them. Each step changes one site as the site's own
-- definitions say, or puts a message behind those that were sent; a growth adds sites too. (Our own.)
use Rattle.std.specs.Prelude.{◌≡◌, ℕ, zero, suc, ◌-◌, ◌≤◌, ◌<◌, Bool, true, not, ◌&&◌, ◌==◌, if◌then◌else◌, IsTrue, nat_lt, List, [], ◌∷◌, ◌++◌, length, take, set, replicate, get_or, slice_get}
use Rattle.std.specs.Prelude.{Option, Some, None}
use Rattle.rights_lattice.specs.Sums.{max_sites}
use Rattle.rights_lattice.specs.State.{State, Names, no_names, join_names, names_in_order}
use Rattle.local_rights.specs.declared.seat_totals.Totals.{Totals}
use Rattle.request_ledger.specs.declared.request.Request.{Request}
use Rattle.book_core.specs.declared.entry.Entry.{Entry}
use Rattle.book_core.specs.declared.entry.Entry.TheVariants.{Asked, Joined, Grown}
use Rattle.site_exchange.specs.declared.message.Message.{Message}
use Rattle.world_steps.specs.declared.step.Input.{Input}
use Rattle.world_steps.specs.declared.step.Input.TheVariants as input
use Rattle.world_steps.specs.declared.step.Step.{Step}
use Rattle.world_steps.specs.declared.step.Step.TheVariants.{Ask, Send, Deliver, Restart, Stop, Grow}
use Rattle.book_core.specs.History.{state_of}
use Rattle.book_core.specs.Decision.{SiteConfig, entry_of_ask, sites_of}
use Rattle.book_core.specs.Growing.{entry_of_grow}
use Rattle.book_core.specs.Operations.{Operation, operations_below, released, sold, refunded}
use Rattle.site_exchange.specs.Exchange.{SitePart, zeros, Verdict, next, receiver, verdict, entry_of_take}
use Rattle.site_exchange.specs.Taking.{with_entry, site_after, ack_due, restarted, stopped_with, with_given}

-- the greatest length of each site's history, the count of sites with which it began, the sites, and all messages
-- ever sent
pub record World : Type 0 where
  pub limits : List ℕ
  pub counts : List ℕ
  pub sites : List SitePart
  pub sent : List Message

-- a site before any step
abbrev pub no_site : SitePart
no_site = record { history = []; acked = zeros }

-- sites with these limits, before any step, each counting so many
abbrev pub begun : List ℕ → List ℕ → World
begun limits counts = record { limits = limits; counts = counts; sites = replicate (length limits) no_site; sent = [] }

-- each site has a limit and a count, counts itself, and no more sites than there are
pub record AreBegun (limits counts : List ℕ) : Type 0 where
  pub each : length counts ≡ length limits
  pub own : (i : ℕ) → i < length limits → i < get_or counts i 0
  pub few : (i : ℕ) → get_or counts i 0 ≤ length limits

-- sites with these limits, before any step: each counts all of them
abbrev pub opened : List ℕ → World
opened limits = begun limits (replicate (length limits) (length limits))

-- n sites with the same limit, before any step
abbrev pub opening : ℕ → ℕ → World
opening n limit = opened (replicate n limit)

abbrev pub count : World → ℕ
count w = length w.sites

abbrev pub site_numbered : World → ℕ → SitePart
site_numbered w i = get_or w.sites i no_site

abbrev pub history_at : World → ℕ → List Entry
history_at w i = (site_numbered w i).history

abbrev pub office_at : World → ℕ → SiteConfig
office_at w i = record { me = i; sites = get_or w.counts i 0; limit = get_or w.limits i 0 }

-- how many sites a site counts so far
abbrev pub count_at : World → ℕ → ℕ
count_at w i = sites_of (office_at w i) (history_at w i)

-- the world with this site in the place of the one that was there
abbrev pub at_site : World → ℕ → SitePart → World
at_site w i site = record w { sites = set w.sites i site }

-- with the sites that it lacks of so many: each empty, with this limit, and counting so many
abbrev pub widened : ℕ → ℕ → World → World
widened sites limit w =
    let lacking = sites - count w in
    record {
      limits = w.limits ++ replicate lacking limit;
      counts = w.counts ++ replicate lacking sites;
      sites = w.sites ++ replicate lacking no_site;
      sent = w.sent;
    }

-- with the sites that an entry of site i adds: those that a growth counts, with the limit of the site that grew
abbrev pub widened_by : Option Entry → ℕ → World → World
widened_by None i w = w
widened_by (Some (Asked number request reply delta)) i w = w
widened_by (Some (Joined peer delta)) i w = w
widened_by (Some (Grown sites)) i w = widened sites (get_or w.limits i 0) w

-- site i got this entry, if any, and became this site
abbrev pub entered : Option Entry → ℕ → SitePart → World → World
entered entry i site w = at_site (widened_by entry i w) i site

abbrev pub sends : Option Message → World → World
sends message w = record w { sent = with_given w.sent message }

abbrev pub asks : World → ℕ → ℕ → Request → Option Entry
asks w i number request = entry_of_ask (office_at w i) (history_at w i) number request

abbrev pub grows : World → ℕ → ℕ → Option Entry
grows w i sites = entry_of_grow (office_at w i) (history_at w i) sites

abbrev pub takes : World → ℕ → Message → Option Entry
takes w i message = entry_of_take (office_at w i) (history_at w i) message

abbrev pub judged : World → Message → Verdict
judged w message = verdict (office_at w (receiver message)) (history_at w (receiver message)) message

-- its receiver took the message with this verdict
abbrev pub taken_with : Verdict → Message → World → World
taken_with v message w =
    sends (ack_due v message) (at_site w (receiver message) (site_after v message (site_numbered w (receiver message))))

abbrev pub delivered : World → Option Message → World
delivered w None = w
delivered w (Some message) = taken_with (judged w message) message w

abbrev pub entry_if_sent : SiteConfig → List Entry → Option Message → Option Entry
entry_if_sent office h None = None
entry_if_sent office h (Some message) = entry_of_take office h message

-- the entry that an input would add, if any
abbrev pub entry_of_input : SiteConfig → List Entry → List Message → Input → Option Entry
entry_of_input office h sent (input.Request number request) = entry_of_ask office h number request
entry_of_input office h sent (input.Take index) = entry_if_sent office h (slice_get sent index)
entry_of_input office h sent (input.Grow sites) = entry_of_grow office h sites

-- the input is a growth
abbrev pub IsGrowth : Input → Type 0
IsGrowth (input.Request number request) = ⊥
IsGrowth (input.Take index) = ⊥
IsGrowth (input.Grow sites) = Unit {0}

-- the entry that a stop leaves, if any
abbrev pub entry_if_stored : Bool → Option Entry → Option Entry
entry_if_stored stored entry = if stored then entry else None

-- the message of the input, if it is one, was sent
abbrev pub is_there : List Message → Input → Bool
is_there sent (input.Take index) = nat_lt index (length sent)
is_there sent (input.Request number request) = true
is_there sent (input.Grow sites) = true

-- the input is a request, or a message that was sent: what a site that stops may have in hand
pub record IsInHand (sent : List Message) (in_hand : Input) : Type 0 where
  pub there : IsTrue (is_there sent in_hand)
  pub kind : IsGrowth in_hand → ⊥

-- site i may send to site j, which is another that it counts
abbrev pub are_peers : World → ℕ → ℕ → Bool
are_peers w i j = nat_lt i (count w) && nat_lt j (count_at w i) && not (i == j)

-- site i stopped in the midst of an input that adds this entry, if any
abbrev pub stopped_in : World → ℕ → Option Entry → Bool → World
stopped_in w i entry stored = entered (entry_if_stored stored entry) i (stopped_with entry stored (site_numbered w i)) w

abbrev pub after : World → Step → World
after w (Ask i number request) =
    if nat_lt i (count w) then at_site w i (with_entry (asks w i number request) (site_numbered w i)) else w
after w (Send i j) =
    if are_peers w i j then sends (next i (site_numbered w i) j) w else w
after w (Deliver index) = delivered w (slice_get w.sent index)
after w (Restart i) = if nat_lt i (count w) then at_site w i (restarted (site_numbered w i)) else w
after w (Stop i in_hand stored) =
    if nat_lt i (count w) && is_there w.sent in_hand
    then stopped_in w i (entry_of_input (office_at w i) (history_at w i) w.sent in_hand) stored
    else w
after w (Grow i sites) =
    if nat_lt i (count w) then entered (grows w i sites) i (with_entry (grows w i sites) (site_numbered w i)) w else w

-- a whole list of steps
abbrev pub run : List Step → World → World
run [] w = w
run (step ∷ steps) w = run steps (after w step)

-- the accepted requests of all sites
abbrev pub all_operations : World → List Operation
all_operations w = operations_below (count w) (history_at w)

-- what the sites below n with these histories released, sold and took back of an event
abbrev pub totals_below : ℕ → (ℕ → List Entry) → List ℕ → Totals
totals_below n h event =
    record { released = released event (operations_below n h); sold = sold event (operations_below n h); refunded = refunded event (operations_below n h) }

-- the names that the sites below n with these histories know
abbrev pub known_below : ℕ → (ℕ → List Entry) → Names
known_below zero h = no_names
known_below (suc n) h = join_names (known_below n h) (state_of (h n)).names

-- the same, rising, each once
abbrev pub events_below : ℕ → (ℕ → List Entry) → List (List ℕ)
events_below n h = names_in_order (known_below n h)

-- what all sites released, sold and took back of an event
abbrev pub totals_of : World → List ℕ → Totals
totals_of w = totals_below (count w) (history_at w)

-- the names that a site knows, rising, each once
abbrev pub events_of : World → List (List ℕ)
events_of w = events_below (count w) (history_at w)

-- the world that these steps lead to, of sites with these limits
abbrev pub reached : List ℕ → List Step → World
reached limits steps = run steps (opened limits)

-- the state that the first a entries make
abbrev pub state_at : List Entry → ℕ → State
state_at h a = state_of (take a h)

-- some list of steps leads to this world, of sites that have numbers
abbrev pub IsReached : World → Type 0
IsReached w = (limits : List ℕ) × (few : length limits ≤ max_sites) × (steps : List Step) × (w ≡ reached limits steps)
