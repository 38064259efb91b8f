-- What a history is asked: what is kept under a number, and which requests name an event. (Our own.)
use Rattle.std.specs.Prelude.{ℕ, Bool, false, List, Option, map, filter}
use Rattle.std.specs.Option.{option_map}
use Rattle.rights_lattice.specs.Cell.{same_event}
use Rattle.request_ledger.specs.declared.request.Request.{Request}
use Rattle.request_ledger.specs.declared.request.Request.TheVariants.{Announce, Release, Sell, Refund, Cede}
use Rattle.request_ledger.specs.declared.reply.Kept.{Kept}
use Rattle.book_core.specs.declared.entry.Entry.{Entry}
use Rattle.book_core.specs.History.{asked, kept}
use Rattle.history_keeper.specs.declared.lookup.Found.{Found}
use Rattle.history_keeper.specs.declared.lookup.Listed.{Listed}

-- the place and the reply of what is kept under a number
abbrev pub found_in : List Entry → ℕ → Option Found
found_in h number = option_map (λ k. record { place = k.place; reply = k.reply }) (kept h number)

-- the request names the event
abbrev pub names_event : List ℕ → Request → Bool
names_event name (Announce event) = same_event event name
names_event name (Release event amount) = same_event event name
names_event name (Sell event amount) = same_event event name
names_event name (Refund sale part) = false
names_event name (Cede event to amount) = same_event event name

abbrev pub listing : ℕ × Kept → Listed
listing a = record { place = a.1.place; number = a.0; request = a.1.request; reply = a.1.reply }

-- the requests that name an event, by place
abbrev pub listed_in : List Entry → List ℕ → List Listed
listed_in h name = map listing (filter (λ a. names_event name a.1.request) (asked h))
