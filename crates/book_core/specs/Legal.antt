-- Legal histories. (That a site alone changes its row: SRDS 2015; the order: RR-7506; the rest: our own.)
use Rattle.std.specs.Prelude.{◌≡◌, ℕ, ◌<◌, ◌≤◌, List, length, take, slice_get, Some, None}
use Rattle.rights_lattice.specs.Limits.{most_sites}
use Rattle.rights_lattice.specs.Cells.{RowAtOrBelow}
use Rattle.rights_lattice.specs.RightsView.{IsWithin}
use Rattle.rights_lattice.specs.State.{State, AtOrBelow}
use Rattle.request_ledger.specs.declared.request.Request.{Request}
use Rattle.request_ledger.specs.declared.reply.Reply.{Reply}
use Rattle.book_core.specs.declared.entry.Entry.{Entry}
use Rattle.book_core.specs.declared.entry.Entry.TheVariants.{Asked, Joined, Grown}
use Rattle.book_core.specs.Decision.{SiteConfig, delta_for, office_after, reply_to, sites_of}
use Rattle.book_core.specs.History.{state_of, kept}
use Rattle.book_core.specs.Joining.{IsPeer}

-- a new number within the limit, with the reply and the delta that are due
pub record IsNextAsked (office : SiteConfig) (h : List Entry) (number : ℕ) (request : Request) (reply : Reply) (delta : State) : Type 0 where
  pub room : length h < office.limit
  pub new : kept h number ≡ None
  pub answer : reply ≡ reply_to office h request
  pub change : delta ≡ delta_for office h request reply

-- a peer's delta within the limit, of the sites counted so far, with nothing new on the own row and something new elsewhere
pub record IsNextJoined (office : SiteConfig) (h : List Entry) (peer : ℕ) (delta : State) : Type 0 where
  pub room : length h < office.limit
  pub from_peer : IsPeer (office_after office h) peer
  pub sites : IsWithin (sites_of office h) delta.cells
  pub own_row : RowAtOrBelow office.me delta.cells (state_of h).cells
  pub news : AtOrBelow delta (state_of h) → ⊥

-- more sites than before, and no more than there can be, within the limit
pub record IsNextGrown (office : SiteConfig) (h : List Entry) (sites : ℕ) : Type 0 where
  pub room : length h < office.limit
  pub more : sites_of office h < sites
  pub few : sites ≤ most_sites

-- the entry is legal after this history
abbrev pub IsNext : SiteConfig → List Entry → Entry → Type 0
IsNext office h (Asked number request reply delta) = IsNextAsked office h number request reply delta
IsNext office h (Joined peer delta) = IsNextJoined office h peer delta
IsNext office h (Grown sites) = IsNextGrown office h sites

-- each entry is legal after those before it
abbrev pub IsLegal : SiteConfig → List Entry → Type 0
IsLegal office h = (k : ℕ) (entry : Entry) → slice_get h k ≡ Some entry → IsNext office (take k h) entry
