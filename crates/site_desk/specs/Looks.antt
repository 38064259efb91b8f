-- What a look shows of an event, and why it shows nothing; and which requests name one. (Our own.)
use Rattle.std.specs.Prelude.{◌≡◌, Bool, true, false, ℕ, List, [], ◌∷◌, ◌++◌, Option, Some, None, take, slice_get, if◌then◌else◌}
use Rattle.local_rights.specs.OpenSeats.{view_in}
use Rattle.book_core.specs.declared.entry.Entry.{Entry}
use Rattle.book_core.specs.declared.entry.Entry.TheVariants.{Asked}
use Rattle.book_core.specs.Decision.{SiteConfig, own_left}
use Rattle.book_core.specs.History.{state_of}
use Rattle.history_keeper.specs.declared.lookup.Listed.{Listed}
use Rattle.history_keeper.specs.Lookups.{names_event}
use Rattle.site_desk.specs.declared.answer.Seen.{Seen}
use Rattle.site_desk.specs.declared.fault.LookFault.{LookFault}
use Rattle.site_desk.specs.declared.fault.LookFault.TheVariants as look_fault

-- why a look shows nothing, of a book that is closed or not and an event that is known or not
abbrev pub IsLookFault : Bool → Bool → LookFault → Type 0
IsLookFault closed known look_fault.Closed = closed ≡ true
IsLookFault closed known look_fault.Unknown = (closed ≡ false) × (known ≡ false)

-- what a look shows of an event, by the first entries of a history
pub record IsSeenAt (office : SiteConfig) (history : List Entry) (asked : List ℕ) (seen : Seen) : Type 0 where
  pub event : seen.event ≡ asked
  pub left : seen.left ≡ own_left office (take seen.at history) asked
  pub totals : seen.totals ≡ view_in (state_of (take seen.at history)).cells asked

-- the row of an entry at a place, where it is a request that names the event
abbrev pub row_of : ℕ → List ℕ → Option Entry → Option Listed
row_of place event (Some (Asked number request reply delta)) =
    if names_event event request then Some (record { place = place; number = number; request = request; reply = reply }) else None
row_of place event _ = None

abbrev pub row_at : List Entry → ℕ → List ℕ → Option Listed
row_at history place event = row_of place event (slice_get history place)

-- the rows with one more, if there is one
abbrev pub with_row : Option Listed → List Listed → List Listed
with_row (Some row) rows = rows ++ row ∷ []
with_row None rows = rows
