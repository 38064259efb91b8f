-- What a desk's sessions were given, beside what its history holds. (Our own.)
use Rattle.std.specs.Prelude.{◌≡◌, ◌≢◌, ℕ, ◌≤◌, true, List, All, take, length, Result, Ok, Err, Some, slice_get, IfOk}
use Rattle.rights_lattice.specs.State.{State, knows}
use Rattle.book_core.specs.declared.entry.Entry.{Entry}
use Rattle.book_core.specs.declared.entry.Entry.TheVariants.{Asked}
use Rattle.book_core.specs.Decision.{SiteConfig}
use Rattle.book_core.specs.History.{state_of}
use Rattle.request_ledger.specs.declared.request.Request.{Request}
use Rattle.site_desk.specs.declared.answer.Answer.{Answer}
use Rattle.site_desk.specs.declared.answer.Seen.{Seen}
use Rattle.site_desk.specs.declared.fault.AskFault.{AskFault}
use Rattle.site_desk.specs.declared.finish.FinishFault.{FinishFault}
use Rattle.site_desk.specs.declared.finish.FinishFault.TheVariants.{SeatsOut, Stranger, StrangerSeen}
use Rattle.site_desk.specs.declared.receipt.Receipt.{Receipt}
use Rattle.site_desk.specs.Looks.{IsSeenAt}
use Rattle.site_desk.specs.SiteView.{SiteView}

-- the element at n is the first of which the fact does not hold
abbrev pub FirstNot : {X : Type 0} → (X → Type 0) → List X → ℕ → Type 0
FirstNot {X} P xs n = All P (take n xs) × ((x : X) × (slice_get xs n ≡ Some x) × ¬ P x)

-- the receipt of an answer to a request under its number
abbrev pub receipt_of : ℕ → Request → Answer → Receipt
receipt_of number request answer = record { number = number; request = request; reply = answer.reply; place = answer.place }

-- what is given for a request under its number, if it is answered, has the receipt of the answer
abbrev pub HasItsReceipt : ℕ × Request → Result (Answer × Receipt) AskFault → Type 0
HasItsReceipt asked given = IfOk given (λ g. g.1 ≡ receipt_of asked.0 asked.1 g.0)

-- the entry at the receipt's place is its request, under its number and with its reply
abbrev pub StandsIn : List Entry → Receipt → Type 0
StandsIn history receipt = (delta : State) × (slice_get history receipt.place ≡ Some (Asked receipt.number receipt.request receipt.reply delta))

-- the history has the first entries that a look names, they name its event, and the look shows what they say of it
pub record WasSeen (office : SiteConfig) (history : List Entry) (seen : Seen) : Type 0 where
  pub within : seen.at ≤ length history
  pub named : knows (state_of (take seen.at history)).names seen.event ≡ true
  pub shown : IsSeenAt office history seen.event seen

-- the first fault, where so many requests were newly entered and the shares add up to so many
abbrev pub FindsFirst : SiteConfig → List Entry → ℕ → ℕ → List Receipt → List Seen → FinishFault → Type 0
FindsFirst office history total shares receipts looks SeatsOut = shares ≢ total
FindsFirst office history total shares receipts looks (Stranger k) = (shares ≡ total) × FirstNot (StandsIn history) receipts k
FindsFirst office history total shares receipts looks (StrangerSeen k) = (shares ≡ total) × All (StandsIn history) receipts
    × FirstNot (WasSeen office history) looks k

-- the book that comes back, with a fault or without one
abbrev pub handed_back : {K : Type 0} → Result (SiteView K) (SiteView K × FinishFault) → SiteView K
handed_back (Ok book) = book
handed_back (Err refused) = refused.0
