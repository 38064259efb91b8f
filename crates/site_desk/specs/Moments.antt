-- What the book under a desk's lock is at one moment, and what is answered by it then. (Our own.)
use Rattle.std.specs.Prelude.{◌≡◌, ℕ, ◌+◌, ◌≤◌, true, false, List, Vec, take, length, Option, Some, None, Result, Ok, Err, IfOk, if◌then◌else◌}
use Rattle.rights_lattice.specs.State.{AtOrBelow, knows}
use Rattle.request_ledger.specs.declared.request.Request.{Request}
use Rattle.book_core.specs.declared.entry.Entry.{Entry}
use Rattle.book_core.specs.BookView.{BookView}
use Rattle.book_core.specs.Decision.{SiteConfig, shortage, sites_of}
use Rattle.book_core.specs.History.{kept, names_known, state_of}
use Rattle.book_core.specs.Legal.{IsLegal}
use Rattle.history_keeper.specs.declared.lookup.Found.{Found}
use Rattle.history_keeper.specs.declared.lookup.Listed.{Listed}
use Rattle.history_keeper.specs.Lookups.{found_in, listed_in}
use Rattle.site_exchange.specs.declared.message.Message.{Message}
use Rattle.site_exchange.specs.declared.message.Message.TheVariants.{Delta, Ack}
use Rattle.site_exchange.specs.declared.message.TakeFault.{TakeFault}
use Rattle.site_exchange.specs.Exchange.{ack_for, next}
use Rattle.site_exchange.specs.Taking.{MayTake}
use Rattle.site_desk.specs.declared.answer.Answer.{Answer}
use Rattle.site_desk.specs.declared.answer.Seen.{Seen}
use Rattle.site_desk.specs.declared.answer.SiteShare.{SiteShare}
use Rattle.site_desk.specs.declared.answer.SiteStatus.{SiteStatus}
use Rattle.site_desk.specs.declared.answer.Taken.{Taken}
use Rattle.site_desk.specs.declared.fault.AskFault.{AskFault}
use Rattle.site_desk.specs.declared.fault.LookFault.{LookFault}
use Rattle.site_desk.specs.declared.fault.LookUpFault.{LookUpFault}
use Rattle.site_desk.specs.declared.fault.LookUpFault.TheVariants as look_up
use Rattle.site_desk.specs.declared.fault.NextFault.{NextFault}
use Rattle.site_desk.specs.declared.receipt.Receipt.{Receipt}
use Rattle.site_desk.specs.Calls.{AskAllCall, Keeping, answers_in}
use Rattle.site_desk.specs.Answers.{IsAnswer, IsAskFault, IsNextFault, IsTaken, IsTakeFault, is_peer}
use Rattle.site_desk.specs.Looks.{IsLookFault, IsSeenAt}
use Rattle.site_desk.specs.Finish.{StandsIn}
use Rattle.site_desk.specs.Shares.{shares_in}
use Rattle.site_desk.specs.SiteView.{SiteInStep, SiteView, decision_in, site_of, verdict_in}

-- the history begins with this one
abbrev pub GoesOnFrom : List Entry → List Entry → Type 0
GoesOnFrom began entries = take (length began) entries ≡ began

-- the book is of this site, counts as many sites as this history, and goes on from it
pub record IsLater (office : SiteConfig) (began : List Entry) (book : BookView) : Type 0 where
  pub same_office : book.office ≡ office
  pub same_sites : sites_of book.office book.history ≡ sites_of office began
  pub goes_on : GoesOnFrom began book.history

-- what a site is under a desk's lock, whenever the lock is free
pub record IsAtDesk {K : Type 0} (office : SiteConfig) (began : List Entry) (InStep : SiteView K → Type 0) (site : SiteView K) : Type 0 where
  pub later : IsLater office began site.book
  pub legal : IsLegal site.book.office site.book.history
  pub in_step : InStep site

-- it holds of some site that may stand there
pub record AtOneMoment {K : Type 0} (office : SiteConfig) (began : List Entry) (InStep : SiteView K → Type 0) (Holds : SiteView K → Type 0) : Type 0 where
  pub site : SiteView K
  pub at_desk : IsAtDesk office began InStep site
  pub holds : Holds site

-- what a count shows, by the ghost members of its trait: which count it is, its parts, and with which history and office it began
abbrev pub Opening : Type 0
Opening = record { name : ℕ; parts : ℕ; began : List Entry; office : SiteConfig }

-- the same of a site over such a keeper, at the desk of such a count
abbrev pub IsSiteAt : {K : Type 0} → Keeping K → Opening → SiteView K → Type 0
IsSiteAt k l = IsAtDesk l.office l.began (SiteInStep k)

abbrev pub SomeSiteAt : {K : Type 0} → Keeping K → Opening → (SiteView K → Type 0) → Type 0
SomeSiteAt k l = AtOneMoment l.office l.began (SiteInStep k)

-- a site that takes nothing more
abbrev pub IsClosed : {K : Type 0} → SiteView K → Type 0
IsClosed site = site.closed ≡ true

-- a site that may stand there became another one that may, by just these requests
pub record AsksAtDesk {K Z : Type 0} (k : Keeping K) (office : SiteConfig) (began : List Entry) (InStep : SiteView K → Type 0) (requests : List (ℕ × Request))
    (result : Result (Vec (Result (Answer × Receipt) AskFault) Z) AskFault) : Type 0 where
  pub old : SiteView K
  pub new : SiteView K
  pub began_at : IsAtDesk office began InStep old
  pub ended_at : IsAtDesk office began InStep new
  pub asked : AskAllCall k old new requests (answers_in result)

-- the history has all of the delta that the message brings, if it brings one
abbrev pub HasDelta : Message → List Entry → Type 0
HasDelta (Delta by to upto delta) history = AtOrBelow delta (state_of history)
HasDelta (Ack by to upto) history = Unit {0}

-- the site is open, and its history has that delta
abbrev pub HoldsDelta : {K : Type 0} → Message → SiteView K → Type 0
HoldsDelta message site = (site.closed ≡ false) × HasDelta message site.book.history

-- the site is open, and what the receipt names stands in its history
abbrev pub HoldsReceipt : {K : Type 0} → Receipt → SiteView K → Type 0
HoldsReceipt receipt site = (site.closed ≡ false) × StandsIn site.book.history receipt

-- A site answers this to a request, a look, a look-up, a message, or a peer that asks for its message: what is due where it is open, or the
-- reason why it gives nothing. What its keeper tells behind the call is not said: 1, as behind an append that failed, stands in its
-- place; of the faults `Store` alone reads it.

abbrev pub Replies : {K : Type 0} → (K → ℕ) → ℕ → Request → Result (Answer × Receipt) AskFault → SiteView K → Type 0
Replies failed number request (Ok given) site = (site.closed ≡ false) × IsAnswer (decision_in site.book number request) (length site.book.history) given.0
Replies failed number request (Err fault) site = IsAskFault site.closed (decision_in site.book number request) (failed site.keeper) 1 fault

-- what the receipt names, if there is one, stands in some open site that may be there
abbrev pub StandsGiven : {K : Type 0} → SiteConfig → List Entry → (SiteView K → Type 0) → Result (Answer × Receipt) AskFault → Type 0
StandsGiven office began InStep given = IfOk given (λ g. AtOneMoment office began InStep (HoldsReceipt g.1))

abbrev pub Looks : {K : Type 0} → List ℕ → Result Seen LookFault → SiteView K → Type 0
Looks event (Ok seen) site = (site.closed ≡ false) × (knows (state_of site.book.history).names event ≡ true) × (seen.at ≡ length site.book.history)
    × IsSeenAt site.book.office site.book.history event seen
Looks event (Err fault) site = IsLookFault site.closed (knows (state_of site.book.history).names event) fault

abbrev pub Finds : {K : Type 0} → ℕ → Result (Option Found) LookUpFault → SiteView K → Type 0
Finds number (Ok found) site = (site.closed ≡ false) × (found ≡ found_in site.book.history number)
Finds number (Err fault) site = (site.closed ≡ true) × (fault ≡ look_up.Closed)

abbrev pub Lists : {K Z : Type 0} → List ℕ → Result (Vec Listed Z) LookUpFault → SiteView K → Type 0
Lists event (Ok listed) site = (site.closed ≡ false) × (listed.items ≡ listed_in site.book.history event)
Lists event (Err look_up.Closed) site = site.closed ≡ true
Lists event (Err look_up.Memory) site = site.closed ≡ false

abbrev pub Events : {K Z : Type 0} → Result (Vec (List ℕ) Z) LookUpFault → SiteView K → Type 0
Events (Ok events) site = (site.closed ≡ false) × (events.items ≡ names_known site.book.history)
Events (Err look_up.Closed) site = site.closed ≡ true
Events (Err look_up.Memory) site = site.closed ≡ false

-- no shares of an event that is not known
abbrev pub Shares : {K Z : Type 0} → List ℕ → Result (Option (Vec SiteShare Z)) LookUpFault → SiteView K → Type 0
Shares event (Ok None) site = (site.closed ≡ false) × (knows (state_of site.book.history).names event ≡ false)
Shares event (Ok (Some rows)) site = (site.closed ≡ false) × (knows (state_of site.book.history).names event ≡ true) × (rows.items ≡ shares_in site.book event)
Shares event (Err look_up.Closed) site = site.closed ≡ true
Shares event (Err look_up.Memory) site = site.closed ≡ false

-- what is left where an open site would refuse the request, under a new number, for want of seats
abbrev pub IsShortage : {K : Type 0} → ℕ → Request → Option ℕ → SiteView K → Type 0
IsShortage number request left site = left ≡ (if site.closed then None else shortage site.book.office site.book.history number request)

-- an open site has no reply under the number, and of its limit no more than so many entries are free
pub record IsReserved {K : Type 0} (number reserve : ℕ) (site : SiteView K) : Type 0 where
  pub is_open : site.closed ≡ false
  pub is_new : kept site.book.history number ≡ None
  pub is_used : site.book.office.limit ≤ length site.book.history + reserve

abbrev pub Takes : {K : Type 0} → (K → ℕ) → Message → Result Taken TakeFault → SiteView K → Type 0
Takes failed message (Ok taken) site = (site.closed ≡ false) × IsTaken (verdict_in site.book message) (ack_for message) taken
Takes failed message (Err fault) site = IsTakeFault site.closed (verdict_in site.book message)
    (MayTake (verdict_in site.book message) (site_of site) message) (failed site.keeper) 1 fault

abbrev pub Sends : {K : Type 0} → ℕ → Result (Option Message) NextFault → SiteView K → Type 0
Sends to (Ok message) site = (site.closed ≡ false) × (is_peer site.book.office site.book.history to ≡ true)
    × (message ≡ next site.book.office.me (site_of site) to)
Sends to (Err fault) site = IsNextFault site.closed (is_peer site.book.office site.book.history to) (next site.book.office.me (site_of site) to) fault

-- what the site is, counts and holds, closed or not
pub record IsSiteStatus {K : Type 0} (site_status : SiteStatus) (site : SiteView K) : Type 0 where
  pub me : site_status.me ≡ site.book.office.me
  pub sites : site_status.sites ≡ sites_of site.book.office site.book.history
  pub entries : site_status.entries ≡ length site.book.history
  pub limit : site_status.limit ≡ site.book.office.limit
