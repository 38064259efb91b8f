-- Runs of the books of sites, call by call. (Our own.)
use Rattle.std.specs.Prelude.{◌≡◌, ℕ, ◌<◌, ◌≤◌, Bool, true, false, List, [], ◌∷◌, if◌then◌else◌, length, map, set, slice_get, Option, Some, None, Result, Ok, Err, IfOk, IfErr}
use Rattle.rights_lattice.specs.Sums.{max_sites}
use Rattle.request_ledger.specs.declared.request.Request.{Request}
use Rattle.book_core.specs.declared.entry.Entry.{Entry}
use Rattle.book_core.specs.declared.plan.GrowFault.{GrowFault}
use Rattle.book_core.specs.BookView.{BookView}
use Rattle.book_core.specs.Books.{AreNotOversold}
use Rattle.site_exchange.specs.declared.message.Message.{Message}
use Rattle.site_exchange.specs.declared.message.TakeFault.{TakeFault}
use Rattle.site_exchange.specs.declared.message.TakeFault.TheVariants as take
use Rattle.site_exchange.specs.Exchange.{entry_of_take, next, zeros}
use Rattle.site_exchange.specs.Taking.{extended, with_given}
use Rattle.history_keeper.specs.Keeping.{LeavesOnly}
use Rattle.site_desk.specs.declared.answer.Answer.{Answer}
use Rattle.site_desk.specs.declared.answer.Taken.{Taken}
use Rattle.site_desk.specs.declared.fault.AskFault.{AskFault}
use Rattle.site_desk.specs.declared.fault.NextFault.{NextFault}
use Rattle.site_desk.specs.Answers.{IsNextFault, ack_of, is_peer}
use Rattle.site_desk.specs.Batch.{AreAnswered}
use Rattle.site_desk.specs.Calls.{AskAllCall, AskCall, GrowCall, Keeping, TakeCall}
use Rattle.site_desk.specs.SiteView.{SiteView, entry_in, growth_in, site_of}

-- a call of a site's book with its answer, or a stop and a start from what it left: between two calls, or in the midst of one, whose answer
-- says nothing then
pub data Call : Type 0 where
  Asks : (number : ℕ) → (request : Request) → (answer : Result Answer AskFault) → Call
  AsksAll : (requests : List (ℕ × Request)) → (result : Result (List (Result Answer AskFault)) AskFault) → Call
  Takes : (message : Message) → (answer : Result Taken TakeFault) → Call
  Grows : (sites : ℕ) → (answer : Result (Unit {0}) GrowFault) → Call
  Gives : (to : ℕ) → (answer : Result (Option Message) NextFault) → Call
  Restarts : Call
  Crashes : (in_hand : Call) → (stored : Bool) → Call

-- The same site, started from this history.
pub record Starts {K : Type 0} (k : Keeping K) (old new : SiteView K) (h : List Entry) : Type 0 where
  pub history : new.book.history ≡ h
  pub office : new.book.office ≡ old.book.office
  pub acked : new.acked ≡ zeros
  pub opened : new.closed ≡ false
  pub rests : k.is_trusted new.keeper → LeavesOnly new.book.history (k.may_leave new.keeper)

-- It stopped between its calls, or after its store failed, and started from what its trusted records may leave.
pub record Restarted {K : Type 0} (k : Keeping K) (old new : SiteView K) : Type 0 where
  pub trusted : k.is_trusted old.keeper
  pub left : k.may_leave old.keeper (Some new.book.history)
  pub starts : Starts k old new new.book.history

-- one of the messages
abbrev pub IsOneOf : List Message → Message → Type 0
IsOneOf messages message = (index : ℕ) × (slice_get messages index ≡ Some message)

-- the one entry that a call adds, if any; what several requests add their answers say
abbrev pub adds : Call → BookView → Option Entry
adds (Asks number request answer) book = entry_in book number request
adds (Takes message answer) book = entry_of_take book.office book.history message
adds (Grows sites answer) book = growth_in book sites
adds _ book = None

-- the message of the call, if it is one, is of these
abbrev pub IsGenuine : List Message → Call → Type 0
IsGenuine given (Takes message answer) = IsOneOf given message
IsGenuine given _ = Unit {0}

-- the history of a site that stopped in the midst of the call, and stored its entry or did not
abbrev pub history_left : BookView → Call → Bool → List Entry
history_left book in_hand stored = extended (if stored then adds in_hand book else None) book.history

-- that history is this one; of several requests that were stored, it is one that answers to each of them make of the one before
abbrev pub IsLeft : BookView → Call → Bool → List Entry → Type 0
IsLeft book (AsksAll requests result) true left = (answers : List (Result Answer AskFault)) × AreAnswered book.office book.history requests answers left
IsLeft book in_hand stored left = left ≡ history_left book in_hand stored

-- what is due to a peer is given, or why not is told; nothing changes
pub record GiveCall {K : Type 0} (old new : SiteView K) (to : ℕ) (answer : Result (Option Message) NextFault) : Type 0 where
  pub same : new ≡ old
  pub due : IfOk answer (λ message. (is_peer old.book.office old.book.history to ≡ true) × (message ≡ next old.book.office.me (site_of old) to))
  pub fault : IfErr answer (IsNextFault old.closed (is_peer old.book.office old.book.history to) (next old.book.office.me (site_of old) to))

-- the message was taken, or it was being stored when the store failed; what was refused need be no message of a site
abbrev pub WasTried : Result Taken TakeFault → Type 0
WasTried (Ok taken) = Unit {0}
WasTried (Err take.Store) = Unit {0}
WasTried (Err fault) = ⊥

-- what a call makes of a site, where these messages were given before it
abbrev pub Happens : {K : Type 0} → Keeping K → List Message → SiteView K → Call → SiteView K → Type 0
Happens k given old (Asks number request answer) new = AskCall k old new number request answer
Happens k given old (AsksAll requests result) new = AskAllCall k old new requests result
Happens k given old (Takes message answer) new = (WasTried answer → IsOneOf given message) × TakeCall k old new message answer
Happens k given old (Grows sites answer) new = GrowCall k old new sites answer
Happens k given old (Gives to answer) new = GiveCall old new to answer
Happens k given old Restarts new = Restarted k old new
Happens k given old (Crashes in_hand stored) new = IsGenuine given in_hand × IsLeft old.book in_hand stored new.book.history × Starts k old new new.book.history

-- the message that an answer gives, if any
abbrev pub given_by : Call → Option Message
given_by (Takes message (Ok taken)) = ack_of taken
given_by (Gives to (Ok message)) = message
given_by _ = None

-- a call at a site, and the site behind it
pub record CallAt (K : Type 0) : Type 0 where
  pub site : ℕ
  pub call : Call
  pub after : SiteView K

-- the sites, each at its place, and all messages that they gave
pub record Sites (K : Type 0) : Type 0 where
  pub books : List (SiteView K)
  pub given : List Message

abbrev pub moved : {K : Type 0} → Sites K → CallAt K → Sites K
moved s c = record { books = set s.books c.site c.after; given = with_given s.given (given_by c.call) }

-- The calls are made one after the other: each finds its site as the one before left it, and does to it what may happen.
abbrev pub RunsBy : {K : Type 0} → (List Message → SiteView K → Call → SiteView K → Type 0) → List (CallAt K) → Sites K → Sites K → Type 0
RunsBy May [] s end = end ≡ s
RunsBy {K} May (c ∷ calls) s end = (old : SiteView K) × (slice_get s.books c.site ≡ Some old) × May s.given old c.call c.after
    × RunsBy May calls (moved s c) end

abbrev pub Runs : {K : Type 0} → Keeping K → List (CallAt K) → Sites K → Sites K → Type 0
Runs k calls s end = RunsBy (Happens k) calls s end

-- a site before any call
pub record IsNew {K : Type 0} (k : Keeping K) (i : ℕ) (site : SiteView K) : Type 0 where
  pub me : site.book.office.me ≡ i
  pub own : i < site.book.office.sites
  pub few : site.book.office.sites ≤ max_sites
  pub history : site.book.history ≡ []
  pub acked : site.acked ≡ zeros
  pub opened : site.closed ≡ false
  pub rests : k.is_trusted site.keeper → LeavesOnly site.book.history (k.may_leave site.keeper)

pub record AreNew {K : Type 0} (k : Keeping K) (s : Sites K) : Type 0 where
  pub few : length s.books ≤ max_sites
  pub each : (i : ℕ) (site : SiteView K) → slice_get s.books i ≡ Some site → IsNew k i site
  pub none : s.given ≡ []

abbrev pub books_in : {K : Type 0} → Sites K → List BookView
books_in s = map (λ site. site.book) s.books

-- What the books of the sites sold and did not take back never exceeds what they released, and no more is given back than was sold.
abbrev pub NotOversold : {K : Type 0} → Sites K → Type 0
NotOversold s = AreNotOversold (books_in s)

-- At no moment of any run are more outstanding: each beginning of a run is a run.
abbrev pub BooksNeverOversold : {K : Type 0} → Keeping K → Type 0
BooksNeverOversold {K} k = (calls : List (CallAt K)) (begin end : Sites K) → AreNew k begin → Runs k calls begin end → NotOversold end

-- some run leads to these sites
abbrev pub IsRun : {K : Type 0} → Keeping K → Sites K → Type 0
IsRun {K} k s = (begin : Sites K) × AreNew k begin × (calls : List (CallAt K)) × Runs k calls begin s

-- a call at one of the sites leads from these to those
abbrev pub Moves : {K : Type 0} → Keeping K → Sites K → ℕ → Call → Sites K → Type 0
Moves {K} k s i call now = (old new : SiteView K) × (slice_get s.books i ≡ Some old) × Happens k s.given old call new
    × (now ≡ moved s (record { site = i; call = call; after = new }))
