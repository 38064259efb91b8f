-- How a seat at a desk answers the lines of a session, and what it was given. (Our own.)
use Rattle.std.specs.Prelude.{◌≡◌, ◌⊎◌, ⊤, ℕ, ◌+◌, ◌≤◌, List, [], ◌∷◌, ◌++◌, length, All, true, Ok, Err}
use Rattle.request_ledger.specs.declared.request.Request.{Request}
use Rattle.book_core.specs.declared.entry.Entry.{Entry}
use Rattle.book_core.specs.Decision.{SiteConfig}
use Rattle.site_desk.specs.declared.answer.Seen.{Seen}
use Rattle.site_desk.specs.declared.fault.AskFault.{AskFault}
use Rattle.site_desk.specs.declared.fault.AskFault.TheVariants as ask
use Rattle.site_desk.specs.declared.fault.LookFault.{LookFault}
use Rattle.site_desk.specs.declared.receipt.Receipt.{Receipt}
use Rattle.site_desk.specs.Calls.{Keeping}
use Rattle.site_desk.specs.Moments.{AtOneMoment, HoldsReceipt, Looks, Opening, Replies}
use Rattle.site_desk.specs.Seats.{Held, held}
use Rattle.site_desk.specs.SiteView.{SiteInStep, SiteView}
use Rattle.desk_lines.specs.declared.line.Line.{Line}
use Rattle.desk_lines.specs.declared.line.Line.TheVariants.{Ask, Left, Totals as TotalsOf, Quit}
use Rattle.desk_lines.specs.declared.answered.Answered.{Answered}
use Rattle.desk_lines.specs.declared.answered.Answered.TheVariants.{Kept, LeftIs, TotalsAre, NotKnown, Refused}
use Rattle.session_server.specs.BookStep.{not_shown}

-- a seat, with the receipts and the looks that it was given, the first one first
pub record Seated : Type 0 where
  pub seat : Held
  pub receipts : List Receipt
  pub looks : List Seen

abbrev pub seated : Held → List Receipt → List Seen → Seated
seated seat receipts looks = record { seat = seat; receipts = receipts; looks = looks }

abbrev pub with_receipt : Seated → Held → Receipt → Seated
with_receipt old seat receipt = seated seat (old.receipts ++ receipt ∷ []) old.looks

abbrev pub with_look : Seated → Seen → Seated
with_look old seen = seated old.seat old.receipts (old.looks ++ seen ∷ [])

-- The share is as it was, or one more; then the entry at this place was added behind all that was entered for the seat before.
abbrev pub IsRaisedAt : ℕ → ℕ → Held → Held → Type 0
IsRaisedAt opening place old new = (new ≡ old) ⊎ ((new ≡ held old.parts (old.count + 1)) × (opening + old.count ≤ place))

-- one look is added, at this event and at no less than all that was entered for the seat
abbrev pub IsLookAt : ℕ → List ℕ → Seated → Seen → Seated → Type 0
IsLookAt opening event old seen new = (new ≡ with_look old seen) × (seen.event ≡ event) × (opening + old.seat.count ≤ seen.at)

-- a look is refused where the desk is closed, or memory for it
abbrev pub RefusesLook : AskFault → Type 0
RefusesLook ask.Closed = ⊤
RefusesLook ask.Memory = ⊤
RefusesLook fault = ⊥

-- A step of a seat, at a desk whose history had this length when its count began. A kept reply is that of the one receipt that is added, which has
-- the line's number and request; what is left, and totals, are those of the one look that is added, at the line's event; every other answer adds
-- none. The last line asks nothing.
abbrev pub SeatStep : ℕ → Seated → Line → Answered → Seated → Type 0
SeatStep opening old (Ask number request) (Kept reply) new =
    (place : ℕ) × (seat : Held) × (new ≡ with_receipt old seat (record { number = number; request = request; reply = reply; place = place }))
    × IsRaisedAt opening place old.seat seat
SeatStep opening old (Left event) (LeftIs left) new = (seen : Seen) × IsLookAt opening event old seen new × (seen.left ≡ left)
SeatStep opening old (TotalsOf event) (TotalsAre totals) new = (seen : Seen) × IsLookAt opening event old seen new × (seen.totals ≡ totals)
SeatStep opening old (Ask number request) (Refused fault) new = new ≡ old
SeatStep opening old (Left event) (Refused fault) new = RefusesLook fault × (new ≡ old)
SeatStep opening old (TotalsOf event) (Refused fault) new = RefusesLook fault × (new ≡ old)
SeatStep opening old (Left event) NotKnown new = new ≡ old
SeatStep opening old (TotalsOf event) NotKnown new = new ≡ old
SeatStep opening old Quit NotKnown new = new ≡ old
SeatStep opening old line answered new = ⊥

-- this is answered where nothing is shown
abbrev pub ShowsNothing : Answered → Type 0
ShowsNothing NotKnown = ⊤
ShowsNothing (Refused fault) = RefusesLook fault
ShowsNothing answered = ⊥

-- what a desk may tell: why it answers no request, why it shows nothing, a receipt, and what it shows
pub record Telling : Type 1 where
  pub refuses : ℕ → Request → AskFault → Type 0
  pub hides : List ℕ → LookFault → Type 0
  pub receipts : Receipt → Type 0
  pub shows : Seen → Type 0

-- what it may tell as a book that may stand under its lock; where it tells `store`, one that may is closed
abbrev pub told_at : {K : Type 0} → SiteConfig → List Entry → (K → ℕ) → (SiteView K → Type 0) → Telling
told_at office began failed InStep = record {
  refuses = λ number request fault. AtOneMoment office began InStep (Replies failed number request (Err fault))
      × (fault ≡ ask.Store → AtOneMoment office began InStep (λ site. site.closed ≡ true));
  hides = λ event fault. AtOneMoment office began InStep (Looks event (Err fault));
  receipts = λ receipt. AtOneMoment office began InStep (HoldsReceipt receipt);
  shows = λ seen. AtOneMoment office began InStep (Looks seen.event (Ok seen));
}

-- the same of a desk over such a keeper, of such a count
abbrev pub desk_tells : {K : Type 0} → Keeping K → Opening → Telling
desk_tells k l = told_at l.office l.began k.failed (SiteInStep k)

-- each receipt and each look that the seat was given is one that its desk may tell
pub record MayBeTold (t : Telling) (s : Seated) : Type 0 where
  pub receipts : All t.receipts s.receipts
  pub looks : All t.shows s.looks

-- where a look shows nothing, `memory` is told, or what the desk may tell
abbrev pub WhyNotShown : Telling → List ℕ → Answered → Type 0
WhyNotShown t event answered = (answered ≡ Refused ask.Memory) ⊎ ((fault : LookFault) × (answered ≡ not_shown fault) × t.hides event fault)

-- where a line is refused, `memory` is told, or what the desk may tell
abbrev pub WhyRefused : Telling → Line → Answered → Type 0
WhyRefused t (Ask number request) (Refused fault) = (fault ≡ ask.Memory) ⊎ t.refuses number request fault
WhyRefused t (Left event) NotKnown = WhyNotShown t event NotKnown
WhyRefused t (Left event) (Refused fault) = WhyNotShown t event (Refused fault)
WhyRefused t (TotalsOf event) NotKnown = WhyNotShown t event NotKnown
WhyRefused t (TotalsOf event) (Refused fault) = WhyNotShown t event (Refused fault)
WhyRefused t line answered = ⊤

-- a step of a seat whose desk may tell this
pub record DeskStep (t : Telling) (opening : ℕ) (old : Seated) (line : Line) (answered : Answered) (new : Seated) : Type 0 where
  pub step : SeatStep opening old line answered new
  pub why : WhyRefused t line answered
  pub told : MayBeTold t old → MayBeTold t new

-- a step of a seat at a desk over such a keeper, of such a count
abbrev pub StepsAt : {K : Type 0} → Keeping K → Opening → Seated → Line → Answered → Seated → Type 0
StepsAt k l = DeskStep (desk_tells k l) (length l.began)
