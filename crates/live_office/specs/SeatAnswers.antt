-- How a seat that serves one session after another answers a line. It keeps no receipts. (Our own.)
use Rattle.std.specs.Prelude.{◌≡◌, ℕ, ◌<◌, List, Ok, Err, IfSome}
use Rattle.site_desk.specs.declared.answer.Seen.{Seen}
use Rattle.site_desk.specs.declared.fault.AskFault.TheVariants as ask
use Rattle.site_desk.specs.declared.fault.LookFault.TheVariants as look
use Rattle.site_desk.specs.declared.receipt.Receipt.{Receipt}
use Rattle.desk_lines.specs.declared.line.Line.{Line}
use Rattle.desk_lines.specs.declared.line.Line.TheVariants.{Ask, Left, Totals as TotalsOf, Quit}
use Rattle.desk_lines.specs.declared.answered.Answered.{Answered}
use Rattle.desk_lines.specs.declared.answered.Answered.TheVariants.{Kept, LeftIs, TotalsAre, NotKnown, Refused}
use Rattle.live_office.specs.Admissible.{Admissible, telling}
use Rattle.live_office.specs.Sitting.{Sitting, with_reply_at}
use Rattle.live_office.specs.Together.{IsAskedAs, receipt_at}

-- what some admissible book shows of the event, with all replies to the seat
pub record IsShown {K : Type 0} (d : Admissible K) (seat : Sitting) (event : List ℕ) (seen : Seen) : Type 0 where
  pub of_event : seen.event ≡ event
  pub has_own : IfSome seat.latest (λ place. place < seen.at)
  pub shown : (telling d).shows seen

-- A kept reply is that of an entry of some admissible book, and the seat's last is not before it. What is shown is shown by some
-- admissible book, and each refusal has its cause in one.
abbrev pub SeatAnswers : {K : Type 0} → Admissible K → Sitting → Line → Answered → Sitting → Type 0
SeatAnswers d old (Ask number request) (Kept reply) new =
    (place : ℕ) × IsAskedAs d number request (Ok (receipt_at number request reply place)) × (new ≡ with_reply_at old place)
SeatAnswers d old (Ask number request) (Refused fault) new = (new ≡ old) × IsAskedAs d number request (Err fault)
SeatAnswers d old (Left event) (LeftIs left) new = (new ≡ old) × ((seen : Seen) × IsShown d old event seen × (seen.left ≡ left))
SeatAnswers d old (Left event) NotKnown new = (new ≡ old) × (telling d).hides event look.Unknown
SeatAnswers d old (Left event) (Refused fault) new = (new ≡ old) × (fault ≡ ask.Closed) × (telling d).hides event look.Closed
SeatAnswers d old (TotalsOf event) (TotalsAre totals) new = (new ≡ old) × ((seen : Seen) × IsShown d old event seen × (seen.totals ≡ totals))
SeatAnswers d old (TotalsOf event) NotKnown new = (new ≡ old) × (telling d).hides event look.Unknown
SeatAnswers d old (TotalsOf event) (Refused fault) new = (new ≡ old) × (fault ≡ ask.Closed) × (telling d).hides event look.Closed
SeatAnswers d old Quit NotKnown new = new ≡ old
SeatAnswers d old line answered new = ⊥
