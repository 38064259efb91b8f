-- What a session leaves of a seat that serves one after another.
use Rattle.std.proofs.Common.{◌≡◌, ℕ, ◌+◌, ◌<◌, List, [], ◌∷◌, ◌++◌, refl, sym, ap, subst}
use Rattle.std.specs.Prelude.{IfSome}
use Rattle.std.proofs.lemmas.List.Sums.{sum_by_push}
use Rattle.local_rights.specs.declared.seat_totals.ViewTotals.{ViewTotals}
use Rattle.site_desk.specs.declared.answer.Seen.{Seen}
use Rattle.site_desk.specs.declared.fault.LookFault.{LookFault}
use Rattle.site_desk.specs.declared.fault.LookFault.TheVariants as look
use Rattle.site_desk.specs.Seats.{Held, parts_of}
use Rattle.desk_lines.specs.declared.line.Line.{Line}
use Rattle.desk_lines.specs.declared.line.Line.TheVariants.{Ask, Left, Totals, Quit}
use Rattle.desk_lines.specs.declared.answered.Answered.{Answered}
use Rattle.desk_lines.specs.declared.answered.Answered.TheVariants.{Kept, LeftIs, TotalsAre, NotKnown, Refused, Unread}
use Rattle.session_server.specs.BookStep.{not_shown}
use Rattle.live_office.specs.Admissible.{Admissible, telling}
use Rattle.live_office.specs.SeatAnswers.{SeatAnswers}
use Rattle.live_office.specs.Sitting.{Sitting}

pub given_parts : {K : Type 0} (d : Admissible K) (old : Sitting) (line : Line) (answered : Answered) (new : Sitting) → SeatAnswers d old line answered new
    → new.parts ≡ old.parts
given_parts d old (Ask number request) (Kept reply) new h = ap (λ (s : Sitting). s.parts) h.2
given_parts d old (Ask number request) (LeftIs left) new h = absurd h
given_parts d old (Ask number request) (TotalsAre totals) new h = absurd h
given_parts d old (Ask number request) NotKnown new h = absurd h
given_parts d old (Ask number request) (Refused fault) new h = ap (λ (s : Sitting). s.parts) h.0
given_parts d old (Ask number request) Unread new h = absurd h
given_parts d old (Left event) (Kept reply) new h = absurd h
given_parts d old (Left event) (LeftIs left) new h = ap (λ (s : Sitting). s.parts) h.0
given_parts d old (Left event) (TotalsAre totals) new h = absurd h
given_parts d old (Left event) NotKnown new h = ap (λ (s : Sitting). s.parts) h.0
given_parts d old (Left event) (Refused fault) new h = ap (λ (s : Sitting). s.parts) h.0
given_parts d old (Left event) Unread new h = absurd h
given_parts d old (Totals event) (Kept reply) new h = absurd h
given_parts d old (Totals event) (LeftIs left) new h = absurd h
given_parts d old (Totals event) (TotalsAre totals) new h = ap (λ (s : Sitting). s.parts) h.0
given_parts d old (Totals event) NotKnown new h = ap (λ (s : Sitting). s.parts) h.0
given_parts d old (Totals event) (Refused fault) new h = ap (λ (s : Sitting). s.parts) h.0
given_parts d old (Totals event) Unread new h = absurd h
given_parts d old Quit (Kept reply) new h = absurd h
given_parts d old Quit (LeftIs left) new h = absurd h
given_parts d old Quit (TotalsAre totals) new h = absurd h
given_parts d old Quit NotKnown new h = ap (λ (s : Sitting). s.parts) h
given_parts d old Quit (Refused fault) new h = absurd h
given_parts d old Quit Unread new h = absurd h

-- a look showed nothing
pub left_hidden : {K : Type 0} (d : Admissible K) (old : Sitting) (event : List ℕ) (fault : LookFault) (answered : Answered) → answered ≡ not_shown fault
    → (telling d).hides event fault → SeatAnswers d old (Left event) answered old
left_hidden d old event look.Unknown answered is hides = subst (λ a. SeatAnswers d old (Left event) a old) (sym is) (refl, hides)
left_hidden d old event look.Closed answered is hides = subst (λ a. SeatAnswers d old (Left event) a old) (sym is) (refl, refl, hides)

pub totals_hidden : {K : Type 0} (d : Admissible K) (old : Sitting) (event : List ℕ) (fault : LookFault) (answered : Answered) → answered ≡ not_shown fault
    → (telling d).hides event fault → SeatAnswers d old (Totals event) answered old
totals_hidden d old event look.Unknown answered is hides = subst (λ a. SeatAnswers d old (Totals event) a old) (sym is) (refl, hides)
totals_hidden d old event look.Closed answered is hides = subst (λ a. SeatAnswers d old (Totals event) a old) (sym is) (refl, refl, hides)

-- a look showed the event
pub left_shown : {K : Type 0} (d : Admissible K) (old : Sitting) (event : List ℕ) (seen : Seen) (left : ℕ) → left ≡ seen.left → seen.event ≡ event
    → IfSome old.latest (λ place. place < seen.at) → (telling d).shows seen → SeatAnswers d old (Left event) (LeftIs left) old
left_shown d old event seen left is at_event own shown = (refl, (seen, record { of_event = at_event; has_own = own; shown = shown }, sym is))

pub totals_shown : {K : Type 0} (d : Admissible K) (old : Sitting) (event : List ℕ) (seen : Seen) (totals : ViewTotals) → totals ≡ seen.totals
    → seen.event ≡ event → IfSome old.latest (λ place. place < seen.at) → (telling d).shows seen → SeatAnswers d old (Totals event) (TotalsAre totals) old
totals_shown d old event seen totals is at_event own shown = (refl, (seen, record { of_event = at_event; has_own = own; shown = shown }, sym is))

-- the parts of one seat more
pub parts_push : (seats : List Held) (seat : Held) → parts_of (seats ++ seat ∷ []) ≡ parts_of seats + seat.parts
parts_push seats seat = sum_by_push (λ s. s.parts) seats seat
