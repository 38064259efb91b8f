-- What handling a line leaves of a seat.
use Rattle.std.proofs.Common.{◌≡◌, inl, inr, ◌⊎◌, ℕ, Bool, true, false, List, Option, Some, None, Result, Err, refl, ap, subst, sym, ◌∙◌}
use Rattle.delta_wire.specs.declared.fault.WireFault.TheVariants.{Memory}
use Rattle.request_ledger.specs.declared.request.Request.{Request}
use Rattle.live_office.specs.declared.sparing.Sparing.{Sparing}
use Rattle.desk_lines.specs.declared.line.Line.TheVariants.{Ask, Left, Totals, Quit as QuitLine}
use Rattle.session_server.specs.declared.fault.TalkFault.{TalkFault}
use Rattle.live_office.specs.declared.door.Access.{Access}
use Rattle.live_office.specs.declared.handler.Last.{Last}
use Rattle.live_office.specs.declared.importing.ImportFault.TheVariants.{Unread}
use Rattle.live_office.specs.declared.office_line.OfficeLine.{OfficeLine}
use Rattle.live_office.specs.declared.office_line.OfficeLine.TheVariants as office_line
use Rattle.live_office.specs.Admissible.{Admissible}
use Rattle.live_office.specs.CallerLines.{CallerState, HandlesCaller, HandlesIf, LastOfCaller, is_permitted}
use Rattle.live_office.specs.Handling.{Gathering, HandlesAsk, HandlesBy, HandlesLine, HandlesLost, HandlesPart, Lost, Nothing, SeatState, Text, ends_message, with_gathering}
use Rattle.live_office.specs.Lines.{office_line_of}
use Rattle.live_office.specs.Served.{IsServed}
use Rattle.live_office.specs.Talks.{OfficeTalked}
use Rattle.live_office.proofs.Seats.{given_parts}
use Rattle.live_office.proofs.Talks.{chain_keeps}

-- a message for which memory was refused
pub lost_part : {K : Type 0} (d : Admissible K) (old : SeatState) (message : List ℕ) (is_last : Bool) (text : List ℕ) (new : SeatState) →
    HandlesLost old is_last text new → HandlesPart d old message is_last text new
lost_part d old message true text new h = (Err (Unread Memory), tt, h.0, h.1)
lost_part d old message false text new h = (h.0, inr h.1)

parts_of_same : (old new : SeatState) → new ≡ old → new.seat.parts ≡ old.seat.parts
parts_of_same old new is = ap (λ (s : SeatState). s.seat.parts) is

ask_parts : {K : Type 0} (d : Admissible K) (old : SeatState) (number : ℕ) (request : Request) (text : List ℕ) (new : SeatState) →
    HandlesAsk d old number request text new → new.seat.parts ≡ old.seat.parts
ask_parts d old number request text new (inl h) = given_parts d old.seat (Ask number request) h.1.0 new.seat h.1.1
ask_parts d old number request text new (inr h) = parts_of_same old new h.3

line_parts : {K : Type 0} (d : Admissible K) (old : SeatState) (line : Option OfficeLine) (text : List ℕ) (new : SeatState) →
    HandlesLine d old line text new → new.seat.parts ≡ old.seat.parts
line_parts d old (Some (office_line.Session QuitLine)) text new h = absurd h
line_parts d old (Some (office_line.Session (Ask number request))) text new h = ask_parts d old number request text new h
line_parts d old (Some (office_line.Session (Left event))) text new h = given_parts d old.seat (Left event) h.0 new.seat h.1
line_parts d old (Some (office_line.Session (Totals event))) text new h = given_parts d old.seat (Totals event) h.0 new.seat h.1
line_parts d old (Some (office_line.Export to)) text new h = parts_of_same old new h.3
line_parts d old (Some office_line.Import) text new h = ap (λ (s : SeatState). s.seat.parts) h.1
line_parts d old (Some (office_line.Find number)) text new h = parts_of_same old new h.3
line_parts d old (Some (office_line.List event)) text new h = parts_of_same old new h.3
line_parts d old (Some office_line.Events) text new h = parts_of_same old new h.3
line_parts d old (Some (office_line.Shares event)) text new h = parts_of_same old new h.3
line_parts d old (Some office_line.Status) text new h = parts_of_same old new h.4
line_parts d old (Some office_line.Site) text new h = parts_of_same old new h.3
line_parts d old (Some office_line.Close) text new h = absurd h
line_parts d old None text new h = parts_of_same old new h.1

either_parts : (old : SeatState) (a b : Gathering) (new : SeatState) →
    (new ≡ with_gathering old a) ⊎ (new ≡ with_gathering old b) → new.seat.parts ≡ old.seat.parts
either_parts old a b new (inl is) = ap (λ (s : SeatState). s.seat.parts) is
either_parts old a b new (inr is) = ap (λ (s : SeatState). s.seat.parts) is

part_parts : {K : Type 0} (d : Admissible K) (old : SeatState) (message : List ℕ) (is_last : Bool) (text : List ℕ) (new : SeatState) →
    HandlesPart d old message is_last text new → new.seat.parts ≡ old.seat.parts
part_parts d old message true text new h = ap (λ (s : SeatState). s.seat.parts) h.3
part_parts d old message false text new h = either_parts old (Text message) Lost new h.1

lost_parts : (old : SeatState) (is_last : Bool) (text : List ℕ) (new : SeatState) →
    HandlesLost old is_last text new → new.seat.parts ≡ old.seat.parts
lost_parts old true text new h = ap (λ (s : SeatState). s.seat.parts) h.1
lost_parts old false text new h = ap (λ (s : SeatState). s.seat.parts) h.1

by_parts : {K : Type 0} (d : Admissible K) (old : SeatState) (gathering : Gathering) (line text : List ℕ) (new : SeatState) →
    HandlesBy d old gathering line text new → new.seat.parts ≡ old.seat.parts
by_parts d old Nothing line text new h = line_parts d old (office_line_of line) text new h
by_parts d old (Text so_far) line text new h = part_parts d (with_gathering old Nothing) _ (ends_message line) text new h
by_parts d old Lost line text new h = lost_parts (with_gathering old Nothing) (ends_message line) text new h

if_parts : {K : Type 0} (d : Admissible K) (permitted : Bool) (old : CallerState) (line text : List ℕ) (new : CallerState)
    → HandlesIf d permitted old line text new → new.seat.seat.parts ≡ old.seat.seat.parts
if_parts d true old line text new h = ap (λ (s : CallerState). s.seat.seat.parts) h.2 ∙ by_parts d old.seat old.seat.gathering line text h.0 h.1
if_parts d false old line text new h = ap (λ (s : CallerState). s.seat.seat.parts) h.1

-- a seat that served a session has the parts that it had
pub handled_parts : {K : Type 0} (d : Admissible K) (input old new : Option (List ℕ)) (before after : CallerState)
    (result : Result (Option Last) TalkFault) → OfficeTalked (HandlesCaller d) LastOfCaller input old new before after result
    → after.seat.seat.parts ≡ before.seat.seat.parts
handled_parts d input old new before after result talked =
    chain_keeps (HandlesCaller d) (λ s. s.seat.seat.parts ≡ before.seat.seat.parts)
    (λ a line text b h is. if_parts d (is_permitted a.access (office_line_of line)) a line text b h ∙ is) before talked.lines talked.texts after
    talked.chain refl

-- a caller who was served, by what its reader and writer were as it began
pub served_by : {K : Type 0} (d : Admissible K) (access : Access) (sparing : Sparing) (a b c a_now b_now : Option (List ℕ))
    (result : Result (Option Last) TalkFault)
    → IsServed d access sparing a b c result → a_now ≡ a → b_now ≡ b → IsServed d access sparing a_now b_now c result
served_by d access sparing a b c a_now b_now result served is_a is_b =
    subst (λ (y : Option (List ℕ) × Option (List ℕ)). IsServed d access sparing y.0 y.1 c result) (λ i. (sym is_a i, sym is_b i)) served
