-- Which lines a caller has, and what becomes of the others. (Our own.)
use Rattle.std.specs.Prelude.{◌≡◌, ⊤, ℕ, Bool, true, false, List, Option, Some}
use Rattle.desk_lines.specs.declared.line.Line.TheVariants.{Quit as QuitLine}
use Rattle.desk_lines.specs.declared.answered.Answered.TheVariants as answered
use Rattle.desk_lines.specs.Replies.{reply_line}
use Rattle.live_office.specs.declared.door.Access.{Access}
use Rattle.live_office.specs.declared.door.Access.TheVariants as access
use Rattle.live_office.specs.declared.handler.Last.{Last}
use Rattle.live_office.specs.declared.handler.Last.TheVariants as last
use Rattle.live_office.specs.declared.office_line.OfficeLine.{OfficeLine}
use Rattle.live_office.specs.declared.office_line.OfficeLine.TheVariants as office_line
use Rattle.live_office.specs.Admissible.{Admissible}
use Rattle.live_office.specs.Handling.{Handles, LastHandled, SeatState}
use Rattle.live_office.specs.Lines.{office_line_of}

-- a caller's access, whether a line of theirs could be read, and the seat
pub record CallerState : Type 0 where
  pub access : Access
  pub was_read : Bool
  pub seat : SeatState

abbrev pub caller_state : Access → Bool → SeatState → CallerState
caller_state access was_read seat = record { access = access; was_read = was_read; seat = seat }

-- which lines a caller with this access may ask
abbrev pub is_permitted : Access → Option OfficeLine → Bool
is_permitted access.Operator line = true
is_permitted access.Session (Some (office_line.Session line)) = true
is_permitted access.Session (Some office_line.Site) = true
is_permitted access.Session _ = false
is_permitted access.Kept (Some office_line.Status) = true
is_permitted access.Kept (Some office_line.Site) = true
is_permitted access.Kept (Some office_line.Close) = true
is_permitted access.Kept (Some (office_line.Session QuitLine)) = true
is_permitted access.Kept _ = false

-- behind a line that could be read, one that may not be asked at the port is answered `bad-line`
abbrev pub IsRefusal : Access → Bool → List ℕ → Type 0
IsRefusal access.Session true text = text ≡ reply_line answered.Unread
IsRefusal _ _ text = ⊥

-- before any that could be read, it is the last; and so is one that may not be asked at a place that is kept
abbrev pub RefusesLine : Access → Bool → Last → Type 0
RefusesLine access.Session false last.Unread = ⊤
RefusesLine access.Kept was_read last.Full = ⊤
RefusesLine _ _ _ = ⊥

-- a line is handled as the seat handles it, or refused
abbrev pub HandlesIf : {K : Type 0} → Admissible K → Bool → CallerState → List ℕ → List ℕ → CallerState → Type 0
HandlesIf d true old line text new = (seat : SeatState) × Handles d old.seat line text seat × (new ≡ caller_state old.access true seat)
HandlesIf d false old line text new = IsRefusal old.access old.was_read text × (new ≡ old)

-- what a caller's line is answered
abbrev pub HandlesCaller : {K : Type 0} → Admissible K → CallerState → List ℕ → List ℕ → CallerState → Type 0
HandlesCaller d old line text new = HandlesIf d (is_permitted old.access (office_line_of line)) old line text new

abbrev pub LastIf : Bool → CallerState → List ℕ → Last → Type 0
LastIf true old line last = LastHandled old.seat line last
LastIf false old line last = RefusesLine old.access old.was_read last

-- which lines are a caller's last
abbrev pub LastOfCaller : CallerState → List ℕ → Last → Type 0
LastOfCaller old line last = LastIf (is_permitted old.access (office_line_of line)) old line last
