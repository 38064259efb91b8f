-- What a caller at an open office was answered. (Our own.)
use Rattle.std.specs.Prelude.{◌≡◌, ℕ, false, List, Option, Result}
use Rattle.session_server.specs.declared.fault.TalkFault.{TalkFault}
use Rattle.live_office.specs.declared.door.Access.{Access}
use Rattle.live_office.specs.declared.handler.Last.{Last}
use Rattle.live_office.specs.declared.sparing.Sparing.{Sparing}
use Rattle.live_office.specs.Admissible.{Admissible}
use Rattle.live_office.specs.CallerLines.{CallerState, HandlesCaller, LastOfCaller}
use Rattle.live_office.specs.Handling.{Nothing}
use Rattle.live_office.specs.Talks.{OfficeTalked}

-- nothing has come of a caller with this access, at an office that spares its history so
abbrev pub IsNew : Access → Sparing → CallerState → Type 0
IsNew access sparing first =
    (first.access ≡ access) × (first.was_read ≡ false) × (first.seat.sparing ≡ sparing) × (first.seat.gathering ≡ Nothing)

-- a caller was answered by a seat, line by line, whatever the seat answered before
abbrev pub IsServed : {K : Type 0} → Admissible K → Access → Sparing → Option (List ℕ) → Option (List ℕ) → Option (List ℕ) → Result (Option Last) TalkFault
    → Type 0
IsServed d access sparing input old new result =
    (first last : CallerState) × IsNew access sparing first × OfficeTalked (HandlesCaller d) LastOfCaller input old new first last result
