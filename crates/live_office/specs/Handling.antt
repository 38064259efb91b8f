-- How a seat handles the lines of a caller who may use all lines of an office. (Our own.)
use Rattle.std.specs.Prelude.{◌≡◌, ◌⊎◌, ℕ, Bool, true, false, List, [], ◌∷◌, ◌++◌, Option, Some, None, Result, Err, MatchResult, Vec, codes}
use Rattle.std.specs.Str.{bytes_eq}
use Rattle.std.specs.declared.alloc.Global.{Global}
use Rattle.request_ledger.specs.declared.request.Request.{Request}
use Rattle.history_keeper.specs.declared.lookup.Found.{Found}
use Rattle.history_keeper.specs.declared.lookup.Listed.{Listed}
use Rattle.site_exchange.specs.declared.message.Message.{Message}
use Rattle.delta_wire.specs.declared.fault.WireFault.TheVariants.{Memory}
use Rattle.site_desk.specs.declared.answer.SiteShare.{SiteShare}
use Rattle.site_desk.specs.declared.answer.SiteStatus.{SiteStatus}
use Rattle.live_office.specs.declared.office_answer.Crowd.{Crowd}
use Rattle.live_office.specs.declared.office_answer.OfficeAnswer.{OfficeAnswer}
use Rattle.site_desk.specs.declared.answer.Taken.{Taken}
use Rattle.site_desk.specs.declared.fault.LookUpFault.{LookUpFault}
use Rattle.site_desk.specs.declared.fault.NextFault.{NextFault}
use Rattle.site_desk.specs.Moments.{Events, Finds, IsSiteStatus, Lists, Sends, Shares}
use Rattle.desk_lines.specs.declared.line.Line.{Line}
use Rattle.desk_lines.specs.declared.line.Line.TheVariants.{Ask, Left, Totals, Quit as QuitLine}
use Rattle.desk_lines.specs.declared.answered.Answered.{Answered}
use Rattle.desk_lines.specs.declared.answered.Answered.TheVariants as answered
use Rattle.desk_lines.specs.Replies.{reply_line}
use Rattle.live_office.specs.declared.handler.Last.{Last}
use Rattle.live_office.specs.declared.handler.Last.TheVariants as last
use Rattle.live_office.specs.declared.importing.ImportFault.{ImportFault}
use Rattle.live_office.specs.declared.importing.ImportFault.TheVariants.{Unread}
use Rattle.live_office.specs.declared.office_line.OfficeLine.{OfficeLine}
use Rattle.live_office.specs.declared.office_line.OfficeLine.TheVariants as office_line
use Rattle.live_office.specs.Admissible.{Admissible, SomeAdmissible}
use Rattle.live_office.specs.Answers.{answer_text, events_text, exported_text, found_text, imported_text, listed_text, shares_text, site_text, status_text}
use Rattle.live_office.specs.Importing.{IsImported}
use Rattle.live_office.specs.Lines.{office_line_of}
use Rattle.live_office.specs.SeatAnswers.{SeatAnswers}
use Rattle.live_office.specs.declared.sparing.Sparing.{Sparing}
use Rattle.live_office.specs.declared.sparing.Spared.{Spared}
use Rattle.live_office.specs.Sitting.{Sitting}
use Rattle.live_office.specs.Sparing.{IsNotSpared, IsSpared, spared_text}

-- what has come of a message after `import`: no message comes, its text so far, or memory was refused for it
pub data Gathering : Type 0 where
  Nothing : Gathering
  Text : List ℕ → Gathering
  Lost : Gathering

-- how the office spares its history, a seat, and what has come of a message
pub record SeatState : Type 0 where
  pub sparing : Sparing
  pub seat : Sitting
  pub gathering : Gathering

abbrev pub seat_state : Sparing → Sitting → Gathering → SeatState
seat_state sparing seat gathering = record { sparing = sparing; seat = seat; gathering = gathering }

-- the same seat, with that of a message
abbrev pub with_gathering : SeatState → Gathering → SeatState
with_gathering s gathering = seat_state s.sparing s.seat gathering

-- a line of a session is answered as the seat answers it
abbrev pub HandlesSession : {K : Type 0} → Admissible K → SeatState → Line → List ℕ → SeatState → Type 0
HandlesSession d old line text new =
    (given : Answered) × SeatAnswers d old.seat line given new.seat × (text ≡ reply_line given) × (new ≡ seat_state old.sparing new.seat old.gathering)

-- a request that is not spared is answered so; of one that is nothing changes
abbrev pub HandlesAsk : {K : Type 0} → Admissible K → SeatState → ℕ → Request → List ℕ → SeatState → Type 0
HandlesAsk d old number request text new =
    (IsNotSpared d old.sparing number request × HandlesSession d old (Ask number request) text new)
    ⊎ ((spared : Spared) × IsSpared d old.sparing number request spared × (text ≡ spared_text spared) × (new ≡ old))

-- A line where no message comes. `quit` and `close` have no answer. The counts of callers are not pinned.
abbrev pub HandlesLine : {K : Type 0} → Admissible K → SeatState → Option OfficeLine → List ℕ → SeatState → Type 0
HandlesLine d old (Some (office_line.Session (Ask number request))) text new = HandlesAsk d old number request text new
HandlesLine d old (Some (office_line.Session (Left event))) text new = HandlesSession d old (Left event) text new
HandlesLine d old (Some (office_line.Session (Totals event))) text new = HandlesSession d old (Totals event) text new
HandlesLine d old (Some (office_line.Session QuitLine)) text new = ⊥
HandlesLine d old (Some (office_line.Export to)) text new =
    (result : Result (Option Message) NextFault) × SomeAdmissible d (Sends to result) × (text ≡ exported_text result) × (new ≡ old)
HandlesLine d old (Some office_line.Import) text new = (text ≡ []) × (new ≡ with_gathering old (Text []))
HandlesLine d old (Some (office_line.Find number)) text new =
    (result : Result (Option Found) LookUpFault) × SomeAdmissible d (Finds number result) × (text ≡ found_text result) × (new ≡ old)
HandlesLine d old (Some (office_line.List event)) text new =
    (result : Result (Vec Listed Global) LookUpFault) × SomeAdmissible d (Lists event result) × (text ≡ listed_text result) × (new ≡ old)
HandlesLine d old (Some office_line.Events) text new =
    (result : Result (Vec (List ℕ) Global) LookUpFault) × SomeAdmissible d (Events result) × (text ≡ events_text result) × (new ≡ old)
HandlesLine d old (Some (office_line.Shares event)) text new =
    (result : Result (Option (Vec SiteShare Global)) LookUpFault) × SomeAdmissible d (Shares event result) × (text ≡ shares_text result) × (new ≡ old)
HandlesLine d old (Some office_line.Status) text new =
    (site_status : SiteStatus) × (crowd : Crowd) × SomeAdmissible d (IsSiteStatus site_status) × (text ≡ status_text site_status crowd old.sparing.reserve)
    × (new ≡ old)
HandlesLine d old (Some office_line.Site) text new =
    (site_status : SiteStatus) × SomeAdmissible d (IsSiteStatus site_status) × (text ≡ site_text site_status) × (new ≡ old)
HandlesLine d old (Some office_line.Close) text new = ⊥
HandlesLine d old None text new = (text ≡ reply_line answered.Unread) × (new ≡ old)

-- A line of a message, which is this text with it. With its last line the message is taken; before, nothing is answered.
abbrev pub HandlesPart : {K : Type 0} → Admissible K → SeatState → List ℕ → Bool → List ℕ → SeatState → Type 0
HandlesPart d old message true text new =
    (result : Result Taken ImportFault) × IsImported d message result × (text ≡ imported_text result) × (new ≡ with_gathering old Nothing)
HandlesPart d old message false text new = (text ≡ []) × ((new ≡ with_gathering old (Text message)) ⊎ (new ≡ with_gathering old Lost))

-- a line of a message for which memory was refused: `memory` is answered with its last line
abbrev pub HandlesLost : SeatState → Bool → List ℕ → SeatState → Type 0
HandlesLost old true text new = (text ≡ imported_text (Err (Unread Memory))) × (new ≡ with_gathering old Nothing)
HandlesLost old false text new = (text ≡ []) × (new ≡ with_gathering old Lost)

-- the line is the last of a message
abbrev pub ends_message : List ℕ → Bool
ends_message line = bytes_eq line (codes "end")

-- a line, by what has come of a message before it
abbrev pub HandlesBy : {K : Type 0} → Admissible K → SeatState → Gathering → List ℕ → List ℕ → SeatState → Type 0
HandlesBy d old Nothing line text new = HandlesLine d old (office_line_of line) text new
HandlesBy d old (Text so_far) line text new = HandlesPart d (with_gathering old Nothing) (so_far ++ line ++ 10 ∷ []) (ends_message line) text new
HandlesBy d old Lost line text new = HandlesLost (with_gathering old Nothing) (ends_message line) text new

-- a seat handles a line by this text, and then has this state
abbrev pub Handles : {K : Type 0} → Admissible K → SeatState → List ℕ → List ℕ → SeatState → Type 0
Handles d old line text new = HandlesBy d old old.gathering line text new

-- which lines end a session, and how
abbrev pub IsLast : Last → Option OfficeLine → Type 0
IsLast last.Quit line = line ≡ Some (office_line.Session QuitLine)
IsLast last.Close line = line ≡ Some office_line.Close
IsLast last.Unread line = ⊥
IsLast last.Full line = ⊥

-- a line where no message comes: it was answered so, or it is the last, and nothing changed
abbrev pub HandlesOrEnds : {K : Type 0} → Admissible K → SeatState → Option OfficeLine → SeatState → Result OfficeAnswer Last → Type 0
HandlesOrEnds d old line new result = MatchResult result (λ answer. HandlesLine d old line (answer_text answer) new) (λ last. IsLast last line × (new ≡ old))

-- such a line, where no message comes
abbrev pub LastHandled : SeatState → List ℕ → Last → Type 0
LastHandled old line last = (old.gathering ≡ Nothing) × IsLast last (office_line_of line)
