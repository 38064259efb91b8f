-- A session that goes to an open office, line by line. (Our own.)
use Rattle.std.specs.Prelude.{◌≡◌, ◌≢◌, ℕ, List, [], ◌∷◌, ◌++◌, Option, Some, None, Result, Ok, Err, MatchResult, codes}
use Rattle.std.specs.Io.KnownBytes.{Appends, Consumes}
use Rattle.plain_words.specs.Input.{IsPartOfLine}
use Rattle.plain_words.specs.Writing.{AppendsFront}
use Rattle.desk_lines.specs.declared.line.Line.{Line}
use Rattle.desk_lines.specs.declared.line.Line.TheVariants.{Ask, Left, Totals, Quit}
use Rattle.desk_lines.specs.Reading.{session_line_of}
use Rattle.session_server.specs.declared.fault.TalkFault.{TalkFault}
use Rattle.live_office.specs.declared.handler.Last.{Last}
use Rattle.live_office.specs.declared.handler.Last.TheVariants as last
use Rattle.live_office.specs.Talks.{NextOfficeTalked, OfficeTalked}
use Rattle.operator_cli.specs.declared.status.Status.{Status}
use Rattle.operator_cli.specs.declared.status.Status.TheVariants.{Done, Failed}
use Rattle.operator_cli.specs.declared.command_fault.CommandFault.{CommandFault}
use Rattle.operator_cli.specs.declared.command_fault.CommandFault.TheVariants as fault
use Rattle.operator_cli.specs.Session.{of_talk_fault}
use Rattle.operator_cli.specs.CommandReply.{command_fault_line}
use Rattle.operator_cli.specs.Visits.{line_text, trouble}

-- what was asked of an office, and what it has yet to send
pub record Channel : Type 0 where
  pub asked : Option (List ℕ)
  pub coming : Option (List ℕ)

abbrev pub channel : Option (List ℕ) → Option (List ℕ) → Channel
channel asked coming = record { asked = asked; coming = coming }

-- the line was asked, and the next line of the office is its answer
abbrev pub IsPutTo : Channel → List ℕ → List ℕ → Channel → Type 0
IsPutTo before line text after =
    Appends before.asked after.asked (line_text line)
    × ((reply : List ℕ) × IsPartOfLine reply × (text ≡ line_text reply) × Consumes before.coming after.coming text)

-- A line of a session is put to the office; what is none is not asked.
abbrev pub IsAnsweredAs : Option Line → Channel → List ℕ → List ℕ → Channel → Type 0
IsAnsweredAs None before line text after = (text ≡ line_text (codes "bad-line")) × (after ≡ before)
IsAnsweredAs (Some Quit) before line text after = ⊥
IsAnsweredAs (Some (Ask number request)) before line text after = IsPutTo before line text after
IsAnsweredAs (Some (Left event)) before line text after = IsPutTo before line text after
IsAnsweredAs (Some (Totals event)) before line text after = IsPutTo before line text after

abbrev pub IsAnsweredBy : Channel → List ℕ → List ℕ → Channel → Type 0
IsAnsweredBy before line text after = IsAnsweredAs (session_line_of line) before line text after

-- `quit` is the last line, and so is one that asks, over which the office is lost or full: `Close` and `Full` stand for that
abbrev pub IsLastAsked : Channel → List ℕ → Last → Type 0
IsLastAsked before line last.Quit = session_line_of line ≡ Some Quit
IsLastAsked before line last.Unread = ⊥
IsLastAsked before line _ = (asks : Line) × (asks ≢ Quit) × (session_line_of line ≡ Some asks)

-- The next line of the office says that all places are taken.
abbrev pub IsToldFull : Option (List ℕ) → Option (List ℕ) → Type 0
IsToldFull coming left = (word : List ℕ) × (trouble word ≡ Some fault.Full) × Consumes coming left (line_text word)

-- The line over which the office is lost, or says that it is full, was asked, or a prefix of it.
abbrev pub IsLeft : Option Last → Channel → Channel → Type 0
IsLeft (Some last.Close) before now = (line : List ℕ) × IsLastAsked before line last.Close × AppendsFront before.asked now.asked (line_text line)
IsLeft (Some last.Full) before now =
    (line : List ℕ) × IsLastAsked before line last.Full × AppendsFront before.asked now.asked (line_text line) × IsToldFull before.coming now.coming
IsLeft (Some last.Unread) before now = ⊥
IsLeft (Some last.Quit) before now = now ≡ before
IsLeft None before now = now ≡ before

abbrev pub last_in : Result (Option (Option Last)) TalkFault → Option Last
last_in (Ok (Some ended)) = ended
last_in (Ok None) = None
last_in (Err cause) = None

-- the next line of the input was answered so
abbrev pub NextAsked : Option (List ℕ) → Option (List ℕ) → Option (List ℕ) → Option (List ℕ) → Channel → Channel → Result (Option (Option Last)) TalkFault
    → Type 0
NextAsked input rest old new before now result =
    (after : Channel) × NextOfficeTalked IsAnsweredBy IsLastAsked input rest old new before after result × IsLeft (last_in result) after now

abbrev pub last_of : Result (Option Last) TalkFault → Option Last
last_of (Ok ended) = ended
last_of (Err cause) = None

-- all lines of the input
abbrev pub AllAsked : Option (List ℕ) → Option (List ℕ) → Option (List ℕ) → Channel → Channel → Result (Option Last) TalkFault → Type 0
AllAsked input old new before now result =
    (after : Channel) × OfficeTalked IsAnsweredBy IsLastAsked input old new before after result × IsLeft (last_of result) after now

-- what the session comes to
abbrev pub visit_end : Result (Option Last) TalkFault → Result Status CommandFault
visit_end (Ok None) = Ok Done
visit_end (Ok (Some last.Quit)) = Ok Done
visit_end (Ok (Some last.Full)) = Err fault.Full
visit_end (Ok (Some _)) = Err fault.NotOpen
visit_end (Err cause) = Err (of_talk_fault cause)

-- the status tells, and what ended it early is told
abbrev pub EndsSo : Result Status CommandFault → Option (List ℕ) → Option (List ℕ) → Status → Type 0
EndsSo came old new status = MatchResult came (λ s. (status ≡ s) × (new ≡ old)) (λ f. (status ≡ Failed) × AppendsFront old new (command_fault_line f))

-- a session that went to an office
pub record WasAsked (input old new asked now coming old_err new_err : Option (List ℕ)) (status : Status) : Type 0 where
  pub came : Result (Option Last) TalkFault
  pub left : Option (List ℕ)
  pub asked_all : AllAsked input old new (channel asked coming) (channel now left) came
  pub ends_so : EndsSo (visit_end came) old_err new_err status
