-- What a session reads, answers and writes. (Our own.)
use Rattle.std.specs.Prelude.{◌≡◌, ◌≢◌, ℕ, List, [], ◌∷◌, ◌++◌, length, slice_get, ◌≤◌, Option, Some, None, Result, Ok, Err, IfSome}
use Rattle.std.specs.List.{flat_map}
use Rattle.std.specs.Io.KnownBytes.{Appends, Keeps}
use Rattle.plain_words.specs.Input.{longest_line, lines_of, Between, BeginsTooLong, GivesUp, AtEnd, AtLongLine, AtTooMany, TakenLines, taken}
use Rattle.plain_words.specs.Writing.{AppendsFront}
use Rattle.plain_words.specs.declared.lines.LineFault.{LineFault}
use Rattle.plain_words.specs.declared.lines.LineFault.TheVariants as line_fault
use Rattle.desk_lines.specs.declared.line.Line.{Line}
use Rattle.desk_lines.specs.declared.line.Line.TheVariants.{Ask, Left, Totals, Quit}
use Rattle.desk_lines.specs.declared.answered.Answered.{Answered}
use Rattle.desk_lines.specs.declared.answered.Answered.TheVariants.{Unread}
use Rattle.desk_lines.specs.Grammar.{most_lines}
use Rattle.desk_lines.specs.Reading.{session_line_of}
use Rattle.desk_lines.specs.Replies.{reply_line}
use Rattle.session_server.specs.declared.fault.Ended.{Ended}
use Rattle.session_server.specs.declared.fault.Ended.TheVariants as ended
use Rattle.session_server.specs.declared.fault.TalkFault.{TalkFault}
use Rattle.session_server.specs.declared.fault.TalkFault.TheVariants as fault

abbrev pub of_line_fault : LineFault → TalkFault
of_line_fault line_fault.Read = fault.Read
of_line_fault line_fault.LineTooLong = fault.LineTooLong

-- how an answerer answers a line, and how it goes on
abbrev pub Steps : Type 0 → Type 1
Steps A = A → Line → Answered → A → Type 0

-- A line that asks is answered by a step of the answerer; one that cannot be read is unread, and no step; the last line has no answer.
abbrev pub Answers : {A : Type 0} → Steps A → A → Option Line → Answered → A → Type 0
Answers S before (Some (Ask number request)) answered after = S before (Ask number request) answered after
Answers S before (Some (Left event)) answered after = S before (Left event) answered after
Answers S before (Some (Totals event)) answered after = S before (Totals event) answered after
Answers S before (Some Quit) answered after = ⊥
Answers S before None answered after = (answered ≡ Unread) × (after ≡ before)

-- the lines were given these answers, in order, one step after another
abbrev pub Chain : {A : Type 0} → Steps A → A → List (List ℕ) → List Answered → A → Type 0
Chain S before [] [] after = after ≡ before
Chain {A} S before (line ∷ lines) (answered ∷ answers) after = (mid : A) × Answers S before (session_line_of line) answered mid
    × Chain S mid lines answers after
Chain S before [] (answered ∷ answers) after = ⊥
Chain S before (line ∷ lines) [] after = ⊥

-- a line that asks this was given this answer
pub record WasAnswered (lines : List (List ℕ)) (answers : List Answered) (asked : Line) (answered : Answered) : Type 0 where
  pub place : ℕ
  pub line : List ℕ
  pub stands : slice_get lines place ≡ Some line
  pub asks : session_line_of line ≡ Some asked
  pub given : slice_get answers place ≡ Some answered

-- the answer to a line, and none to the last
abbrev pub LineAnswered : {A : Type 0} → Steps A → List ℕ → A → A → Option Answered → Type 0
LineAnswered S line before after None = (session_line_of line ≡ Some Quit) × (after ≡ before)
LineAnswered S line before after (Some answered) = Answers S before (session_line_of line) answered after

-- this line was read, and may be there
abbrev pub IsRead : Option (List ℕ) → Option (List ℕ) → List ℕ → Type 0
IsRead input rest line = (length line ≤ longest_line) × Between input rest (λ xs ys. lines_of xs ≡ line ∷ lines_of ys)

-- a line that was read, and its answer
pub record Replied {A : Type 0} (S : Steps A) (input rest : Option (List ℕ)) (before after : A) : Type 0 where
  pub line : List ℕ
  pub answered : Answered
  pub read : IsRead input rest line
  pub step : Answers S before (session_line_of line) answered after

-- one line of a session, or how it ends there
abbrev pub NextTalked : {A : Type 0} → Steps A → Option (List ℕ) → Option (List ℕ) → Option (List ℕ) → Option (List ℕ) → A → A
    → Result (Option Ended) TalkFault → Type 0
NextTalked S input rest old new before after (Ok None) = (r : Replied S input rest before after) × Appends old new (reply_line r.answered)
NextTalked S input rest old new before after (Ok (Some ended.Quit)) = (line : List ℕ) × IsRead input rest line × (session_line_of line ≡ Some Quit)
    × Keeps old new × (after ≡ before)
NextTalked S input rest old new before after (Ok (Some ended.EndOfInput)) = Between input rest (λ xs ys. (lines_of xs ≡ []) × (lines_of ys ≡ []))
    × Keeps old new × (after ≡ before)
NextTalked S input rest old new before after (Err fault.Read) = Keeps old new × (after ≡ before)
NextTalked S input rest old new before after (Err fault.LineTooLong) = Between input rest (λ xs ys. BeginsTooLong (lines_of xs)) × Keeps old new
    × (after ≡ before) × ((line : List ℕ) × GivesUp input rest line)
NextTalked S input rest old new before after (Err fault.Write) = (r : Replied S input rest before after) × AppendsFront old new (reply_line r.answered)
NextTalked S input rest old new before after (Err _) = ⊥

-- Of the lines that are taken from the input these were answered, where a session ends so: all of them, behind which the input ends as the fault
-- says; those before `quit`; or the first of them.
abbrev pub EndsAt : Result Ended TalkFault → List (List ℕ) → TakenLines → Type 0
EndsAt (Ok ended.EndOfInput) lines t = t ≡ record { lines = lines; end = AtEnd }
EndsAt (Ok ended.Quit) lines t = (quit : List ℕ) × (more : List (List ℕ)) × (session_line_of quit ≡ Some Quit) × (t.lines ≡ lines ++ quit ∷ more)
EndsAt (Err fault.LineTooLong) lines t = t ≡ record { lines = lines; end = AtLongLine }
EndsAt (Err fault.TooLong) lines t = t ≡ record { lines = lines; end = AtTooMany }
EndsAt (Err fault.Read) lines t = (more : List (List ℕ)) × (t.lines ≡ lines ++ more)
EndsAt (Err fault.Write) lines t = (lines ≢ []) × ((more : List (List ℕ)) × (t.lines ≡ lines ++ more))
EndsAt (Err fault.Memory) lines t = lines ≡ []
EndsAt (Err fault.NotStarted) lines t = ⊥

-- All reply lines went out. Where a write failed it was that of the last: those before it went out, and a front of it. A session that was not started is none.
abbrev pub Wrote : Result Ended TalkFault → Option (List ℕ) → Option (List ℕ) → List Answered → Type 0
Wrote (Err fault.Write) old new answers =
    (earlier : List Answered) × (last : Answered) × (front : List ℕ) × (rest : List ℕ)
    × (answers ≡ earlier ++ last ∷ []) × (reply_line last ≡ front ++ rest) × Appends old new (flat_map reply_line earlier ++ front)
Wrote (Err fault.NotStarted) old new answers = ⊥
Wrote _ old new answers = Appends old new (flat_map reply_line answers)

-- A session: the lines that were answered, their answers in order, and their reply lines. Where it wants memory, none was asked.
pub record Talked {A : Type 0} (S : Steps A) (input old new : Option (List ℕ)) (before after : A) (result : Result Ended TalkFault) : Type 0 where
  pub lines : List (List ℕ)
  pub answers : List Answered
  pub read : IfSome input (λ xs. EndsAt result lines (taken most_lines (lines_of xs)))
  pub unasked : result ≡ Err fault.Memory → lines ≡ []
  pub chain : Chain S before lines answers after
  pub written : Wrote result old new answers
