-- What a session at an open office reads, answers and writes. (Our own.)
use Rattle.std.specs.Prelude.{◌≡◌, ◌≢◌, ℕ, List, [], ◌∷◌, ◌++◌, Option, Some, None, Result, Ok, Err, IfSome}
use Rattle.std.specs.List.{flat_map}
use Rattle.std.specs.Io.KnownBytes.{Appends, Keeps}
use Rattle.plain_words.specs.Input.{lines_of, Between, BeginsTooLong, GivesUp, AtEnd, AtLongLine, AtTooMany, TakenLines, taken}
use Rattle.plain_words.specs.Writing.{AppendsFront}
use Rattle.desk_lines.specs.Grammar.{most_lines}
use Rattle.session_server.specs.declared.fault.TalkFault.{TalkFault}
use Rattle.session_server.specs.declared.fault.TalkFault.TheVariants as fault
use Rattle.session_server.specs.Session.{IsRead}
use Rattle.live_office.specs.declared.handler.Last.{Last}

-- how a handler answers a line by a text, which may be empty, and what it is then
abbrev pub TextSteps : Type 0 → Type 1
TextSteps A = A → List ℕ → List ℕ → A → Type 0

-- that a line is the last that it handles
abbrev pub Endings : Type 0 → Type 1
Endings A = A → List ℕ → Last → Type 0

-- all texts, one after another
abbrev pub whole : List (List ℕ) → List ℕ
whole texts = flat_map (λ (text : List ℕ). text) texts

-- the lines were answered by these texts, in order, one step after another
abbrev pub Chain : {A : Type 0} → TextSteps A → A → List (List ℕ) → List (List ℕ) → A → Type 0
Chain S before [] [] after = after ≡ before
Chain {A} S before (line ∷ lines) (text ∷ texts) after = (mid : A) × S before line text mid × Chain S mid lines texts after
Chain S before [] (text ∷ texts) after = ⊥
Chain S before (line ∷ lines) [] after = ⊥

-- a line that was read, and the text that answers it
pub record Replied {A : Type 0} (S : TextSteps A) (input rest : Option (List ℕ)) (before after : A) : Type 0 where
  pub line : List ℕ
  pub text : List ℕ
  pub read : IsRead input rest line
  pub step : S before line text after

-- one line of a session, or how it ends there
abbrev pub NextOfficeTalked : {A : Type 0} → TextSteps A → Endings A → Option (List ℕ) → Option (List ℕ) → Option (List ℕ) → Option (List ℕ) → A → A
    → Result (Option (Option Last)) TalkFault → Type 0
NextOfficeTalked S E input rest old new before after (Ok None) = (r : Replied S input rest before after) × Appends old new r.text
NextOfficeTalked S E input rest old new before after (Ok (Some (Some last))) = (line : List ℕ) × IsRead input rest line × E before line last
    × Keeps old new × (after ≡ before)
NextOfficeTalked S E input rest old new before after (Ok (Some None)) = Between input rest (λ xs ys. (lines_of xs ≡ []) × (lines_of ys ≡ []))
    × Keeps old new × (after ≡ before)
NextOfficeTalked S E input rest old new before after (Err fault.Read) = Keeps old new × (after ≡ before)
NextOfficeTalked S E input rest old new before after (Err fault.LineTooLong) = Between input rest (λ xs ys. BeginsTooLong (lines_of xs)) × Keeps old new
    × (after ≡ before) × ((line : List ℕ) × GivesUp input rest line)
NextOfficeTalked S E input rest old new before after (Err fault.Write) = (r : Replied S input rest before after) × AppendsFront old new r.text
NextOfficeTalked S E input rest old new before after (Err _) = ⊥

-- Of the lines that are taken from the input, these were answered where a session ends so: all of them, after which the input ends as the
-- fault says; those before the last line; or the first of them.
abbrev pub EndsAt : {A : Type 0} → Endings A → A → Result (Option Last) TalkFault → List (List ℕ) → TakenLines → Type 0
EndsAt E after (Ok None) lines t = t ≡ record { lines = lines; end = AtEnd }
EndsAt E after (Ok (Some last)) lines t = (line : List ℕ) × (more : List (List ℕ)) × E after line last × (t.lines ≡ lines ++ line ∷ more)
EndsAt E after (Err fault.LineTooLong) lines t = t ≡ record { lines = lines; end = AtLongLine }
EndsAt E after (Err fault.TooLong) lines t = t ≡ record { lines = lines; end = AtTooMany }
EndsAt E after (Err fault.Read) lines t = (more : List (List ℕ)) × (t.lines ≡ lines ++ more)
EndsAt E after (Err fault.Write) lines t = (lines ≢ []) × ((more : List (List ℕ)) × (t.lines ≡ lines ++ more))
EndsAt E after (Err fault.Memory) lines t = lines ≡ []
EndsAt E after (Err fault.NotStarted) lines t = ⊥

-- All texts went out. A write that failed was that of the last text: those before it went out, and a prefix of it.
abbrev pub Wrote : Result (Option Last) TalkFault → Option (List ℕ) → Option (List ℕ) → List (List ℕ) → Type 0
Wrote (Err fault.Write) old new texts =
    (earlier : List (List ℕ)) × (last : List ℕ) × (front : List ℕ) × (rest : List ℕ)
    × (texts ≡ earlier ++ last ∷ []) × (last ≡ front ++ rest) × Appends old new (whole earlier ++ front)
Wrote (Err fault.NotStarted) old new texts = ⊥
Wrote _ old new texts = Appends old new (whole texts)

-- A session: the lines that were answered, and their texts in order. Without memory for its buffer, none was answered.
pub record OfficeTalked {A : Type 0} (S : TextSteps A) (E : Endings A) (input old new : Option (List ℕ)) (before after : A)
    (result : Result (Option Last) TalkFault) : Type 0 where
  pub lines : List (List ℕ)
  pub texts : List (List ℕ)
  pub read : IfSome input (λ xs. EndsAt E after result lines (taken most_lines (lines_of xs)))
  pub unasked : result ≡ Err fault.Memory → lines ≡ []
  pub chain : Chain S before lines texts after
  pub written : Wrote result old new texts
