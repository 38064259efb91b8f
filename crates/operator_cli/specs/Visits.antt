-- What is asked of an open office, and how a command ends by its answer. (Our own.)
use Rattle.std.specs.Prelude.{◌≡◌, ◌≢◌, ◌⊎◌, ⊤, ℕ, ◌<◌, ◌≤◌, Bool, true, false, not, ◌||◌, List, [], ◌∷◌, ◌++◌, All, Option, Some, None, Result, Ok, Err, IfSome, if◌then◌else◌, codes, length, nat_lt}
use Rattle.std.specs.List.{flat_map}
use Rattle.std.specs.Str.{bytes_eq}
use Rattle.std.specs.Fmt.{decimal}
use Rattle.std.specs.Io.KnownBytes.{Appends, Consumes, Keeps}
use Rattle.plain_words.specs.Input.{IsPartOfLine}
use Rattle.plain_words.specs.Writing.{AppendsFront}
use Rattle.rights_lattice.specs.EventName.{IsEventName}
use Rattle.operator_cli.specs.declared.status.Status.{Status}
use Rattle.operator_cli.specs.declared.status.Status.TheVariants.{Done, Refused, NotUnderstood, Failed}
use Rattle.operator_cli.specs.declared.command_fault.CommandFault.{CommandFault}
use Rattle.operator_cli.specs.declared.command_fault.CommandFault.TheVariants as fault
use Rattle.site_exchange.specs.declared.message.Message.{Message}
use Rattle.delta_wire.specs.declared.fault.WireFault.{WireFault}
use Rattle.delta_wire.specs.Grammar.{message_text, most_bytes}
use Rattle.delta_wire.specs.Wire.{message_of}
use Rattle.operator_cli.specs.CommandReply.{FaultTold, ended_by_wire}
use Rattle.operator_cli.specs.declared.told.CommandReply.TheVariants.{TooLong, Unknown, Unread}
use Rattle.operator_cli.specs.declared.visits.Expected.{Expected}
use Rattle.operator_cli.specs.declared.visits.Expected.TheVariants as expected
use Rattle.operator_cli.specs.Opened.{FailsFor}
use Rattle.operator_cli.specs.Printed.{IsOfLooking, IsTellingOf, Printed}

-- a line with its line break, and several
abbrev pub line_text : List ℕ → List ℕ
line_text line = line ++ 10 ∷ []

abbrev pub lines_text : List (List ℕ) → List ℕ
lines_text lines = flat_map line_text lines

-- the lines that ask
abbrev pub find_question : ℕ → List ℕ
find_question number = codes "find " ++ decimal number

abbrev pub list_question : List ℕ → List ℕ
list_question event = codes "list " ++ event

abbrev pub shares_question : List ℕ → List ℕ
shares_question event = codes "shares " ++ event

abbrev pub export_question : ℕ → List ℕ
export_question to = codes "export " ++ decimal to

-- why an office does not answer; an office that does not know the line is none
abbrev pub trouble : List ℕ → Option CommandFault
trouble line =
    if bytes_eq line (codes "memory") then Some fault.Memory else (
    if bytes_eq line (codes "closed") then Some fault.Store else (
    if bytes_eq line (codes "store") then Some fault.Store else (
    if bytes_eq line (codes "full") then Some fault.Full else (
    if bytes_eq line (codes "idle") then Some fault.Full else (
    if bytes_eq line (codes "bad-line") then Some fault.NotOpen else None)))))

-- there is nothing that was asked for
abbrev pub is_nothing : List ℕ → Bool
is_nothing line =
    bytes_eq line (codes "none") || bytes_eq line (codes "nothing") || bytes_eq line (codes "no-site") || bytes_eq line (codes "unknown")

abbrev pub ending : Option CommandFault → Bool → Result Status CommandFault
ending (Some cause) refused = Err cause
ending None refused = Ok (if refused then Refused else Done)

-- how a command ends by the first line of an answer
abbrev pub heard : List ℕ → Result Status CommandFault
heard line = ending (trouble line) (is_nothing line)

-- what an office sent begins with this text, as far as it is known
abbrev pub Begins : Option (List ℕ) → List ℕ → Type 0
Begins sent text = IfSome sent (λ bytes. (rest : List ℕ) × (bytes ≡ text ++ rest))

-- what was printed is a prefix of what an office sent
abbrev pub PassesOn : Option (List ℕ) → Option (List ℕ) → Option (List ℕ) → Type 0
PassesOn sent old new = (text : List ℕ) × Begins sent text × AppendsFront old new text

-- the one line of an answer
pub record IsOneLine (sent : Option (List ℕ)) (status : Status) (text : List ℕ) : Type 0 where
  pub line : List ℕ
  pub is_line : IsPartOfLine line
  pub sent_first : Begins sent text
  pub ends_so : heard line ≡ Ok status
  pub is_text : text ≡ line_text line

-- a line that comes before `end`, and several
abbrev pub ComesBeforeEnd : List ℕ → Type 0
ComesBeforeEnd line = IsPartOfLine line × (line ≢ codes "end")

abbrev pub ComeBeforeEnd : List (List ℕ) → Type 0
ComeBeforeEnd lines = All ComesBeforeEnd lines

-- of the lines behind the first: what the office sends, and what of it is printed
abbrev pub rest_sent : Expected → List (List ℕ) → List ℕ
rest_sent expected.Line lines = []
rest_sent expected.Rows lines = lines_text lines ++ line_text (codes "end")
rest_sent expected.Message lines = lines_text lines ++ line_text (codes "end")

abbrev pub rest_printed : Expected → List (List ℕ) → List ℕ
rest_printed expected.Line lines = []
rest_printed expected.Rows lines = lines_text lines
rest_printed expected.Message lines = lines_text lines ++ line_text (codes "end")

-- a whole answer: one line, or lines up to `end`
pub record IsWholeAnswer (kind : Expected) (sent : Option (List ℕ)) (text : List ℕ) : Type 0 where
  pub first : List ℕ
  pub is_line : IsPartOfLine first
  pub lines : List (List ℕ)
  pub none_is_end : ComeBeforeEnd lines
  pub ends_so : heard first ≡ Ok Done
  pub sent_first : Begins sent (line_text first ++ rest_sent kind lines)
  pub is_text : text ≡ line_text first ++ rest_printed kind lines

-- it is printed; or the one line that says that there is nothing
abbrev pub IsAnswer : Expected → Option (List ℕ) → Status → List ℕ → Type 0
IsAnswer kind sent Done text = IsWholeAnswer kind sent text
IsAnswer kind sent status text = IsOneLine sent status text

-- the first line was printed
pub record FirstPrinted (sent left old new : Option (List ℕ)) (status : Status) : Type 0 where
  pub line : List ℕ
  pub is_line : IsPartOfLine line
  pub ends_so : heard line ≡ Ok status
  pub read : Consumes sent left (line_text line)
  pub printed : Appends old new (line_text line)

-- and those behind it
pub record RestPrinted (kind : Expected) (sent left old new : Option (List ℕ)) : Type 0 where
  pub lines : List (List ℕ)
  pub none_is_end : ComeBeforeEnd lines
  pub read : Consumes sent left (rest_sent kind lines)
  pub printed : Appends old new (rest_printed kind lines)

-- the lines up to `end` were passed on
pub record PassedAll (sent left old new : Option (List ℕ)) : Type 0 where
  pub lines : List (List ℕ)
  pub none_is_end : ComeBeforeEnd lines
  pub read : Consumes sent left (lines_text lines ++ line_text (codes "end"))
  pub printed : Appends old new (lines_text lines)

-- the next line was passed on, or was the last; it could not be written, or none came
abbrev pub PassedNext : Option (List ℕ) → Option (List ℕ) → Option (List ℕ) → Option (List ℕ) → Result Bool CommandFault → Type 0
PassedNext sent left old new (Ok true) = (line : List ℕ) × ComesBeforeEnd line × Consumes sent left (line_text line) × Appends old new (line_text line)
PassedNext sent left old new (Ok false) = Consumes sent left (line_text (codes "end")) × (new ≡ old)
PassedNext sent left old new (Err cause) = PassesOn sent old new

-- what ends a visit early: out of memory, a failed write, an office that does not answer, or its first line says so
abbrev pub IsVisitEnd : Option (List ℕ) → CommandFault → Type 0
IsVisitEnd sent cause =
    (cause ≡ fault.Memory) ⊎ (cause ≡ fault.Write) ⊎ (cause ≡ fault.NotOpen)
    ⊎ ((line : List ℕ) × IsPartOfLine line × Begins sent (line_text line) × (trouble line ≡ Some cause))

-- what a command has asked, printed and told
pub record Streams : Type 0 where
  pub asked : Option (List ℕ)
  pub out : Option (List ℕ)
  pub err : Option (List ℕ)

abbrev pub streams : Option (List ℕ) → Option (List ℕ) → Option (List ℕ) → Streams
streams asked out err = record { asked = asked; out = out; err = err }

-- An office that sent this was asked a line, or a prefix of it where the command failed; its answer was printed, or a prefix
-- of what it sent; and what failed was told.
pub record IsVisit (kind : Expected) (question : List ℕ) (sent : Option (List ℕ)) (old new : Streams) (status : Status) : Type 0 where
  pub asked : AppendsFront old.asked new.asked (line_text question)
  pub whole : status ≢ Failed → Appends old.asked new.asked (line_text question)
  pub printed : Printed (IsAnswer kind sent) old.out new.out status
  pub passes : PassesOn sent old.out new.out
  pub told : FaultTold old.err new.err status
  pub cause : FailsFor (IsVisitEnd sent) old.err new.err status

-- No office is asked for a word that is no event name.
pub record IsUnasked (old new : Streams) (status : Status) : Type 0 where
  pub same : new.asked ≡ old.asked
  pub printed : Printed (IsTellingOf IsOfLooking) old.out new.out status
  pub told : FaultTold old.err new.err status
  pub cause : FailsFor (λ cause. cause ≡ fault.Write) old.err new.err status

-- an office is asked for the rows of an event
abbrev pub IsRowsVisit : List ℕ → Option (List ℕ) → Streams → Streams → Status → Type 0
IsRowsVisit event sent old new status =
    (IsEventName event × IsVisit expected.Rows (list_question event) sent old new status)
    ⊎ ((IsEventName event → ⊥) × IsUnasked old new status)

-- an office is asked for the shares of an event, and of a word that is no event name it is told that it is not known
pub record IsUnknownUnasked (old new : Streams) (status : Status) : Type 0 where
  pub same : new.asked ≡ old.asked
  pub printed : Printed (IsTellingOf (λ told. told ≡ Unknown)) old.out new.out status
  pub told : FaultTold old.err new.err status
  pub cause : FailsFor (λ cause. cause ≡ fault.Write) old.err new.err status

abbrev pub IsSharesVisit : List ℕ → Option (List ℕ) → Streams → Streams → Status → Type 0
IsSharesVisit event sent old new status =
    (IsEventName event × IsVisit expected.Rows (shares_question event) sent old new status)
    ⊎ ((IsEventName event → ⊥) × IsUnknownUnasked old new status)

-- ---- a message that is brought

-- the line that asks to take a message, and the message
abbrev pub import_question : Message → List ℕ
import_question message = line_text (codes "import") ++ message_text message

-- what is asked of the bytes of an input: nothing where they are no message
abbrev pub question_of_read : Result Message WireFault → List ℕ
question_of_read (Ok message) = import_question message
question_of_read (Err cause) = []

abbrev pub question_of_bytes : List ℕ → List ℕ
question_of_bytes bytes = if nat_lt most_bytes (length bytes) then [] else question_of_read (message_of bytes)

-- the message was taken, which an acknowledgement follows or does not
abbrev pub brings_ack : List ℕ → Bool
brings_ack line = bytes_eq line (codes "joined") || bytes_eq line (codes "nothing-new")

abbrev pub is_taken : List ℕ → Bool
is_taken line = brings_ack line || bytes_eq line (codes "acked")

-- how a command ends by the line that says what was done with a message
abbrev pub heard_of_taking : List ℕ → Result Status CommandFault
heard_of_taking line = ending (trouble line) (not (is_taken line))

-- that line
pub record IsTakingLine (sent : Option (List ℕ)) (status : Status) (text : List ℕ) : Type 0 where
  pub line : List ℕ
  pub is_line : IsPartOfLine line
  pub sent_first : Begins sent text
  pub ends_so : heard_of_taking line ≡ Ok status
  pub is_text : text ≡ line_text line

-- what is told of bytes that are no message
abbrev pub IsUnreadOf : WireFault → Status → List ℕ → Type 0
IsUnreadOf cause = IsTellingOf (λ told. (told ≡ Unread cause) × (ended_by_wire cause ≡ Ok told))

-- a message is brought, and what is none is told
abbrev pub IsBroughtOf : Result Message WireFault → Option (List ℕ) → Status → List ℕ → Type 0
IsBroughtOf (Ok message) sent status text = IsTakingLine sent status text
IsBroughtOf (Err cause) sent status text = IsUnreadOf cause status text

-- the same of the bytes of an input, where they are known
abbrev pub IsBroughtBy : List ℕ → Option (List ℕ) → Status → List ℕ → Type 0
IsBroughtBy bytes sent status text =
    (most_bytes < length bytes × IsTellingOf (λ told. told ≡ TooLong) status text)
    ⊎ (length bytes ≤ most_bytes × IsBroughtOf (message_of bytes) sent status text)

abbrev pub IsBroughtText : Option (List ℕ) → Option (List ℕ) → Status → List ℕ → Type 0
IsBroughtText input sent status text = IfSome input (λ bytes. IsBroughtBy bytes sent status text)

-- what ends that early
abbrev pub IsBringEnd : Option (List ℕ) → CommandFault → Type 0
IsBringEnd sent cause = (cause ≡ fault.Read) ⊎ IsVisitEnd sent cause
