-- What is passed on of the answers of an office.
use Rattle.std.proofs.Common.{◌≡◌, ◌≢◌, ◌⊎◌, inl, inr, ◌<◌, ◌≤◌, length, ℕ, List, [], ◌∷◌, ◌++◌, Option, Some, None, Result, Ok, Err, true, false, refl, sym, ap, ◌∙◌, subst, append_assoc, append-nil}
use Rattle.std.specs.Prelude.{Bool, nat_lt, ◌==◌, if◌then◌else◌, IfSome, IsErr, IsErrAnd, codes, All, IfOk, IfErr, OnOk, MatchResult}
use Rattle.std.specs.Io.KnownBytes.{Appends, Consumes, Keeps, prepend_known}
use Rattle.std.specs.declared.io.buffered.BufReader.{BufReader}
use Rattle.std.specs.Io.Buffered.{reader_buffer, reader_capacity, reader_inner, reader_remaining}
use Rattle.std.proofs.KnownBytes.{Appends-nil, Appends-trans, Appends-kept, Consumes-nil, Consumes-trans, Keeps-refl}
use Rattle.std.proofs.lemmas.Bool.{cond-false, cond-true, le-ltb, lt-ltb}
use Rattle.std.specs.List.{AllByRecursion}
use Rattle.std.proofs.lemmas.List.{flat_map_more}
use Rattle.std.proofs.lemmas.List.Elements.{All-from_recursion}
use Rattle.plain_words.specs.Input.{IsPartOfLine}
use Rattle.plain_words.specs.Writing.{AppendsFront, Writes}
use Rattle.plain_words.proofs.TextLaws.{all_end}
use Rattle.plain_words.proofs.WriteLaws.{AppendsFront-after, AppendsFront-nothing, AppendsFront-kept, AppendsFront-longer}
use Rattle.operator_cli.specs.declared.status.Status.{Status}
use Rattle.operator_cli.specs.declared.status.Status.TheVariants.{Done, Refused, NotUnderstood, Failed}
use Rattle.operator_cli.specs.declared.command_fault.CommandFault.{CommandFault}
use Rattle.operator_cli.specs.declared.command_fault.CommandFault.TheVariants as fault
use Rattle.operator_cli.specs.declared.visits.Expected.{Expected}
use Rattle.operator_cli.specs.declared.visits.Expected.TheVariants as expected
use Rattle.operator_cli.specs.Opened.{FailsFor}
use Rattle.operator_cli.specs.Printed.{Printed}
use Rattle.site_exchange.specs.declared.message.Message.{Message}
use Rattle.delta_wire.specs.Grammar.{most_bytes}
use Rattle.delta_wire.specs.Wire.{Gives, message_of}
use Rattle.delta_wire.specs.declared.fault.WireFault.{WireFault}
use Rattle.delta_wire.specs.declared.fault.WireFault.TheVariants as wire
use Rattle.operator_cli.specs.declared.told.CommandReply.{CommandReply}
use Rattle.operator_cli.specs.declared.told.CommandReply.TheVariants.{TooLong, Unread}
use Rattle.operator_cli.specs.CommandReply.{ended_by_wire, command_fault_line, told_line}
use Rattle.operator_cli.proofs.PrintLaws.{ok_unless_failed, printed_told}
use Rattle.operator_cli.specs.Visits.{Begins, ComeBeforeEnd, ComesBeforeEnd, FirstPrinted, IsAnswer, IsBringEnd, IsBroughtOf, IsBroughtText, IsOneLine, IsUnreadOf, IsVisitEnd, IsWholeAnswer, PassedAll, PassedNext, PassesOn, RestPrinted, ending, heard, trouble, line_text, lines_text, question_of_bytes, question_of_read, rest_printed, rest_sent}

abbrev Bytes : Type 0
Bytes = Option (List ℕ)

-- what was read is what was sent first
pub begins : (a b : Bytes) (text : List ℕ) → Consumes a b text → Begins a text
begins None b text h = tt
begins (Some x) None text h = absurd h
begins (Some x) (Some y) text h = (y, h)

pub begins_after : (a b : Bytes) (xs ys : List ℕ) → Consumes a b xs → Begins b ys → Begins a (xs ++ ys)
begins_after None b xs ys h k = tt
begins_after (Some x) None xs ys h k = absurd h
begins_after (Some x) (Some y) xs ys h k = (k.0, h ∙ ap (λ (l : List ℕ). xs ++ l) k.1 ∙ sym (append_assoc xs ys k.0))

begins_nothing : (a : Bytes) → Begins a []
begins_nothing None = tt
begins_nothing (Some x) = (x, refl)

-- nothing was printed
pub passes_nothing : (sent old : Bytes) → PassesOn sent old old
passes_nothing sent old = ([], begins_nothing sent, ([], [], refl, Appends-nil old))

-- what was printed was read
pub passes_text : (sent left old new : Bytes) (text : List ℕ) → Consumes sent left text → AppendsFront old new text → PassesOn sent old new
passes_text sent left old new text read front = (text, begins sent left text read, front)

pub passes_whole : (sent left old new : Bytes) (text : List ℕ) → Consumes sent left text → Appends old new text → PassesOn sent old new
passes_whole sent left old new text read h = passes_text sent left old new text read (text, [], sym (append-nil text), h)

pub passes_after : (sent left old mid new : Bytes) (text : List ℕ) → Consumes sent left text → Appends old mid text → PassesOn left mid new
    → PassesOn sent old new
passes_after sent left old mid new text read printed k =
    (text ++ k.0, begins_after sent left text k.0 read k.1, AppendsFront-after old mid new text k.0 printed k.2)

pub passes_kept : (sent old new newer : Bytes) → PassesOn sent old new → Keeps new newer → PassesOn sent old newer
passes_kept sent old new newer h k = (h.0, h.1, AppendsFront-kept old new newer h.0 h.2 k)

-- ---- the lines before `end`

pub record PassedSome (sent left old new : Bytes) : Type 0 where
  pub lines : List (List ℕ)
  pub none_is_end : AllByRecursion ComesBeforeEnd lines
  pub read : Consumes sent left (lines_text lines)
  pub printed : Appends old new (lines_text lines)

pub passed_none : (sent old : Bytes) → PassedSome sent sent old old
passed_none sent old = record { lines = []; none_is_end = tt; read = Consumes-nil sent; printed = Appends-nil old }

more_text : (lines : List (List ℕ)) (line : List ℕ) → lines_text lines ++ line_text line ≡ lines_text (lines ++ line ∷ [])
more_text lines line = flat_map_more line_text [] lines line

pub passed_more : (sent left left' old new new' : Bytes) → PassedSome sent left old new → PassedNext left left' new new' (Ok true)
    → PassedSome sent left' old new'
passed_more sent left left' old new new' h k = record {
  lines = h.lines ++ k.0 ∷ [];
  none_is_end = all_end ComesBeforeEnd h.lines k.0 h.none_is_end k.1;
  read = subst (Consumes sent left') (more_text h.lines k.0) (Consumes-trans sent left left' (lines_text h.lines) (line_text k.0) h.read k.2);
  printed = subst (Appends old new') (more_text h.lines k.0) (Appends-trans old new new' (lines_text h.lines) (line_text k.0) h.printed k.3);
}

pub passed_all : (sent left left' old new new' : Bytes) → PassedSome sent left old new → PassedNext left left' new new' (Ok false)
    → PassedAll sent left' old new'
passed_all sent left left' old new new' h k = record {
  lines = h.lines;
  none_is_end = All-from_recursion ComesBeforeEnd h.lines h.none_is_end;
  read = Consumes-trans sent left left' (lines_text h.lines) (line_text (codes "end")) h.read k.0;
  printed = subst (λ (n : Bytes). Appends old n (lines_text h.lines)) (sym k.1) h.printed;
}

pub passed_off : (sent left old new newer : Bytes) → PassedSome sent left old new → PassesOn left new newer → PassesOn sent old newer
passed_off sent left old new newer h k = passes_after sent left old new newer (lines_text h.lines) h.read h.printed k

pub unpassed : (sent left old new : Bytes) (r : Result Bool CommandFault) → IsErr r → PassesOn sent old new → PassedNext sent left old new r
unpassed sent left old new (Ok x) h k = absurd cc
unpassed sent left old new (Err e) h k = k

pub passed_some : (sent left old new : Bytes) → PassedSome sent left old new → PassesOn sent old new
passed_some sent left old new h = passes_whole sent left old new (lines_text h.lines) h.read h.printed

-- ---- the whole answer

-- one line that is not the first of more
one_line : (kind : Expected) (sent left old new : Bytes) (status : Status) → FirstPrinted sent left old new status → status ≢ Done
    → Printed (IsAnswer kind sent) old new status
one_line kind sent left old new Done h other = absurd (other refl)
one_line kind sent left old new Refused h other
    = (
      line_text h.line,
      record {
        line = h.line;
        is_line = h.is_line;
        sent_first = begins sent left (line_text h.line) h.read;
        ends_so = h.ends_so;
        is_text = refl;
      },
      h.printed,
    )
one_line kind sent left old new NotUnderstood h other
    = (
      line_text h.line,
      record {
        line = h.line;
        is_line = h.is_line;
        sent_first = begins sent left (line_text h.line) h.read;
        ends_so = h.ends_so;
        is_text = refl;
      },
      h.printed,
    )
one_line kind sent left old new Failed h other = tt

pub only_first : (kind : Expected) (sent left old new : Bytes) (status : Status) → FirstPrinted sent left old new status → status ≢ Done
    → Printed (IsAnswer kind sent) old new status
only_first = one_line

pub all_lines : (kind : Expected) (sent left last old mid new : Bytes) (status : Status) → status ≡ Done → FirstPrinted sent left old mid status
    → RestPrinted kind left last mid new → Printed (IsAnswer kind sent) old new status
all_lines kind sent left last old mid new status is h k =
    subst (Printed (IsAnswer kind sent) old new) (sym is) (
      line_text h.line ++ rest_printed kind k.lines,
      record {
        first = h.line;
        is_line = h.is_line;
        lines = k.lines;
        none_is_end = k.none_is_end;
        ends_so = h.ends_so ∙ ap Ok is;
        sent_first = begins sent last _ (Consumes-trans sent left last (line_text h.line) (rest_sent kind k.lines) h.read k.read);
        is_text = refl;
      },
      Appends-trans old mid new (line_text h.line) (rest_printed kind k.lines) h.printed k.printed,
    )

pub first_passes : (sent left old new : Bytes) (status : Status) → FirstPrinted sent left old new status → PassesOn sent old new
first_passes sent left old new status h = passes_whole sent left old new (line_text h.line) h.read h.printed

-- ---- why it failed

troubled : (t : Option CommandFault) (refused : Bool) (f : CommandFault) → ending t refused ≡ Err f → t ≡ Some f
troubled None refused f e = cc
troubled (Some g) refused f e = let same : g ≡ f = cc in ap Some same

-- what the first line says
pub said_end : (sent left : Bytes) (line : List ℕ) (refused : Bool) (f : CommandFault) → IsPartOfLine line × Consumes sent left (line_text line)
    → ending (trouble line) refused ≡ Err f → IsVisitEnd sent f
said_end sent left line refused f (is_line, read) says = inr
    (inr (inr (line, is_line, begins sent left (line_text line) read, troubled (trouble line) refused f says)))

pub lost_end : (sent : Bytes) (f : CommandFault) → f ≡ fault.NotOpen → IsVisitEnd sent f
lost_end sent f e = inr (inr (inl e))

pub write_end : (sent : Bytes) (f : CommandFault) → f ≡ fault.Write → IsVisitEnd sent f
write_end sent f e = inr (inl e)

pub write_ends : (r : Result Status CommandFault) (sent : Bytes) → OnOk r (IsVisitEnd sent fault.Write)
write_ends (Ok s) sent = write_end sent fault.Write refl
write_ends (Err f) sent = tt

pub fails_only : (r : Result Status CommandFault) → OnOk r (fault.Write ≡ fault.Write)
fails_only (Ok s) = refl
fails_only (Err f) = tt

pub memory_end : (sent : Bytes) (f : CommandFault) → f ≡ fault.Memory → IsVisitEnd sent f
memory_end sent f e = inl e

pub rest_end : (sent : Bytes) (f : CommandFault) → (f ≡ fault.NotOpen) ⊎ (f ≡ fault.Write) → IsVisitEnd sent f
rest_end sent f (inl e) = lost_end sent f e
rest_end sent f (inr e) = write_end sent f e

-- ---- what was asked

pub written_kept : {T E : Type 0} (a b c : Bytes) (r : Result T E) (text : List ℕ) → Appends a b text → Keeps b c → Writes a c r text
written_kept a b c (Ok x) text h k = Appends-kept a b c text h k
written_kept a b c (Err e) text h k = AppendsFront-kept a b c text (text, [], sym (append-nil text), h) k

-- ---- a command that could not begin

pub fails_with : (P : CommandFault → Type 0) (a b : Bytes) (f : CommandFault) (status : Status) → P f → AppendsFront a b (command_fault_line f)
    → FailsFor P a b status
fails_with P a b f status p h failed = (f, p, h)

pub failed_prints : (P : Status → List ℕ → Type 0) (a b : Bytes) (status : Status) → status ≡ Failed → Printed P a b status
failed_prints P a b status e = subst (Printed P a b) (sym e) tt

pub asks_nothing : (a : Bytes) (text : List ℕ) → AppendsFront a a text
asks_nothing a text = AppendsFront-nothing a a text (Keeps-refl a)

-- ---- errors and their causes

pub errs_as : {T E : Type 0} (r : Result T E) (C : Result T E → Type 0) (Q : E → Type 0) → IsErrAnd r Q → ((e : E) → Q e → C (Err e)) → C r
errs_as (Ok x) C Q h k = absurd h
errs_as (Err e) C Q h k = k e h

begins_part : (a b : Bytes) (xs ys : List ℕ) → Consumes a b (xs ++ ys) → Begins a xs
begins_part None b xs ys h = tt
begins_part (Some x) None xs ys h = absurd h
begins_part (Some x) (Some y) xs ys h = (ys ++ y, h ∙ append_assoc xs ys y)

pub rest_passes : (kind : Expected) (sent left old new : Bytes) → RestPrinted kind sent left old new → PassesOn sent old new
rest_passes expected.Line sent left old new h = passes_whole sent left old new [] h.read h.printed
rest_passes expected.Rows sent left old new h = (
  lines_text h.lines,
  begins_part sent left (lines_text h.lines) (line_text (codes "end")) h.read,
  (lines_text h.lines, [], sym (append-nil (lines_text h.lines)), h.printed),
)
rest_passes expected.Message sent left old new h = passes_whole sent left old new (lines_text h.lines ++ line_text (codes "end")) h.read h.printed

ends_alive : (t : Option CommandFault) (refused : Bool) (s : Status) → ending t refused ≡ Ok s → s ≢ Failed
ends_alive (Some f) refused s e = λ failed. absurd cc
ends_alive None true s e = λ failed. cc
ends_alive None false s e = λ failed. cc

pub first_alive : (line : List ℕ) (refused : Bool) (s : Status) → ending (trouble line) refused ≡ Ok s → s ≢ Failed
first_alive line refused s e = ends_alive (trouble line) refused s e

-- ---- a message that is brought

pub unread_is : (cause : WireFault) (told : CommandReply) → ended_by_wire cause ≡ Ok told → told ≡ Unread cause
unread_is wire.Truncated told e = cc
unread_is (wire.BadLine line) told e = cc
unread_is (wire.OutOfOrder line) told e = cc
unread_is wire.Trailing told e = cc
unread_is wire.Memory told e = absurd cc

pub some_unless_failed : (o : Bytes) (P : List ℕ → Type 0) (came : Result Status CommandFault) (status : Status) → IfSome o (λ b. OnOk came (P b))
    → MatchResult came (λ s. (status ≡ s) ⊎ (status ≡ Failed)) (λ _. status ≡ Failed) → IfSome o (λ b. status ≢ Failed → P b)
some_unless_failed None P came status h e = tt
some_unless_failed (Some b) P came status h e = λ alive. ok_unless_failed (P b) came status h e alive

pub some_when_failed : (o : Bytes) (P : List ℕ → Type 0) (status : Status) → status ≡ Failed → IfSome o (λ b. status ≢ Failed → P b)
some_when_failed None P status e = tt
some_when_failed (Some b) P status e = λ alive. absurd (alive e)

pub asks_nothing_of : (o a : Bytes) (text_of : List ℕ → List ℕ) → IfSome o (λ b. AppendsFront a a (text_of b))
asks_nothing_of None a text_of = tt
asks_nothing_of (Some b) a text_of = asks_nothing a (text_of b)

pub bring_ends : (r : Result Status CommandFault) (sent : Bytes) → OnOk r (IsBringEnd sent fault.Write)
bring_ends (Ok s) sent = inr (write_end sent fault.Write refl)
bring_ends (Err f) sent = tt

-- what is read is that fault, unless memory ran out
wire_gives : (cause : WireFault) (read : Result Message WireFault) (told : CommandReply) → ended_by_wire cause ≡ Ok told → Gives (Err cause) read
    → read ≡ Err cause
wire_gives wire.Truncated read told e gives = gives
wire_gives (wire.BadLine line) read told e gives = gives
wire_gives (wire.OutOfOrder line) read told e gives = gives
wire_gives wire.Trailing read told e gives = gives
wire_gives wire.Memory read told e gives = absurd cc

-- bytes that are no message ask nothing, and are told
pub unread_whole : (q : Bytes) (cause : WireFault) (read : Result Message WireFault) (r : Result Status CommandFault) (a b : Bytes)
    → Gives (Err cause) read → IfOk r (Printed (IsUnreadOf cause) a b) → IfOk r (λ s. s ≢ Failed)
    → OnOk r (Appends q q (question_of_read read))
unread_whole q cause read (Err f) a b gives h alive = tt
unread_whole q cause read (Ok s) a b gives h alive =
    let told = printed_told _ a b s h alive in
    subst (λ (x : Result Message WireFault). Appends q q (question_of_read x)) (sym (wire_gives cause read told.0 told.1.1 gives)) (Appends-nil q)

pub unread_printed : (sent : Bytes) (cause : WireFault) (read : Result Message WireFault) (r : Result Status CommandFault) (a b : Bytes)
    → Gives (Err cause) read → IfOk r (Printed (IsUnreadOf cause) a b) → IfOk r (λ s. s ≢ Failed)
    → IfOk r (Printed (IsBroughtOf read sent) a b)
unread_printed sent cause read (Err f) a b gives h alive = tt
unread_printed sent cause read (Ok s) a b gives h alive =
    let told = printed_told _ a b s h alive in
    subst (λ (x : Result Message WireFault). Printed (IsBroughtOf x sent) a b s) (sym (wire_gives cause read told.0 told.1.1 gives)) h

pub unread_end : (sent : Bytes) (r : Result Status CommandFault) → IfErr r (λ f. (f ≡ fault.Memory) ⊎ (f ≡ fault.Write)) → IfErr r (IsVisitEnd sent)
unread_end sent (Ok s) h = tt
unread_end sent (Err f) (inl e) = memory_end sent f e
unread_end sent (Err f) (inr e) = write_end sent f e

-- the same of the bytes of an input
pub printed_as : (P Q : Status → List ℕ → Type 0) (a b : Bytes) (s : Status) → ((status : Status) (text : List ℕ) → P status text → Q status text)
    → Printed P a b s → Printed Q a b s
printed_as P Q a b Done to h = (h.0, to Done h.0 h.1, h.2)
printed_as P Q a b Refused to h = (h.0, to Refused h.0 h.1, h.2)
printed_as P Q a b NotUnderstood to h = (h.0, to NotUnderstood h.0 h.1, h.2)
printed_as P Q a b Failed to h = tt

pub input_printed : (o sent : Bytes) (items : List ℕ) (r : Result Status CommandFault) (a b : Bytes)
    → IfSome o (λ bytes. (items ≡ bytes) × (length bytes ≤ most_bytes)) → IfOk r (Printed (IsBroughtOf (message_of items) sent) a b)
    → IfOk r (Printed (IsBroughtText o sent) a b)
input_printed o sent items (Err f) a b few h = tt
input_printed None sent items (Ok s) a b few h = printed_as (IsBroughtOf (message_of items) sent) (IsBroughtText None sent) a b s (λ status text p. tt) h
input_printed (Some bytes) sent items (Ok s) a b few h =
    printed_as (IsBroughtOf (message_of items) sent) (IsBroughtText (Some bytes) sent) a b s
    (λ status text p. inr (few.1, subst (λ (l : List ℕ). IsBroughtOf (message_of l) sent status text) few.0 p)) h

pub long_is_told : (o sent : Bytes) → IfSome o (λ bytes. most_bytes < length bytes) → IsBroughtText o sent Refused (told_line TooLong)
long_is_told None sent long = tt
long_is_told (Some bytes) sent long = inl (long, (TooLong, refl, refl, refl))

not_long : (bytes : List ℕ) → length bytes ≤ most_bytes → question_of_bytes bytes ≡ question_of_read (message_of bytes)
not_long bytes few = cond-false (nat_lt most_bytes (length bytes)) [] (question_of_read (message_of bytes)) (le-ltb most_bytes (length bytes) few)

pub input_asked : (o : Bytes) (items : List ℕ) (P : List ℕ → Type 0) → IfSome o (λ bytes. (items ≡ bytes) × (length bytes ≤ most_bytes))
    → P (question_of_read (message_of items)) → IfSome o (λ bytes. P (question_of_bytes bytes))
input_asked None items P few h = tt
input_asked (Some bytes) items P few h = subst P (sym (not_long bytes few.1)) (subst (λ (l : List ℕ). P (question_of_read (message_of l))) few.0 h)

too_long : (bytes : List ℕ) → most_bytes < length bytes → question_of_bytes bytes ≡ []
too_long bytes long = cond-true (nat_lt most_bytes (length bytes)) [] (question_of_read (message_of bytes)) (lt-ltb most_bytes (length bytes) long)

pub long_asks : (o q : Bytes) (r : Result Status CommandFault) → IfSome o (λ bytes. most_bytes < length bytes)
    → IfSome o (λ bytes. OnOk r (Appends q q (question_of_bytes bytes)))
long_asks None q r long = tt
long_asks (Some bytes) q (Ok s) long = subst (Appends q q) (sym (too_long bytes long)) (Appends-nil q)
long_asks (Some bytes) q (Err f) long = tt

-- the last line of a message was printed, or a prefix of it
pub end_passes : {T E : Type 0} (sent left old mid new : Bytes) (r : Result T E) → PassedAll sent left old mid → Writes mid new r (line_text (codes "end"))
    → IfErr r (λ _. PassesOn sent old new)
end_passes sent left old mid new (Ok x) h w = tt
end_passes sent left old mid new (Err e) h w =
    passes_text sent left old new (lines_text h.lines ++ line_text (codes "end")) h.read
    (AppendsFront-after old mid new (lines_text h.lines) (line_text (codes "end")) h.printed w)

-- ---- a reader with a buffer that holds nothing yet

prepend_nil : (known : Bytes) → prepend_known [] known ≡ known
prepend_nil None = refl
prepend_nil (Some xs) = refl

pub not_read_yet : {T A : Type 0} (remaining : T → Bytes) (r : BufReader T A) (inner : T) → reader_inner r ≡ inner → reader_buffer r ≡ []
    → reader_capacity r ≡ 8192 → reader_remaining remaining r ≡ remaining inner
not_read_yet remaining r inner same empty wide =
    ap (λ (n : ℕ). if n == 0 then None else prepend_known (reader_buffer r) (remaining r.inner)) wide
    ∙ ap (λ (bs : List ℕ). prepend_known bs (remaining r.inner)) empty ∙ prepend_nil (remaining r.inner) ∙ ap remaining same
