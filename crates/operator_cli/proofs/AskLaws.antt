-- A session that goes to an open office, line by line.
use Rattle.std.proofs.Common.{◌≡◌, ◌≢◌, ℕ, ◌+◌, ◌<◌, Bool, true, false, List, [], Option, Some, None, Result, Ok, Err, sym, subst, refl}
use Rattle.std.specs.Prelude.{IsErrAnd}
use Rattle.std.specs.Io.KnownBytes.{Appends, Keeps}
use Rattle.std.proofs.KnownBytes.{Keeps-refl}
use Rattle.plain_words.specs.declared.lines.LineFault.{LineFault}
use Rattle.plain_words.specs.declared.lines.LineFault.TheVariants as read_fault
use Rattle.plain_words.specs.Input.{Between, LineGives, lines_of}
use Rattle.plain_words.specs.Writing.{AppendsFront}
use Rattle.live_office.specs.declared.handler.Last.{Last}
use Rattle.live_office.specs.Talks.{NextOfficeTalked, OfficeTalked}
use Rattle.live_office.proofs.Talks.{SoFar, breaks_off, ends, ends_after_all, fails, goes_on, never_began, next_unwritten, replied, too_many}
use Rattle.session_server.specs.declared.fault.TalkFault.{TalkFault}
use Rattle.session_server.specs.declared.fault.TalkFault.TheVariants as talk
use Rattle.session_server.specs.Session.{of_line_fault}
use Rattle.desk_lines.specs.Grammar.{most_lines}
use Rattle.live_office.specs.declared.handler.Last.TheVariants as last
use Rattle.operator_cli.specs.declared.status.Status.{Status}
use Rattle.operator_cli.specs.declared.status.Status.TheVariants.{Done}
use Rattle.operator_cli.specs.Asking.{AllAsked, Channel, IsAnsweredBy, IsLastAsked, IsLeft, NextAsked, last_in, last_of, visit_end}

abbrev Bytes : Type 0
Bytes = Option (List ℕ)

pub asks_on : (input rest rest' old new new' : Bytes) (before mid now : Channel) (count : ℕ)
    → SoFar IsAnsweredBy input rest old new before mid count → NextAsked rest rest' new new' mid now (Ok None)
    → SoFar IsAnsweredBy input rest' old new' before now (count + 1)
asks_on input rest rest' old new new' before mid now count h k =
    subst (λ (c : Channel). SoFar IsAnsweredBy input rest' old new' before c (count + 1)) (sym k.2)
    (goes_on IsAnsweredBy IsLastAsked input rest rest' old new new' before mid k.0 count h k.1)

pub asks_end : (input rest rest' old new new' : Bytes) (before mid now : Channel) (count : ℕ) (e : Option Last) → count < most_lines
    → SoFar IsAnsweredBy input rest old new before mid count → NextAsked rest rest' new new' mid now (Ok (Some e)) → AllAsked input old new' before now (Ok e)
asks_end input rest rest' old new new' before mid now count e few h k =
    (k.0, ends IsAnsweredBy IsLastAsked input rest rest' old new new' before mid k.0 count e few h k.1, k.2)

pub asks_break : (input rest rest' old new new' : Bytes) (before mid now : Channel) (count : ℕ) (e : TalkFault) → count < most_lines
    → SoFar IsAnsweredBy input rest old new before mid count → NextAsked rest rest' new new' mid now (Err e) → AllAsked input old new' before now (Err e)
asks_break input rest rest' old new new' before mid now count e few h k =
    (k.0, breaks_off IsAnsweredBy IsLastAsked input rest rest' old new new' before mid k.0 count e few h k.1, k.2)

-- ---- one line

-- no line was read
pub next_unread : (input rest old : Bytes) (before : Channel) (line : List ℕ) (f : LineFault) (r : Result (Option (Option Last)) TalkFault)
    → IsErrAnd r (λ e. e ≡ of_line_fault f) → LineGives input rest line (Err f)
    → NextAsked input rest old old before before r
next_unread input rest old before line f (Ok x) h gives = absurd h
next_unread input rest old before line read_fault.Read (Err e) h gives =
    subst (λ (e : TalkFault). NextAsked input rest old old before before (Err e)) (sym h) (before, (Keeps-refl old, refl), refl)
next_unread input rest old before line read_fault.LineTooLong (Err e) h gives =
    subst (λ (e : TalkFault). NextAsked input rest old old before before (Err e)) (sym h) (before, (gives.1, Keeps-refl old, refl, (line, gives.0)), refl)

-- no line is left
pub next_over : (input rest old : Bytes) (before : Channel) (line : List ℕ) (more : Bool) → more ≡ false → LineGives input rest line (Ok more)
    → NextAsked input rest old old before before (Ok (Some None))
next_over input rest old before line more is gives = (before, (subst (λ (m : Bool). LineGives input rest line (Ok m)) is gives, Keeps-refl old, refl), refl)

-- the line is the last
pub next_last : (input rest old : Bytes) (before now : Channel) (line slice : List ℕ) (more : Bool) (e : Last) → more ≡ true
    → LineGives input rest line (Ok more) → slice ≡ line
    → IsLastAsked before slice e → IsLeft (Some e) before now → NextAsked input rest old old before now (Ok (Some (Some e)))
next_last input rest old before now line slice more e is gives same ends left =
    (before, (line, subst (λ (m : Bool). LineGives input rest line (Ok m)) is gives, subst (λ l. IsLastAsked before l e) same ends, Keeps-refl old, refl), left)

-- its answer was printed, or in part
pub next_printed : (input rest old new : Bytes) (before now : Channel) (line slice : List ℕ) (more : Bool) (text : List ℕ) → more ≡ true
    → LineGives input rest line (Ok more) → slice ≡ line
    → IsAnsweredBy before slice text now → Appends old new text → NextAsked input rest old new before now (Ok None)
next_printed input rest old new before now line slice more text is gives same step out =
    (now, (replied IsAnsweredBy input rest line slice more before now text is gives same step, out), refl)

pub next_unprinted : (input rest old new : Bytes) (before now : Channel) (line slice : List ℕ) (more : Bool) (text : List ℕ)
    (r : Result (Option (Option Last)) TalkFault) (f : TalkFault) → IsErrAnd r (λ e. e ≡ f) → f ≡ talk.Write
    → more ≡ true → LineGives input rest line (Ok more) → slice ≡ line → IsAnsweredBy before slice text now → AppendsFront old new text
    → NextAsked input rest old new before now r
next_unprinted input rest old new before now line slice more text (Ok x) f h wrote is gives same step out = absurd h
next_unprinted input rest old new before now line slice more text (Err e) f h wrote is gives same step out = (
  now,
  next_unwritten IsAnsweredBy IsLastAsked input rest old new before now (Err e) f h wrote
      (replied IsAnsweredBy input rest line slice more before now text is gives same step) out,
  refl,
)

-- ---- behind all lines that may be there

at_most : (input rest old new : Bytes) (before now : Channel) (count : ℕ) → count ≡ most_lines → SoFar IsAnsweredBy input rest old new before now count
    → SoFar IsAnsweredBy input rest old new before now most_lines
at_most input rest old new before now count all h = subst (λ (n : ℕ). SoFar IsAnsweredBy input rest old new before now n) all h

pub asks_over : (input rest rest' old new : Bytes) (before now : Channel) (count : ℕ) → count ≡ most_lines
    → SoFar IsAnsweredBy input rest old new before now count
    → Between rest rest' (λ xs ys. lines_of xs ≡ []) → AllAsked input old new before now (Ok None)
asks_over input rest rest' old new before now count all h k =
    (now, ends_after_all IsAnsweredBy IsLastAsked input rest rest' old new before now (at_most input rest old new before now count all h) k, refl)

pub asks_too_many : (input rest rest' old new : Bytes) (before now : Channel) (count : ℕ) → count ≡ most_lines
    → SoFar IsAnsweredBy input rest old new before now count
    → Between rest rest' (λ xs ys. lines_of xs ≢ []) → AllAsked input old new before now (Err talk.TooLong)
asks_too_many input rest rest' old new before now count all h k =
    (now, too_many IsAnsweredBy IsLastAsked input rest rest' old new before now (at_most input rest old new before now count all h) k, refl)

pub asks_fail : (input rest old new : Bytes) (before now : Channel) (count : ℕ) → count ≡ most_lines
    → SoFar IsAnsweredBy input rest old new before now count → AllAsked input old new before now (Err talk.Read)
asks_fail input rest old new before now count all h =
    (now, fails IsAnsweredBy IsLastAsked input rest old new before now (at_most input rest old new before now count all h), refl)

-- nothing was asked, for there is no memory
pub asks_never : (input old : Bytes) (before : Channel) → AllAsked input old old before before (Err talk.Memory)
asks_never input old before = (before, never_began IsAnsweredBy IsLastAsked input old before, refl)

-- a session that did not end early is done
pub end_done : (came : Result (Option Last) TalkFault) (s : Status) → visit_end came ≡ Ok s → s ≡ Done
end_done (Ok None) s e = cc
end_done (Ok (Some last.Quit)) s e = cc
end_done (Ok (Some last.Close)) s e = absurd cc
end_done (Ok (Some last.Full)) s e = absurd cc
end_done (Ok (Some last.Unread)) s e = absurd cc
end_done (Err f) s e = absurd cc
