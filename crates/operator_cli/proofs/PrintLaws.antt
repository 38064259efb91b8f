-- What a command printed, from the write to the status.
use Rattle.std.proofs.Common.{◌≡◌, ◌⊎◌, ℕ, List, [], ◌∷◌, Option, Result, Ok, Err, inl, inr, refl, sym, subst, ◌∙◌, ◌≢◌}
use Rattle.std.specs.Prelude.{MatchResult, MatchOption, IfOk, IfSome, OnOk, Some, None}
use Rattle.std.specs.Io.KnownBytes.{Appends, Keeps}
use Rattle.std.proofs.KnownBytes.{Appends-kept}
use Rattle.plain_words.specs.Writing.{Writes}
use Rattle.operator_cli.specs.declared.status.Status.{Status}
use Rattle.operator_cli.specs.declared.status.Status.TheVariants.{Done, Refused, NotUnderstood, Failed}
use Rattle.operator_cli.specs.declared.command_fault.CommandFault.{CommandFault}
use Rattle.operator_cli.specs.declared.told.CommandReply.{CommandReply}
use Rattle.operator_cli.specs.CommandReply.{told_line, told_status}
use Rattle.operator_cli.specs.Printed.{IsTellingOf, Printed}

pub printed : (P : Status → List ℕ → Type 0) (a b : Option (List ℕ)) (status : Status) (text : List ℕ) → P status text → Appends a b text → Printed P a b status
printed P a b Done text p h = (text, p, h)
printed P a b Refused text p h = (text, p, h)
printed P a b NotUnderstood text p h = (text, p, h)
printed P a b Failed text p h = tt

-- what is told
pub told_printed : (P : Status → List ℕ → Type 0) (a b : Option (List ℕ)) (r : Result Status CommandFault) (told : CommandReply)
    → P (told_status told) (told_line told) → Writes a b r (told_line told) → IfOk r (λ status. status ≡ told_status told) → IfOk r (Printed P a b)
told_printed P a b (Ok status) told p h e = subst (Printed P a b) (sym e) (printed P a b (told_status told) (told_line told) p h)
told_printed P a b (Err f) told p h e = tt

kept : (P : Status → List ℕ → Type 0) (a b c : Option (List ℕ)) (status : Status) → Printed P a b status → Keeps b c → Printed P a c status
kept P a b c Done h k = (h.0, h.1, Appends-kept a b c h.0 h.2 k)
kept P a b c Refused h k = (h.0, h.1, Appends-kept a b c h.0 h.2 k)
kept P a b c NotUnderstood h k = (h.0, h.1, Appends-kept a b c h.0 h.2 k)
kept P a b c Failed h k = tt

-- what was told is of its kind
pub printed_told : (Q : CommandReply → Type 0) (a b : Option (List ℕ)) (status : Status) → Printed (IsTellingOf Q) a b status → status ≢ Failed
    → (told : CommandReply) × Q told
printed_told Q a b Done h lives = (h.1.0, h.1.1)
printed_told Q a b Refused h lives = (h.1.0, h.1.1)
printed_told Q a b NotUnderstood h lives = (h.1.0, h.1.1)
printed_told Q a b Failed h lives = absurd (lives refl)

-- what goes with the status at the end of the command
pub ends_as : (C : Status → Type 0) (came : Result Status CommandFault) (status : Status) → IfOk came C → C Failed
    → MatchResult came (λ s. (status ≡ s) ⊎ (status ≡ Failed)) (λ _. status ≡ Failed) → C status
ends_as C (Err f) status h failed e = subst C (sym e) failed
ends_as C (Ok s) status h failed (inl e) = subst C (sym e) h
ends_as C (Ok s) status h failed (inr e) = subst C (sym e) failed

-- the end of the command
pub ends_printed : (P : Status → List ℕ → Type 0) (a b c : Option (List ℕ)) (came : Result Status CommandFault) (status : Status)
    → IfOk came (Printed P a b) → Keeps b c → MatchResult came (λ s. (status ≡ s) ⊎ (status ≡ Failed)) (λ _. status ≡ Failed) → Printed P a c status
ends_printed P a b c (Err f) status h k e = subst (Printed P a c) (sym e) tt
ends_printed P a b c (Ok s) status h k (inl e) = subst (Printed P a c) (sym e) (kept P a b c s h k)
ends_printed P a b c (Ok s) status h k (inr e) = subst (Printed P a c) (sym e) tt

-- what holds where the command did not fail
pub ok_unless_failed : (P : Type 0) (came : Result Status CommandFault) (status : Status) → OnOk came P
    → MatchResult came (λ s. (status ≡ s) ⊎ (status ≡ Failed)) (λ _. status ≡ Failed) → (status ≡ Failed → ⊥) → P
ok_unless_failed P (Ok s) status h e alive = h
ok_unless_failed P (Err f) status h e alive = absurd (alive e)

-- what holds of the connection that came back
pub if_some_is : {A : Type 0} (o : Option A) (a : A) (Q : A → Type 0) → o ≡ Some a → Q a → IfSome o Q
if_some_is o a Q e h = subst (λ (p : Option _). IfSome p Q) (sym e) h

pub refused_if_none : {A : Type 0} (o : Option A) (P : Type 0) (Q : A → Type 0) → MatchOption o P Q → o ≡ None → P
refused_if_none None P Q h e = h
refused_if_none (Some a) P Q h e = cc
