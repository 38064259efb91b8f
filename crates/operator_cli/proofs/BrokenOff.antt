-- What went out where a command failed.
use Rattle.std.proofs.Common.{◌≡◌, ◌≢◌, ℕ, List, [], Option, Result, Ok, Err, refl, sym, ◌∙◌, subst, append-nil}
use Rattle.std.specs.Prelude.{IfOk, IfErr}
use Rattle.std.specs.Io.KnownBytes.{Keeps}
use Rattle.std.proofs.KnownBytes.{Appends-kept, Keeps-trans}
use Rattle.plain_words.specs.Writing.{AppendsFront, Writes}
use Rattle.plain_words.proofs.WriteLaws.{AppendsFront-kept}
use Rattle.operator_cli.specs.declared.status.Status.{Status}
use Rattle.operator_cli.specs.declared.status.Status.TheVariants.{Done, Refused, NotUnderstood, Failed}
use Rattle.operator_cli.specs.declared.command_fault.CommandFault.{CommandFault}
use Rattle.operator_cli.specs.declared.command_fault.CommandFault.TheVariants as fault
use Rattle.operator_cli.specs.Opened.{FailsFor}
use Rattle.operator_cli.specs.Printed.{Printed, Unprinted}
use Rattle.operator_cli.specs.CommandReply.{command_fault_line}

-- what was printed whole, and could not be passed on
written : (P : Status → List ℕ → Type 0) (a b c : Option (List ℕ)) (status : Status) → Printed P a b status → Keeps b c → status ≢ Failed
    → Unprinted P a c fault.Write
written P a b c Done h k lives = (Done, h.0, h.1, (h.0, [], sym (append-nil h.0), Appends-kept a b c h.0 h.2 k))
written P a b c Refused h k lives = (Refused, h.0, h.1, (h.0, [], sym (append-nil h.0), Appends-kept a b c h.0 h.2 k))
written P a b c NotUnderstood h k lives = (NotUnderstood, h.0, h.1, (h.0, [], sym (append-nil h.0), Appends-kept a b c h.0 h.2 k))
written P a b c Failed h k lives = absurd (lives refl)

-- nothing more goes out
pub stays_unprinted : (P : Status → List ℕ → Type 0) (a b c : Option (List ℕ)) (f : CommandFault) → Unprinted P a b f → Keeps b c → Unprinted P a c f
stays_unprinted P a b c fault.Memory h k = Keeps-trans a b c h k
stays_unprinted P a b c fault.Write h k = (h.0, h.1, h.2, AppendsFront-kept a b c h.1 h.3 k)
stays_unprinted P a b c fault.NotOurs h k = absurd h
stays_unprinted P a b c (fault.OtherSchema version) h k = absurd h
stays_unprinted P a b c (fault.Damaged place) h k = absurd h
stays_unprinted P a b c fault.Disk h k = absurd h
stays_unprinted P a b c fault.Store h k = absurd h
stays_unprinted P a b c fault.Read h k = absurd h
stays_unprinted P a b c fault.LineTooLong h k = absurd h
stays_unprinted P a b c fault.TooManyLines h k = absurd h
stays_unprinted P a b c fault.Bind h k = absurd h
stays_unprinted P a b c fault.Accept h k = absurd h
stays_unprinted P a b c fault.NotStarted h k = absurd h
stays_unprinted P a b c fault.SeatsOut h k = absurd h
stays_unprinted P a b c (fault.Stranger at) h k = absurd h
stays_unprinted P a b c (fault.StrangerSeen at) h k = absurd h
stays_unprinted P a b c (fault.Closed site) h k = absurd h
stays_unprinted P a b c fault.LongPath h k = absurd h
stays_unprinted P a b c fault.NoSocket h k = absurd h
stays_unprinted P a b c fault.NotOpen h k = absurd h
stays_unprinted P a b c fault.StillOpen h k = absurd h
stays_unprinted P a b c fault.AlreadyOpen h k = absurd h
stays_unprinted P a b c fault.Full h k = absurd h
stays_unprinted P a b c fault.LostFile h k = absurd h
stays_unprinted P a b c fault.OneOfTwo h k = absurd h

-- the end of a command, with what of its text went out
pub fails_unprinted : (P : Status → List ℕ → Type 0) (a b c x y : Option (List ℕ)) (came : Result Status CommandFault) (status : Status)
    → IfOk came (Printed P a b) → IfErr came (Unprinted P a b) → Keeps b c → IfOk came (λ s. s ≢ Failed)
    → IfErr came (λ f. AppendsFront x y (command_fault_line f)) → IfOk came (λ s. status ≢ s → AppendsFront x y (command_fault_line fault.Write))
    → FailsFor (Unprinted P a c) x y status
fails_unprinted P a b c x y (Ok s) status out unprinted k lives line flush = λ failed.
    (fault.Write, written P a b c s out k lives, flush (λ same. lives (sym same ∙ failed)))
fails_unprinted P a b c x y (Err f) status out unprinted k lives line flush = λ failed. (f, stays_unprinted P a b c f unprinted k, line)

-- a writer that failed took a front of the text
pub unprinted_write : (P : Status → List ℕ → Type 0) (a b : Option (List ℕ)) (r : Result Status CommandFault) (status : Status) (text : List ℕ) → P status text
    → IfErr r (λ f. f ≡ fault.Write) → Writes a b r text → IfErr r (Unprinted P a b)
unprinted_write P a b (Ok s) status text is write h = tt
unprinted_write P a b (Err f) status text is write h = subst (Unprinted P a b) (sym write) (status, text, is, h)
