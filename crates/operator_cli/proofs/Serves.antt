-- Sites that ran at once, and what their ends tell.
use Rattle.std.proofs.Common.{◌≡◌, ◌≢◌, ◌⊎◌, ℕ, List, Option, Some, None, Result, Ok, Err, sym, subst}
use Rattle.std.specs.Prelude.{IfOk, IfErr, MatchResult}
use Rattle.std.specs.Io.KnownBytes.{Keeps}
use Rattle.std.proofs.KnownBytes.{Keeps-trans}
use Rattle.plain_words.specs.Writing.{AppendsFront}
use Rattle.book_core.specs.BookView.{BookView}
use Rattle.operator_cli.specs.declared.status.Status.{Status}
use Rattle.operator_cli.specs.declared.status.Status.TheVariants.{Failed}
use Rattle.operator_cli.specs.declared.command_fault.CommandFault.{CommandFault}
use Rattle.operator_cli.specs.declared.command_fault.CommandFault.TheVariants as fault
use Rattle.operator_cli.specs.Audited.{EndsAudited, IsAuditText}
use Rattle.operator_cli.specs.Printed.{Printed, Unprinted}
use Rattle.operator_cli.specs.Serving.{ComesTo, EndsServed}
use Rattle.operator_cli.specs.CommandReply.{command_fault_line}
use Rattle.operator_cli.proofs.BrokenOff.{fails_unprinted}
use Rattle.operator_cli.proofs.PrintLaws.{ends_printed}

-- how a command ends whose text was printed, or broken off
pub ends_audited : (books : List BookView) (a b c x y : Option (List ℕ)) (came : Result Status CommandFault) (status : Status)
    → IfOk came (Printed (IsAuditText books) a b) → IfErr came (Unprinted (IsAuditText books) a b) → Keeps b c → IfOk came (λ s. s ≢ Failed)
    → IfErr came (λ f. AppendsFront x y (command_fault_line f)) → IfOk came (λ s. status ≢ s → AppendsFront x y (command_fault_line fault.Write))
    → MatchResult came (λ s. (status ≡ s) ⊎ (status ≡ Failed)) (λ _. status ≡ Failed) → EndsAudited books a c x y status
ends_audited books a b c x y came status out unprinted k lives line flush is =
    (ends_printed (IsAuditText books) a b c came status out k is, fails_unprinted (IsAuditText books) a b c x y came status out unprinted k lives line flush)

-- and whose sites ran before it
pub ends_served : (books : List BookView) (told : Option CommandFault) (a b c x y : Option (List ℕ)) (came : Result Status CommandFault) (status : Status)
    → ComesTo books told a b came → Keeps b c → IfOk came (λ s. s ≢ Failed)
    → IfErr came (λ f. AppendsFront x y (command_fault_line f)) → IfOk came (λ s. status ≢ s → AppendsFront x y (command_fault_line fault.Write))
    → MatchResult came (λ s. (status ≡ s) ⊎ (status ≡ Failed)) (λ _. status ≡ Failed) → EndsServed books told a c x y status
ends_served books (Some f) a b c x y came status h k lives line flush is = (
  Keeps-trans a b c h.0 k,
  subst (λ (r : Result Status CommandFault). IfErr r (λ f. AppendsFront x y (command_fault_line f))) h.1 line,
  subst (λ (r : Result Status CommandFault). MatchResult r (λ s. (status ≡ s) ⊎ (status ≡ Failed)) (λ _. status ≡ Failed)) h.1 is,
)
ends_served books None a b c x y (Ok s) status h k lives line flush is = ends_audited books a b c x y (Ok s) status h tt k lives line flush is
ends_served books None a b c x y (Err f) status h k lives line flush is = ends_audited books a b c x y (Err f) status tt h k lives line flush is

-- what the audit comes to where no end tells anything
pub comes_to : (books : List BookView) (told : Option CommandFault) (a b : Option (List ℕ)) (came : Result Status CommandFault) → told ≡ None
    → IfOk came (Printed (IsAuditText books) a b) → IfErr came (Unprinted (IsAuditText books) a b) → ComesTo books told a b came
comes_to books told a b (Ok s) none out unprinted = subst (λ t. ComesTo books t a b (Ok s)) (sym none) out
comes_to books told a b (Err f) none out unprinted = subst (λ t. ComesTo books t a b (Err f)) (sym none) unprinted
