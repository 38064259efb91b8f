use Rattle.std.proofs.Common.{◌≡◌, List, ap, ◌∙◌, subst}
use Rattle.std.specs.Prelude.{IfOk, IfErr}
use Rattle.book_core.specs.BookView.{BookView}
use Rattle.world_steps.specs.Audit.{books_of}
use Rattle.book_core.specs.Books.{AreNotOversold}
use Rattle.operator_cli.specs.declared.status.Status.{Status}
use Rattle.operator_cli.specs.declared.status.Status.TheVariants.{Done}
use Rattle.operator_cli.specs.Printed.{Printed, Unprinted}
use Rattle.operator_cli.specs.Audited.{IsAuditText}
use Rattle.operator_cli.proofs.audit.audit_all.Goals as goal

pub returns-clause-out : goal.returns-clause-out
returns-clause-out g c =
    subst (λ (books : List BookView).
    IfOk c.print_audit.result (Printed (IsAuditText books) (g.W.Write.contents c.args.out.now) (g.W.Write.contents c.print_audit.new.out)))
    (ap books_of c.as_slice.ensures.value ∙ c.in_ok-books.ensures) c.print_audit.ensures.out

pub returns-clause-not_oversold : goal.returns-clause-not_oversold
returns-clause-not_oversold g c =
    subst (λ (books : List BookView). IfOk c.print_audit.result (λ (status : Status). status ≡ Done → AreNotOversold books))
    (ap books_of c.as_slice.ensures.value ∙ c.in_ok-books.ensures) c.print_audit.ensures.not_oversold

pub returns-clause-fault : goal.returns-clause-fault
returns-clause-fault g c =
    subst (λ (books : List BookView).
    IfErr c.print_audit.result (Unprinted (IsAuditText books) (g.W.Write.contents c.args.out.now) (g.W.Write.contents c.print_audit.new.out)))
    (ap books_of c.as_slice.ensures.value ∙ c.in_ok-books.ensures) c.print_audit.ensures.fault
