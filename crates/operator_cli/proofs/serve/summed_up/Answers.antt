use Rattle.std.proofs.Common.{rules, ◌≡◌, ◌∙◌, List, None, ap, map, subst}
use Rattle.std.specs.Prelude.{IfOk, IfErr}
use Rattle.book_core.specs.BookView.{BookView}
use Rattle.world_steps.specs.Audit.{books_of}
use Rattle.book_core.specs.Books.{AreNotOversold}
use Rattle.operator_cli.specs.declared.status.Status.{Status}
use Rattle.operator_cli.specs.declared.status.Status.TheVariants.{Done}
use Rattle.operator_cli.specs.Audited.{IsAuditText}
use Rattle.operator_cli.specs.Printed.{Printed, Unprinted}
use Rattle.operator_cli.specs.Serving.{end_fault, first_of_all}
use Rattle.operator_cli.proofs.Serves.{comes_to}
use Rattle.operator_cli.proofs.serve.summed_up.Goals as goal

pub returns-clause-came : goal.returns-clause-came
returns-clause-came g c =
    let books = map (λ e. e.book.book) c.args.ends.now in
    let told = first_of_all (map (λ e. end_fault e.finished e.book) c.args.ends.now) in
    let none : told ≡ None = search rules in
    let same : books_of c.as_slice.result.now ≡ books = ap books_of c.as_slice.ensures.value ∙ c.in_ok-books.ensures in
    comes_to books told (g.W.Write.contents c.args.out.now) (g.W.Write.contents c.print_audit.new.out) c.print_audit.result none
    (subst (λ (l : List BookView).
    IfOk c.print_audit.result (Printed (IsAuditText l) (g.W.Write.contents c.args.out.now) (g.W.Write.contents c.print_audit.new.out))) same
    c.print_audit.ensures.out)
    (subst (λ (l : List BookView).
    IfErr c.print_audit.result (Unprinted (IsAuditText l) (g.W.Write.contents c.args.out.now) (g.W.Write.contents c.print_audit.new.out))) same
    c.print_audit.ensures.fault)

pub returns-clause-not_oversold : goal.returns-clause-not_oversold
returns-clause-not_oversold g c =
    subst (λ (books : List BookView). IfOk c.print_audit.result (λ (status : Status). status ≡ Done → AreNotOversold books))
    (ap books_of c.as_slice.ensures.value ∙ c.in_ok-books.ensures) c.print_audit.ensures.not_oversold
