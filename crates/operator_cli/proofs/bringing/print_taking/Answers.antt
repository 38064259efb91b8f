use Rattle.std.proofs.Common.{ℕ, List, Result, Err, ap, refl, sym, subst, ◌∙◌}
use Rattle.std.specs.Prelude.{IfErr, not}
use Rattle.std.specs.Io.KnownBytes.{Consumes}
use Rattle.plain_words.specs.Input.{IsPartOfLine}
use Rattle.operator_cli.specs.declared.status.Status.{Status}
use Rattle.operator_cli.specs.declared.command_fault.CommandFault.{CommandFault}
use Rattle.operator_cli.specs.Visits.{IsTakingLine, IsVisitEnd, PassesOn, is_taken, line_text}
use Rattle.operator_cli.proofs.PrintLaws.{printed}
use Rattle.operator_cli.proofs.VisitLaws.{begins, errs_as, first_alive, lost_end, passes_nothing, passes_text, said_end, write_end}
use Rattle.operator_cli.proofs.bringing.print_taking.Goals as goal

pub returns-in_err-hear-clause-passes : goal.returns-in_err-hear-clause-passes
returns-in_err-hear-clause-passes g c =
    let out = g.W.Write.contents c.args.out.now in
    errs_as c.from_residual.result (λ (r : Result Status CommandFault). IfErr r (λ _. PassesOn (g.A.Read.remaining c.args.answers.now) out out)) _
    c.from_residual.ensures.1 (λ f e. passes_nothing _ out)

pub returns-in_err-hear-clause-cause : goal.returns-in_err-hear-clause-cause
returns-in_err-hear-clause-cause g c =
    errs_as c.from_residual.result (λ (r : Result Status CommandFault). IfErr r (IsVisitEnd (g.A.Read.remaining c.args.answers.now))) _
    c.from_residual.ensures.1 (λ f e. lost_end _ f (e ∙ c.in_err-hear.ensures.fault))

pub returns-in_err-status-clause-passes : goal.returns-in_err-status-clause-passes
returns-in_err-status-clause-passes g c =
    let out = g.W.Write.contents c.args.out.now in
    errs_as c.from_residual-in_err-status.result
    (λ (r : Result Status CommandFault). IfErr r (λ _. PassesOn (g.A.Read.remaining c.args.answers.now) out out)) _
    c.from_residual-in_err-status.ensures.1 (λ f e. passes_nothing _ out)

pub returns-in_err-status-clause-cause : goal.returns-in_err-status-clause-cause
returns-in_err-status-clause-cause g c =
    let bytes = c.as_slice-bytes.result.now in
    let sent = g.A.Read.remaining c.args.answers.now in
    let left = g.A.Read.remaining c.hear.new.answers in
    let read = subst (λ (l : List ℕ). IsPartOfLine l × Consumes sent left (line_text l)) (sym c.as_slice-bytes.ensures.value) c.in_ok-hear.ensures.heard in
    errs_as c.from_residual-in_err-status.result (λ (r : Result Status CommandFault). IfErr r (IsVisitEnd sent)) _ c.from_residual-in_err-status.ensures.1
    (λ f e. said_end sent left bytes (not (is_taken bytes)) f read (sym c.heard_of_taking.ensures ∙ c.in_err-status.was ∙ ap Err (sym e)))

pub returns-in_err-skip_ack-clause-passes : goal.returns-in_err-skip_ack-clause-passes
returns-in_err-skip_ack-clause-passes g c =
    let out = g.W.Write.contents c.args.out.now in
    errs_as c.from_residual-in_err-skip_ack.result
    (λ (r : Result Status CommandFault). IfErr r (λ _. PassesOn (g.A.Read.remaining c.args.answers.now) out out)) _
    c.from_residual-in_err-skip_ack.ensures.1 (λ f e. passes_nothing _ out)

pub returns-in_err-skip_ack-clause-cause : goal.returns-in_err-skip_ack-clause-cause
returns-in_err-skip_ack-clause-cause g c =
    errs_as c.from_residual-in_err-skip_ack.result (λ (r : Result Status CommandFault). IfErr r (IsVisitEnd (g.A.Read.remaining c.args.answers.now))) _
    c.from_residual-in_err-skip_ack.ensures.1 (λ f e. lost_end _ f (e ∙ c.in_err-skip_ack.ensures.fault))

pub returns-in_err-print_line-clause-passes : goal.returns-in_err-print_line-clause-passes
returns-in_err-print_line-clause-passes g c =
    let bytes = c.as_slice-bytes.result.now in
    let sent = g.A.Read.remaining c.args.answers.now in
    let left = g.A.Read.remaining c.hear.new.answers in
    let before = g.W.Write.contents c.args.out.now in
    let after = g.W.Write.contents c.print_line.new.out in
    let read = subst (λ (l : List ℕ). Consumes sent left (line_text l)) (sym c.as_slice-bytes.ensures.value) c.in_ok-hear.ensures.heard.1 in
    errs_as c.from_residual-in_err-print_line.result (λ (r : Result Status CommandFault). IfErr r (λ _. PassesOn sent before after)) _
    c.from_residual-in_err-print_line.ensures.1
    (λ f e. passes_text sent left before after (line_text bytes) read c.in_err-print_line.ensures.written)

pub returns-in_err-print_line-clause-cause : goal.returns-in_err-print_line-clause-cause
returns-in_err-print_line-clause-cause g c =
    errs_as c.from_residual-in_err-print_line.result (λ (r : Result Status CommandFault). IfErr r (IsVisitEnd (g.A.Read.remaining c.args.answers.now))) _
    c.from_residual-in_err-print_line.ensures.1 (λ f e. write_end _ f (e ∙ c.in_err-print_line.ensures.fault))

pub returns-clause-printed : goal.returns-clause-printed
returns-clause-printed g c =
    let bytes = c.as_slice-bytes.result.now in
    let sent = g.A.Read.remaining c.args.answers.now in
    let left = g.A.Read.remaining c.hear.new.answers in
    let read = subst (λ (l : List ℕ). Consumes sent left (line_text l)) (sym c.as_slice-bytes.ensures.value) c.in_ok-hear.ensures.heard.1 in
    printed (IsTakingLine sent) (g.W.Write.contents c.args.out.now) (g.W.Write.contents c.print_line.new.out) _ (line_text bytes)
    (record {
      line = bytes;
      is_line = subst IsPartOfLine (sym c.as_slice-bytes.ensures.value) c.in_ok-hear.ensures.heard.0;
      sent_first = begins sent left (line_text bytes) read;
      ends_so = sym c.heard_of_taking.ensures ∙ c.in_ok-status.was;
      is_text = refl;
    })
    c.in_ok-print_line.ensures.written

pub returns-clause-ends : goal.returns-clause-ends
returns-clause-ends g c =
    let bytes = c.as_slice-bytes.result.now in first_alive bytes (not (is_taken bytes)) _ (sym c.heard_of_taking.ensures ∙ c.in_ok-status.was)
