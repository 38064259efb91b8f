use Rattle.std.proofs.Common.{ℕ, List, Result, Err, ap, sym, subst, ◌∙◌}
use Rattle.std.specs.Prelude.{IfErr}
use Rattle.std.specs.Io.KnownBytes.{Consumes}
use Rattle.plain_words.specs.Input.{IsPartOfLine}
use Rattle.operator_cli.specs.declared.status.Status.{Status}
use Rattle.operator_cli.specs.declared.command_fault.CommandFault.{CommandFault}
use Rattle.operator_cli.specs.Visits.{IsVisitEnd, PassesOn, is_nothing, line_text}
use Rattle.operator_cli.proofs.VisitLaws.{errs_as, passes_nothing, passes_text, said_end, write_end}
use Rattle.operator_cli.proofs.visits.print_first.Goals as goal

pub returns-in_err-ask_first-clause-passes : goal.returns-in_err-ask_first-clause-passes
returns-in_err-ask_first-clause-passes g c =
    let out = g.W.Write.contents c.args.out.now in
    errs_as c.from_residual.result (λ (r : Result Status CommandFault). IfErr r (λ _. PassesOn (g.A.Read.remaining c.args.answers.now) out out)) _
    c.from_residual.ensures.1 (λ f e. passes_nothing _ out)

pub returns-in_err-ask_first-clause-cause : goal.returns-in_err-ask_first-clause-cause
returns-in_err-ask_first-clause-cause g c =
    errs_as c.from_residual.result (λ (r : Result Status CommandFault). IfErr r (IsVisitEnd (g.A.Read.remaining c.args.answers.now))) _
    c.from_residual.ensures.1 (λ f e. subst (IsVisitEnd (g.A.Read.remaining c.args.answers.now)) (sym e) c.in_err-ask_first.ensures.cause)

pub returns-in_err-status-clause-passes : goal.returns-in_err-status-clause-passes
returns-in_err-status-clause-passes g c =
    let out = g.W.Write.contents c.args.out.now in
    errs_as c.from_residual-in_err-status.result
    (λ (r : Result Status CommandFault). IfErr r (λ _. PassesOn (g.A.Read.remaining c.args.answers.now) out out)) _
    c.from_residual-in_err-status.ensures.1 (λ f e. passes_nothing _ out)

pub returns-in_err-status-clause-cause : goal.returns-in_err-status-clause-cause
returns-in_err-status-clause-cause g c =
    let bytes = c.as_slice-bytes.result.now in
    let sent = g.A.Read.remaining c.args.answers.now in
    let left = g.A.Read.remaining c.ask_first.new.answers in
    let read = subst (λ (l : List ℕ). IsPartOfLine l × Consumes sent left (line_text l)) (sym c.as_slice-bytes.ensures.value) c.in_ok-ask_first.ensures.heard in
    errs_as c.from_residual-in_err-status.result (λ (r : Result Status CommandFault). IfErr r (IsVisitEnd sent)) _ c.from_residual-in_err-status.ensures.1
    (λ f e. said_end sent left bytes (is_nothing bytes) f read (sym c.heard.ensures ∙ c.in_err-status.was ∙ ap Err (sym e)))

pub returns-in_err-print_line-clause-passes : goal.returns-in_err-print_line-clause-passes
returns-in_err-print_line-clause-passes g c =
    let bytes = c.as_slice-bytes.result.now in
    let sent = g.A.Read.remaining c.args.answers.now in
    let left = g.A.Read.remaining c.ask_first.new.answers in
    let before = g.W.Write.contents c.args.out.now in
    let after = g.W.Write.contents c.print_line.new.out in
    let read = subst (λ (l : List ℕ). Consumes sent left (line_text l)) (sym c.as_slice-bytes.ensures.value) c.in_ok-ask_first.ensures.heard.1 in
    errs_as c.from_residual-in_err-print_line.result (λ (r : Result Status CommandFault). IfErr r (λ _. PassesOn sent before after)) _
    c.from_residual-in_err-print_line.ensures.1
    (λ f e. passes_text sent left before after (line_text bytes) read c.in_err-print_line.ensures.written)

pub returns-in_err-print_line-clause-cause : goal.returns-in_err-print_line-clause-cause
returns-in_err-print_line-clause-cause g c =
    errs_as c.from_residual-in_err-print_line.result (λ (r : Result Status CommandFault). IfErr r (IsVisitEnd (g.A.Read.remaining c.args.answers.now))) _
    c.from_residual-in_err-print_line.ensures.1 (λ f e. write_end _ f (e ∙ c.in_err-print_line.ensures.fault))

pub returns-clause-first : goal.returns-clause-first
returns-clause-first g c =
    let sent = g.A.Read.remaining c.args.answers.now in
    let left = g.A.Read.remaining c.ask_first.new.answers in record {
      line = c.as_slice-bytes.result.now;
      is_line = subst IsPartOfLine (sym c.as_slice-bytes.ensures.value) c.in_ok-ask_first.ensures.heard.0;
      ends_so = sym c.heard.ensures ∙ c.in_ok-status.was;
      read = subst (λ (l : List ℕ). Consumes sent left (line_text l)) (sym c.as_slice-bytes.ensures.value) c.in_ok-ask_first.ensures.heard.1;
      printed = c.in_ok-print_line.ensures.written;
    }
