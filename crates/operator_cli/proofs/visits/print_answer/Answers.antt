use Rattle.std.proofs.Common.{Result, sym, subst, ◌∙◌}
use Rattle.std.specs.Prelude.{IfErr}
use Rattle.operator_cli.specs.declared.status.Status.{Status}
use Rattle.operator_cli.specs.declared.command_fault.CommandFault.{CommandFault}
use Rattle.operator_cli.specs.Visits.{IsVisitEnd, PassesOn, is_nothing, line_text}
use Rattle.operator_cli.proofs.VisitLaws.{all_lines, errs_as, first_alive, first_passes, only_first, passes_after, rest_end, rest_passes}
use Rattle.operator_cli.proofs.visits.print_answer.Goals as goal

pub returns-in_err-status-clause-cause : goal.returns-in_err-status-clause-cause
returns-in_err-status-clause-cause g c =
    let sent = g.A.Read.remaining c.args.answers.now in
    errs_as c.from_residual.result (λ (r : Result Status CommandFault). IfErr r (IsVisitEnd sent)) _ c.from_residual.ensures.1
    (λ f e. subst (IsVisitEnd sent) (sym e) c.in_err-status.ensures.cause)

pub returns-in_err-print_rest-in-Done-clause-passes : goal.returns-in_err-print_rest-in-Done-clause-passes
returns-in_err-print_rest-in-Done-clause-passes g c =
    let first = c.in_ok-status.ensures.first in
    passes_after (g.A.Read.remaining c.args.answers.now) (g.A.Read.remaining c.print_first.new.answers) (g.W.Write.contents c.args.out.now)
    (g.W.Write.contents c.print_first.new.out) (g.W.Write.contents c.print_rest.new.out) (line_text first.line) first.read first.printed
    c.in_err-print_rest-in-Done.ensures.passes

pub returns-in_err-print_rest-in-Done-clause-cause : goal.returns-in_err-print_rest-in-Done-clause-cause
returns-in_err-print_rest-in-Done-clause-cause g c =
    let sent = g.A.Read.remaining c.args.answers.now in
    errs_as c.from_residual-in_err-print_rest-in-Done.result (λ (r : Result Status CommandFault). IfErr r (IsVisitEnd sent)) _
    c.from_residual-in_err-print_rest-in-Done.ensures.1 (λ f e. subst (IsVisitEnd sent) (sym e) (rest_end sent _ c.in_err-print_rest-in-Done.ensures.fault))

pub returns-in_ok-print_rest-in-Done-clause-printed : goal.returns-in_ok-print_rest-in-Done-clause-printed
returns-in_ok-print_rest-in-Done-clause-printed g c =
    all_lines c.args.expected (g.A.Read.remaining c.args.answers.now) (g.A.Read.remaining c.print_first.new.answers)
    (g.A.Read.remaining c.print_rest.new.answers) (g.W.Write.contents c.args.out.now) (g.W.Write.contents c.print_first.new.out)
    (g.W.Write.contents c.print_rest.new.out)
    _ c.in-Done.is c.in_ok-status.ensures.first c.in_ok-print_rest-in-Done.ensures.rest

pub returns-in_ok-print_rest-in-Done-clause-passes : goal.returns-in_ok-print_rest-in-Done-clause-passes
returns-in_ok-print_rest-in-Done-clause-passes g c =
    let first = c.in_ok-status.ensures.first in
    let left = g.A.Read.remaining c.print_first.new.answers in
    let mid = g.W.Write.contents c.print_first.new.out in
    let new = g.W.Write.contents c.print_rest.new.out in
    passes_after (g.A.Read.remaining c.args.answers.now) left (g.W.Write.contents c.args.out.now) mid new (line_text first.line) first.read first.printed
    (rest_passes c.args.expected left (g.A.Read.remaining c.print_rest.new.answers) mid new c.in_ok-print_rest-in-Done.ensures.rest)

pub returns-in_ok-print_rest-in-Done-clause-ends : goal.returns-in_ok-print_rest-in-Done-clause-ends
returns-in_ok-print_rest-in-Done-clause-ends g c = let first = c.in_ok-status.ensures.first in first_alive first.line (is_nothing first.line) _ first.ends_so

pub returns-in_default-clause-printed : goal.returns-in_default-clause-printed
returns-in_default-clause-printed g c =
    only_first c.args.expected (g.A.Read.remaining c.args.answers.now) (g.A.Read.remaining c.print_first.new.answers) (g.W.Write.contents c.args.out.now)
    (g.W.Write.contents c.print_first.new.out) _ c.in_ok-status.ensures.first c.in_default.not-Done

pub returns-in_default-clause-passes : goal.returns-in_default-clause-passes
returns-in_default-clause-passes g c = first_passes (g.A.Read.remaining c.args.answers.now) (g.A.Read.remaining c.print_first.new.answers)
    (g.W.Write.contents c.args.out.now) (g.W.Write.contents c.print_first.new.out) _ c.in_ok-status.ensures.first

pub returns-in_default-clause-ends : goal.returns-in_default-clause-ends
returns-in_default-clause-ends g c = let first = c.in_ok-status.ensures.first in first_alive first.line (is_nothing first.line) _ first.ends_so
