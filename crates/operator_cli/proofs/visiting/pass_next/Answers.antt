use Rattle.std.proofs.Common.{ℕ, List, subst}
use Rattle.plain_words.specs.Writing.{AppendsFront}
use Rattle.operator_cli.specs.Visits.{line_text}
use Rattle.operator_cli.proofs.VisitLaws.{passes_text, unpassed}
use Rattle.operator_cli.proofs.visiting.pass_next.Goals as goal

pub returns-in_err-print_line-clause-passed : goal.returns-in_err-print_line-clause-passed
returns-in_err-print_line-clause-passed g c =
    let out = subst (λ (l : List ℕ). AppendsFront (g.W.Write.contents c.args.out.now) (g.W.Write.contents c.print_line.new.out) (line_text l))
    c.as_slice-bytes.ensures.value c.in_err-print_line.ensures.written in
    unpassed _ _ _ _ c.from_residual-in_err-print_line.result c.from_residual-in_err-print_line.ensures.0
    (passes_text (g.A.Read.remaining c.args.answers.now) (g.A.Read.remaining c.hear.new.answers) _ _ (line_text c.hear.new.line.items)
    c.in_ok-hear.ensures.heard.1 out)
