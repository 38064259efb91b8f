use Rattle.operator_cli.proofs.VisitLaws.{end_passes}
use Rattle.operator_cli.proofs.visits.print_rest.Goals as goal

pub returns-in_ok-pass_on-in-Message-clause-passes : goal.returns-in_ok-pass_on-in-Message-clause-passes
returns-in_ok-pass_on-in-Message-clause-passes g c =
    end_passes (g.A.Read.remaining c.args.answers.now) (g.A.Read.remaining c.pass_on-in-Message.new.answers) (g.W.Write.contents c.args.out.now)
    (g.W.Write.contents c.pass_on-in-Message.new.out) (g.W.Write.contents c.print_line.new.out) c.print_line.result
    c.in_ok-pass_on-in-Message.ensures.all c.print_line.ensures.written
