use Rattle.std.proofs.Common.{refl}
use Rattle.operator_cli.specs.declared.command_fault.CommandFault.TheVariants as fault
use Rattle.operator_cli.specs.Visits.{IsAnswer, IsVisitEnd, line_text}
use Rattle.operator_cli.proofs.VisitLaws.{asks_nothing, failed_prints, fails_with, memory_end, passes_nothing}
use Rattle.operator_cli.proofs.visits.visit.Goals as goal

pub returns-in_default : goal.returns-in_default
returns-in_default g c =
    let sent = g.A.Read.remaining c.args.answers in
    let out = g.W.Write.contents c.args.out.now in record {
      asked = asks_nothing (g.Q.Write.contents c.args.questions.now) (line_text c.args.question.now);
      whole = λ alive. absurd (alive c.tell_fault.ensures.status);
      printed = failed_prints (IsAnswer c.args.expected sent) out out c.tell_fault.result c.tell_fault.ensures.status;
      passes = passes_nothing sent out;
      told = c.tell_fault.ensures.told;
      cause =
          fails_with (IsVisitEnd sent) (g.E.Write.contents c.args.err.now) (g.E.Write.contents c.tell_fault.new.err) fault.Memory c.tell_fault.result
          (memory_end sent fault.Memory refl) c.tell_fault.ensures.line;
    }
