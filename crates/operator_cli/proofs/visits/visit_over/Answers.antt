use Rattle.operator_cli.specs.Visits.{IsAnswer, IsVisitEnd}
use Rattle.operator_cli.proofs.EndLaws.{fails_for}
use Rattle.operator_cli.proofs.PrintLaws.{ends_printed, ok_unless_failed}
use Rattle.operator_cli.proofs.VisitLaws.{passes_kept, write_ends}
use Rattle.operator_cli.proofs.visits.visit_over.Goals as goal

pub returns : goal.returns
returns g c =
    let came = c.print_answer-came in
    let sent = g.A.Read.remaining c.args.answers.now in
    let before = g.W.Write.contents c.args.out.now in
    let mid = g.W.Write.contents c.print_answer-came.new.out in
    let after = g.W.Write.contents c.ended.new.out in record {
      asked = came.ensures.asked;
      whole = ok_unless_failed _ came.result c.ended.result came.ensures.whole c.ended.ensures.status;
      printed = ends_printed (IsAnswer c.args.expected sent) before mid after came.result c.ended.result came.ensures.printed c.ended.ensures.kept
          c.ended.ensures.status;
      passes = passes_kept sent before mid after came.ensures.passes c.ended.ensures.kept;
      told = c.ended.ensures.told;
      cause =
          fails_for (IsVisitEnd sent) (g.E.Write.contents c.args.err.now) (g.E.Write.contents c.ended.new.err) came.result c.ended.result came.ensures.cause
          (write_ends came.result sent) came.ensures.ends c.ended.ensures.line c.ended.ensures.flush;
    }
