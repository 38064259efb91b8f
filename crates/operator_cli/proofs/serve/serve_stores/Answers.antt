use Rattle.std.proofs.Common.{map, subst}
use Rattle.operator_cli.specs.Serving.{ComesTo, end_fault, first_of_all}
use Rattle.operator_cli.proofs.Serves.{ends_served}
use Rattle.operator_cli.proofs.serve.serve_stores.Goals as goal

pub returns-in-Ok-clause-ran : goal.returns-in-Ok-clause-ran
returns-in-Ok-clause-ran g c =
    let ends = c.in-Ok.ends.items in
    let came : ComesTo (map (λ e. e.book.book) ends) (first_of_all (map (λ e. end_fault e.finished e.book) ends)) (g.W.Write.contents c.args.out.now)
    (g.W.Write.contents c.summed_up-came.new.out) c.summed_up-came.result =
    subst (λ l. ComesTo (map (λ e. e.book.book) l) (first_of_all (map (λ e. end_fault e.finished e.book) l)) (g.W.Write.contents c.args.out.now)
    (g.W.Write.contents c.summed_up-came.new.out) c.summed_up-came.result)
    c.as_slice.ensures.value c.summed_up-came.ensures.came in
    ends_served (map (λ e. e.book.book) ends) (first_of_all (map (λ e. end_fault e.finished e.book) ends)) (g.W.Write.contents c.args.out.now)
    (g.W.Write.contents c.summed_up-came.new.out) (g.W.Write.contents c.ended.new.out)
    (g.E.Write.contents c.args.err.now) (g.E.Write.contents c.ended.new.err) c.summed_up-came.result c.ended.result came c.ended.ensures.kept
    c.summed_up-came.ensures.lives c.ended.ensures.line c.ended.ensures.flush c.ended.ensures.status
