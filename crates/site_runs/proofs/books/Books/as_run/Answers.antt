use Rattle.std.proofs.Common.{subst}
use Rattle.site_runs.specs.Runs.{IsRun}
use Rattle.site_runs.proofs.Growing.{run_not_oversold}
use Rattle.site_runs.proofs.books.Books.as_run.Goals as goal

pub returns : goal.returns
returns g c =
    let k = g.K.Keeper in
    run_not_oversold k c.args.self.now (subst (λ s. IsRun k s) c.self.view_is c.self.invariant)
