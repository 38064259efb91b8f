use Rattle.std.proofs.Common.{subst}
use Rattle.site_runs.specs.Runs.{IsRun}
use Rattle.site_runs.proofs.Growing.{run_not_oversold}
use Rattle.site_runs.proofs.books.Books.into_books.Goals as goal

pub returns-clause-never : goal.returns-clause-never
returns-clause-never g c =
    let k = g.K.Keeper in
    run_not_oversold k c.args.self (subst (λ s. IsRun k s) c.self.view_is c.self.invariant)
