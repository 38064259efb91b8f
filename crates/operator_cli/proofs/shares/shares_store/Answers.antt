use Rattle.operator_cli.proofs.shares.shares_store.Goals as goal

pub returns : goal.returns
returns g c = record { outcome = c.shares-outcome.result.0; came = c.shares-outcome.ensures; printed = c.print_outcome.ensures }
