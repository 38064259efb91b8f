use Rattle.operator_cli.proofs.grow.grow_store.Goals as goal

pub returns : goal.returns
returns g c = record { outcome = c.grow-outcome.result.0; came = c.grow-outcome.ensures; printed = c.print_outcome.ensures }
