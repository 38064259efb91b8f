use Rattle.operator_cli.proofs.list.list_store.Goals as goal

pub returns : goal.returns
returns g c = record { outcome = c.list-outcome.result.0; came = c.list-outcome.ensures; printed = c.print_outcome.ensures }
