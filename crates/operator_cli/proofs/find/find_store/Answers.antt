use Rattle.operator_cli.proofs.find.find_store.Goals as goal

pub returns : goal.returns
returns g c = record { outcome = c.find-outcome.result.0; came = c.find-outcome.ensures; printed = c.print_outcome.ensures }
