use Rattle.operator_cli.proofs.import.import_store.Goals as goal

pub returns : goal.returns
returns g c = record { outcome = c.import-outcome.result.0; came = c.import-outcome.ensures; printed = c.print_outcome.ensures }
