use Rattle.operator_cli.proofs.export.export_store.Goals as goal

pub returns : goal.returns
returns g c = record { outcome = c.export-outcome.result.0; came = c.export-outcome.ensures; printed = c.print_outcome.ensures }
