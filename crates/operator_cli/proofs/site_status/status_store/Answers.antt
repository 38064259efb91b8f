use Rattle.operator_cli.proofs.site_status.status_store.Goals as goal

pub returns : goal.returns
returns g c = record { outcome = c.site_status-outcome.result.0; came = c.site_status-outcome.ensures; printed = c.print_outcome.ensures }
