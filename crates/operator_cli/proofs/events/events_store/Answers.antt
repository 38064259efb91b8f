use Rattle.operator_cli.proofs.events.events_store.Goals as goal

pub returns : goal.returns
returns g c = record { outcome = c.events-outcome.result.0; came = c.events-outcome.ensures; printed = c.print_outcome.ensures }
