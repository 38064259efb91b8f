use Rattle.operator_cli.proofs.migrate.migrate_store.Goals as goal

pub returns : goal.returns
returns g c = record { outcome = c.migrate-outcome.result; came = c.migrate-outcome.ensures; printed = c.print_outcome.ensures }
