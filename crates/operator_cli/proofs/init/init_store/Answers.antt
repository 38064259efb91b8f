use Rattle.operator_cli.proofs.init.init_store.Goals as goal

pub returns : goal.returns
returns g c = record { outcome = c.init-outcome.result; came = c.init-outcome.ensures; printed = c.print_outcome.ensures }
