use Rattle.operator_cli.proofs.copies.alone_store.Goals as goal

pub returns : goal.returns
returns g c = record { outcome = c.take_mark_off-outcome.result; came = c.take_mark_off-outcome.ensures; printed = c.print_outcome.ensures }
