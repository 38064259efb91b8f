use Rattle.operator_cli.proofs.migrate.migrate.Goals as goal

pub returns : goal.returns
returns g c = (c.migrate.result, c.migrate.ensures, c.outcome_of_migrate.ensures)
