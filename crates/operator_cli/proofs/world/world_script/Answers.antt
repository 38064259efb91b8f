use Rattle.operator_cli.proofs.world.world_script.Goals as goal

pub returns : goal.returns
returns g c = (c.run_flushed-came.result, c.run_flushed-came.ensures, c.tell.ensures)
