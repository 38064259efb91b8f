use Rattle.std.proofs.Common.{◌≡◌, map, take}
use Rattle.std.specs.Prelude.{Ok}
use Rattle.world_steps.specs.World.{run}
use Rattle.world_steps.specs.Outcomes.{outcomes}
use Rattle.world_steps.proofs.world.World.run.Given as goal

abbrev pub invariant-loop-place : goal.invariant-loop-place
invariant-loop-place l = record {
  world : l.self ≡ run (take l.place l.step-items) l.fn.self;
  answers : map Ok l.answers.items ≡ outcomes (take l.place l.step-items) l.fn.self;
}
