use Rattle.std.proofs.Common.{subst}
use Rattle.world_steps.specs.World.{IsReached}
use Rattle.world_steps.specs.Promises.{HoldsPromises}
use Rattle.world_steps.specs.Reaching.{world_of}
use Rattle.world_steps.proofs.Promised.{promises_hold}
use Rattle.world_steps.proofs.world.World.promises.Goals as goal

pub returns-clause-reached : goal.returns-clause-reached
returns-clause-reached c = subst IsReached c.self.view_is c.self.invariant.reached

pub returns-clause-promises : goal.returns-clause-promises
returns-clause-promises c = subst HoldsPromises c.self.view_is
    (promises_hold (world_of c.self.inside.sites.items c.self.inside.sent.items) c.self.invariant.reached)
