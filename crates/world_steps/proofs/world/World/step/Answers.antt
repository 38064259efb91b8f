use Rattle.std.proofs.Common.{subst}
use Rattle.world_steps.specs.World.{IsReached}
use Rattle.world_steps.specs.declared.step.Step.TheVariants.{Ask, Send, Deliver, Restart, Stop, Grow}
use Rattle.world_steps.proofs.Promised.{promises_after}
use Rattle.world_steps.proofs.world.World.step.Goals as goal

pub returns-in-Ask-clause-promises : goal.returns-in-Ask-clause-promises
returns-in-Ask-clause-promises c = promises_after c.args.self.now c.ask.new.self (Ask c.in-Ask.site c.in-Ask.number c.in-Ask.request) c.ask.result
    (subst IsReached c.self.view_is c.self.invariant.reached) c.ask.ensures.made c.ask.ensures.unchanged

pub returns-in-Send-clause-promises : goal.returns-in-Send-clause-promises
returns-in-Send-clause-promises c = promises_after c.args.self.now c.send.new.self (Send c.in-Send.by c.in-Send.to) c.send.result
    (subst IsReached c.self.view_is c.self.invariant.reached) c.send.ensures.made c.send.ensures.unchanged

pub returns-in-Deliver-clause-promises : goal.returns-in-Deliver-clause-promises
returns-in-Deliver-clause-promises c = promises_after c.args.self.now c.deliver.new.self (Deliver c.in-Deliver.index) c.deliver.result
    (subst IsReached c.self.view_is c.self.invariant.reached) c.deliver.ensures.made c.deliver.ensures.unchanged

pub returns-in-Restart-clause-promises : goal.returns-in-Restart-clause-promises
returns-in-Restart-clause-promises c = promises_after c.args.self.now c.restart.new.self (Restart c.in-Restart.site) c.restart.result
    (subst IsReached c.self.view_is c.self.invariant.reached) c.restart.ensures.made c.restart.ensures.unchanged

pub returns-in-Stop-clause-promises : goal.returns-in-Stop-clause-promises
returns-in-Stop-clause-promises c = promises_after c.args.self.now c.stop.new.self (Stop c.in-Stop.site c.in-Stop.input c.in-Stop.stored) c.stop.result
    (subst IsReached c.self.view_is c.self.invariant.reached) c.stop.ensures.made c.stop.ensures.unchanged

pub returns-in-Grow-clause-promises : goal.returns-in-Grow-clause-promises
returns-in-Grow-clause-promises c = promises_after c.args.self.now c.grow.new.self (Grow c.in-Grow.site c.in-Grow.sites) c.grow.result
    (subst IsReached c.self.view_is c.self.invariant.reached) c.grow.ensures.made c.grow.ensures.unchanged
