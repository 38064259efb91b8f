use Rattle.std.proofs.Common.{[], ◌∷◌, ◌++◌, ap, ◌∙◌, sym, subst, take}
use Rattle.world_steps.specs.World.{World, IsReached}
use Rattle.world_steps.specs.Outcomes.{IsDue}
use Rattle.world_steps.proofs.Promised.{promises_run}
use Rattle.world_steps.proofs.Runs.{run_more, outcomes_more, due_at}
use Rattle.world_steps.proofs.world.World.run.Goals as goal

pub loop-place-preserved : goal.loop-place-preserved
loop-place-preserved c =
    let steps = c.deref-step-items.result.now in
    let before = c.loop-place.invariant in
    record {
      world = c.in-Ok.ensures.made ∙ run_more steps c.loop-place.place c.step-item.result c.args.self.now c.loop-place.self c.loop-place-test.true
          c.step-item.is before.world;
      answers = outcomes_more steps c.loop-place.place c.step-item.result c.args.self.now c.loop-place.self c.loop-place.answers.items
          c.push_reserved.new.self.items c.in-Ok.answer
          c.loop-place-test.true c.step-item.is before.world before.answers c.in-Ok.ensures.outcome
          (c.push_reserved.ensures.items ∙ ap (λ os. os ++ c.in-Ok.answer ∷ []) c.reserve.ensures.items);
    }

pub returns-in-Err-clause-fault : goal.returns-in-Err-clause-fault
returns-in-Err-clause-fault c =
    due_at c.args.steps.items c.deref-step-items.result.now c.loop-place.place c.step-item.result _ c.in-Err.fault c.deref-step-items.ensures.value
    c.loop-place-test.true c.step-item.is
    (subst (λ (w : World). IsDue w c.step-item.result c.in-Err.fault) (sym c.in-Err.ensures.unchanged) c.in-Err.ensures.fault)

pub returns-then-is_err-clause-fault : goal.returns-then-is_err-clause-fault
returns-then-is_err-clause-fault c =
    due_at c.args.steps.items c.deref-step-items.result.now c.loop-place.place c.step-item.result c.loop-place.self c.due_without_memory.result
    c.deref-step-items.ensures.value c.loop-place-test.true c.step-item.is
    c.due_without_memory.ensures

pub returns-then-is_err-clause-promises : goal.returns-then-is_err-clause-promises
returns-then-is_err-clause-promises c =
    promises_run c.args.self.now c.loop-place.self (take c.loop-place.place c.deref-step-items.result.now)
    (subst IsReached c.self.view_is c.self.invariant.reached) c.loop-place.invariant.world

pub returns-clause-promises : goal.returns-clause-promises
returns-clause-promises c =
    promises_run c.args.self.now c.loop-place.self (take c.loop-place.place c.deref-step-items.result.now)
    (subst IsReached c.self.view_is c.self.invariant.reached) c.loop-place.invariant.world
