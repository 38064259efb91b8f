use Rattle.std.proofs.Common.{ℕ, subst, rules}
use Rattle.std.specs.Prelude.{slice_set}
use Rattle.world_steps.specs.declared.step.Step.TheVariants.{Ask}
use Rattle.world_steps.specs.World.{World}
use Rattle.world_steps.specs.Outcomes.{MakesStep}
use Rattle.world_steps.specs.Reaching.{world_of}
use Rattle.world_steps.proofs.Making.{IsGiven, ask_gives, ask_wants}
use Rattle.world_steps.proofs.world.World.ask.Goals as goal

given : (c : goal.After-self-1)
    → IsGiven c.self.inside.sites.items c.self.inside.sent.items (slice_set c.self.inside.sites.items c.number-place.result c.ask.new.node)
    (Ask c.number-place.result c.args.number c.args.request.now) c.ask.result
given c =
    ask_gives c.self.inside.sites.items c.self.inside.sent.items c.number-place.result c.args.number c.args.request.now c.index_mut-node.result.now
    c.ask.new.node c.ask.result
    c.self.invariant (search rules) c.index_mut-node.ensures.value c.ask.ensures.site.office c.ask.ensures.outcome c.ask.ensures.memory
    c.ask.ensures.site.changed c.ask.ensures.site.unchanged

pub invariant_of-self : goal.invariant_of-self
invariant_of-self c = (given c).kept

pub returns : goal.returns
returns c =
    let now : World = world_of (slice_set c.self.inside.sites.items c.number-place.result c.ask.new.node) c.self.inside.sent.items in
    let it = given c in
    subst (λ (n : ℕ). MakesStep c.args.self.now (Ask n c.args.number c.args.request.now) now c.ask.result) c.number-place.ensures.number
    (subst (λ (w : World). MakesStep w (Ask c.number-place.result c.args.number c.args.request.now) now c.ask.result) c.self.view_is (record {
      outcome = it.outcome;
      fault = it.due;
      memory = λ refused. ask_wants c.self.inside.sites.items c.self.inside.sent.items c.number-place.result c.args.number c.args.request.now
          c.index_mut-node.result.now c.self.invariant (search rules) c.index_mut-node.ensures.value (c.ask.ensures.wanted refused);
      made = it.made;
      unchanged = it.unchanged;
    }))
