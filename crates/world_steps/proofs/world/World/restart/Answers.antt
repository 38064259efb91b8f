use Rattle.std.proofs.Common.{◌≡◌, ℕ, subst, rules, arith}
use Rattle.std.proofs.lemmas.Grind.{common_steps}
use Rattle.std.specs.Prelude.{slice_set}
use Rattle.world_steps.specs.declared.step.Step.TheVariants.{Restart}
use Rattle.world_steps.specs.World.{World, after}
use Rattle.world_steps.specs.Reaching.{world_of}
use Rattle.world_steps.proofs.Sites.{IsMade}
use Rattle.world_steps.proofs.Making.{restart_made}
use Rattle.world_steps.proofs.world.World.restart.Goals as goal

made : (c : goal.After-self-1)
    → IsMade c.self.inside.sites.items c.self.inside.sent.items (slice_set c.self.inside.sites.items c.number-place.result c.restart.new.self)
    c.self.inside.sent.items (Restart c.number-place.result)
made c =
    restart_made c.self.inside.sites.items c.self.inside.sent.items c.number-place.result c.index_mut-node.result.now c.restart.new.self
    c.self.invariant (search rules) c.index_mut-node.ensures.value c.restart.ensures

pub invariant_of-self : goal.invariant_of-self
invariant_of-self c = (made c).kept

pub returns : goal.returns
returns c =
    let now : World = world_of (slice_set c.self.inside.sites.items c.number-place.result c.restart.new.self) c.self.inside.sent.items in record {
      outcome = grind (arith, common_steps);
      fault = tt;
      memory = λ never. cc;
      made = subst (λ (n : ℕ). now ≡ after c.args.self.now (Restart n)) c.number-place.ensures.number
          (subst (λ (w : World). now ≡ after w (Restart c.number-place.result)) c.self.view_is (made c).made);
      unchanged = tt;
    }
