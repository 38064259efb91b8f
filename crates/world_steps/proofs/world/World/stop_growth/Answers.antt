use Rattle.std.proofs.Common.{Bool, sym, ap, ◌∙◌, arith}
use Rattle.std.proofs.lemmas.Grind.{common_steps}
use Rattle.world_steps.specs.World.{World, after}
use Rattle.world_steps.specs.declared.step.Input.TheVariants as input
use Rattle.world_steps.specs.declared.step.Step.TheVariants.{Restart, Stop}
use Rattle.world_steps.proofs.Growing.{stopped_growing, stopped_before}
use Rattle.world_steps.proofs.world.World.stop_growth.Goals as goal
use Rattle.world_steps.proofs.world.World.stop_growth.Goals.{then-stored+in_ok-grow, else-stored}

pub returns : goal.returns
returns c = record {
  outcome = grind (arith, common_steps);
  fault = tt;
  memory = λ never. cc;
  made = elim c.if-stored.branch [
    | then-stored+in_ok-grow w ↦ c.in_ok-restart.ensures.made
        ∙ ap (λ (v : World). after v (Restart c.args.site)) (w.self-is ∙ w.in_ok-grow.ensures.made)
        ∙ stopped_growing c.args.self.now c.args.site c.args.sites
        ∙ ap (λ (b : Bool). after c.args.self.now (Stop c.args.site (input.Grow c.args.sites) b)) (sym w.if-stored.true)
    | else-stored w ↦ c.in_ok-restart.ensures.made
        ∙ ap (λ (v : World). after v (Restart c.args.site)) w.self-is
        ∙ stopped_before c.args.self.now c.args.site c.args.sites
        ∙ ap (λ (b : Bool). after c.args.self.now (Stop c.args.site (input.Grow c.args.sites) b)) (sym w.if-stored.false)
  ];
  unchanged = tt;
}
