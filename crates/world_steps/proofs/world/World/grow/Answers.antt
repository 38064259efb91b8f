use Rattle.std.proofs.Common.{◌≡◌, ℕ, ◌≤◌, List, rules, sym, ap, ◌∙◌, subst, arith}
use Rattle.std.proofs.lemmas.Grind.{common_steps}
use Rattle.std.specs.Prelude.{Ok, slice_set}
use Rattle.rights_lattice.specs.Limits.{most_sites}
use Rattle.book_core.specs.BookView.{BookView}
use Rattle.world_steps.specs.NodeView.{NodeView}
use Rattle.world_steps.specs.declared.step.Step.TheVariants.{Grow}
use Rattle.world_steps.specs.declared.step.Outcome.TheVariants.{NotGrown}
use Rattle.world_steps.specs.World.{World, after}
use Rattle.world_steps.specs.Outcomes.{outcome}
use Rattle.world_steps.specs.Reaching.{world_of, IsKept}
use Rattle.world_steps.proofs.Growing.{IsStill, planned_still, refused_gives, grown_made}
use Rattle.world_steps.proofs.Making.{IsGiven}
use Rattle.world_steps.proofs.Sites.{IsMade}
use Rattle.world_steps.proofs.world.World.grow.Goals as goal

pub invariant_of-self : goal.invariant_of-self
invariant_of-self c =
    (planned_still c.self.inside.sites.items c.self.inside.sent.items c.number-place.result c.index_mut.result.now c.plan_growth.new.node c.self.invariant
    (search rules) c.index_mut.ensures.value
    c.plan_growth.ensures.office c.plan_growth.ensures.same).kept

pub returns-in-Err-Memory : goal.returns-in-Err-Memory
returns-in-Err-Memory c = record {
  outcome = tt;
  fault = grind (arith, common_steps);
  memory = grind (arith, common_steps);
  made = tt;
  unchanged = (planned_still c.self.inside.sites.items c.self.inside.sent.items c.number-place.result c.index_mut.result.now c.plan_growth.new.node
      c.self.invariant (search rules) c.index_mut.ensures.value
      c.plan_growth.ensures.office c.plan_growth.ensures.same).same
      ∙ c.self.view_is;
}

refused : (c : goal.In-Err) → IsGiven c.self.inside.sites.items c.self.inside.sent.items
    (slice_set c.self.inside.sites.items c.number-place.result c.plan_growth.new.node) (Grow c.number-place.result c.args.sites) (Ok (NotGrown c.in-Err.fault))
refused c =
    refused_gives c.self.inside.sites.items c.self.inside.sent.items c.number-place.result c.args.sites c.index_mut.result.now c.plan_growth.new.node
    c.in-Err.fault
    c.self.invariant (search rules) c.index_mut.ensures.value c.plan_growth.ensures.office c.plan_growth.ensures.same c.in-Err.ensures.fault (search rules)

pub invariant_of-self-in-Err : goal.invariant_of-self-in-Err
invariant_of-self-in-Err c = (refused c).kept

pub returns-in-Err : goal.returns-in-Err
returns-in-Err c =
    let now : World = world_of (slice_set c.self.inside.sites.items c.number-place.result c.plan_growth.new.node) c.self.inside.sent.items in
    record {
      outcome = subst (λ (n : ℕ). outcome c.args.self.now (Grow n c.args.sites) ≡ Ok (NotGrown c.in-Err.fault)) c.number-place.ensures.number
          (subst (λ (w : World). outcome w (Grow c.number-place.result c.args.sites) ≡ Ok (NotGrown c.in-Err.fault)) c.self.view_is (refused c).outcome);
      fault = tt;
      memory = λ never. cc;
      made = subst (λ (n : ℕ). now ≡ after c.args.self.now (Grow n c.args.sites)) c.number-place.ensures.number
          (subst (λ (w : World). now ≡ after w (Grow c.number-place.result c.args.sites)) c.self.view_is (refused c).made);
      unchanged = tt;
    }

still : (c : goal.Joined-planned)
    → IsStill c.self.inside.sites.items c.self.inside.sent.items (slice_set c.self.inside.sites.items c.number-place.result c.plan_growth.new.node)
still c =
    planned_still c.self.inside.sites.items c.self.inside.sent.items c.number-place.result c.index_mut.result.now c.plan_growth.new.node c.self.invariant
    (search rules) c.index_mut.ensures.value
    c.plan_growth.ensures.office c.plan_growth.ensures.same

pub invariant_of-self-in_err-reserve : goal.invariant_of-self-in_err-reserve
invariant_of-self-in_err-reserve c = subst (λ (nodes : List NodeView). IsKept nodes c.self.inside.sent.items) (sym c.reserve.ensures.items) (still c).kept

pub returns-in_err-reserve : goal.returns-in_err-reserve
returns-in_err-reserve c =
    let is : world_of c.reserve.new.self.items c.self.inside.sent.items ≡ c.args.self.now =
    ap (λ (nodes : List NodeView). world_of nodes c.self.inside.sent.items) c.reserve.ensures.items ∙ (still c).same ∙ c.self.view_is in record {
      outcome = search rules;
      fault = grind (arith, common_steps);
      memory = grind (arith, common_steps);
      made = search rules;
      unchanged = search rules;
    }

grown : (c : goal.After-add_sites)
    → IsMade c.self.inside.sites.items c.self.inside.sent.items c.add_sites.new.nodes.items c.self.inside.sent.items (Grow c.number-place.result c.args.sites)
grown c =
    let few : c.args.sites ≤ most_sites = omega (arith, c.count.ensures.count, c.count.ensures.few) in
    grown_made c.self.inside.sites.items c.self.inside.sent.items c.number-place.result c.args.sites c.limit-limit.result
    c.index_mut.result.now c.plan_growth.new.node c.index_mut-node.result.now c.enter.new.node c.in-Ok.planned c.reserve.new.self.items
    c.add_sites.new.nodes.items
    c.self.invariant (search rules) c.index_mut.ensures.value c.plan_growth.ensures.office c.plan_growth.ensures.same c.in-Ok.ensures.plan few
    c.reserve.ensures.items c.index_mut-node.ensures.value (c.limit-limit.ensures.limit ∙ ap (λ (b : BookView). b.office.limit) c.book.ensures)
    c.enter.ensures.office c.enter.ensures.entered c.add_sites.ensures

pub invariant_of-self-2 : goal.invariant_of-self-2
invariant_of-self-2 c = (grown c).kept

pub returns : goal.returns
returns c =
    let now : World = world_of c.add_sites.new.nodes.items c.self.inside.sent.items in record {
      outcome = grind (arith, common_steps);
      fault = tt;
      memory = λ never. cc;
      made = subst (λ (n : ℕ). now ≡ after c.args.self.now (Grow n c.args.sites)) c.number-place.ensures.number
          (subst (λ (w : World). now ≡ after w (Grow c.number-place.result c.args.sites)) c.self.view_is (grown c).made);
      unchanged = tt;
    }
