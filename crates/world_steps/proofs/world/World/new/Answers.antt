use Rattle.std.proofs.Common.{◌≡◌, List, [], subst, ◌∙◌, arith}
use Rattle.local_rights.proofs.Within.{few_sites}
use Rattle.world_steps.specs.NodeView.{NodeView}
use Rattle.world_steps.specs.Nodes.{AreAdded}
use Rattle.world_steps.specs.World.{opening}
use Rattle.world_steps.specs.Reaching.{IsKept, world_of}
use Rattle.world_steps.proofs.Promised.{promises_hold}
use Rattle.world_steps.proofs.Sites.{kept_opening}
use Rattle.world_steps.proofs.world.World.new.Goals as goal

kept : (c : goal.After-new) → IsKept c.add_sites.new.nodes.items c.new.result.items
    × (world_of c.add_sites.new.nodes.items c.new.result.items ≡ opening c.args.sites c.args.limit)
kept c =
    let none : AreAdded c.args.sites c.args.limit [] c.add_sites.new.nodes.items =
    subst (λ (old : List NodeView). AreAdded c.args.sites c.args.limit old c.add_sites.new.nodes.items)
    (c.in_ok-reserve.ensures.items ∙ c.new-nodes.ensures.items) c.add_sites.ensures in
    kept_opening c.args.sites c.args.limit c.add_sites.new.nodes.items c.new.result.items
    (few_sites c.args.sites (omega (arith, c.count.ensures.count, c.count.ensures.few)))
    c.new.ensures.items none

pub invariant_of-result : goal.invariant_of-result
invariant_of-result c = (kept c).0

pub returns-clause-opening : goal.returns-clause-opening
returns-clause-opening c = (kept c).1

pub returns-clause-promises : goal.returns-clause-promises
returns-clause-promises c = promises_hold (world_of c.add_sites.new.nodes.items c.new.result.items) (kept c).0.reached
