use Rattle.std.proofs.Common.{◌≡◌, ◌<◌, rules, arith, ◌∙◌}
use Rattle.world_steps.specs.NodeView.{NodeView}
use Rattle.world_steps.specs.Nodes.{IsOpened}
use Rattle.world_steps.proofs.Added.{one_added}
use Rattle.world_steps.proofs.node.add_sites.Goals as goal

pub loop-number-preserved : goal.loop-number-preserved
loop-number-preserved c =
    let node : NodeView = c.new.result in
    let here : c.site.result ≡ c.loop-number.number = c.site.ensures in
    let opened : IsOpened c.args.sites c.args.limit c.loop-number.number node = record {
      office = c.new.ensures.office ∙ (λ k. record { me = here k; sites = c.args.sites; limit = c.args.limit });
      history = c.new.ensures.history;
      acked = c.new.ensures.acked;
    } in
    let below : c.loop-number.number < c.args.sites = search rules in
    record {
      added = one_added c.args.sites c.args.limit c.args.nodes.now.items c.loop-number.nodes.items c.push_reserved.new.self.items c.loop-number.number node
          c.loop-number.invariant.added below c.push_reserved.ensures.items opened;
      room = omega (arith, c.loop-number.invariant.room, c.push_reserved.ensures.capacity);
    }
