use Rattle.std.proofs.Common.{◌≡◌, ◌<◌, List, inl, inr, subst, sym, ◌∙◌, ap, length, rules}
use Rattle.std.specs.Prelude.{Some, Ok, Result, IsSome, slice_get, slice_set}
use Rattle.site_exchange.specs.declared.message.Message.{Message}
use Rattle.site_exchange.specs.Exchange.{verdict, Verdict}
use Rattle.site_exchange.specs.Taking.{MayTake, ack_due, site_after}
use Rattle.world_steps.specs.NodeView.{NodeView}
use Rattle.world_steps.specs.declared.step.Step.TheVariants.{Deliver}
use Rattle.world_steps.specs.declared.step.Outcome.{Outcome}
use Rattle.world_steps.specs.declared.step.WorldFault.{WorldFault}
use Rattle.world_steps.specs.declared.step.WorldFault.TheVariants.{Memory}
use Rattle.world_steps.specs.Nodes.{site_of, verdict_told}
use Rattle.world_steps.specs.Outcomes.{outcome, taken_as, IsDue, MayWantMemory}
use Rattle.world_steps.specs.Reaching.{world_of, IsKept}
use Rattle.world_steps.specs.World.{World, after}
use Rattle.site_exchange.specs.Taking.{with_given}
use Rattle.world_steps.proofs.Making.{sent_is_due}
use Rattle.world_steps.proofs.Sites.{kept_same, same_world, found_at}
use Rattle.world_steps.proofs.Delivering.{IsDelivered, deliver_gives, deliver_wants, IsFor, is_for, same_message, same_node, verdict_by}
use Rattle.world_steps.proofs.world.World.deliver.Goals as goal

pub index-requires : goal.index-requires
index-requires c =
    let there = is_for c.self.inside.sites.items c.self.inside.sent.items c.args.index c.number-place.result c.index-message.result.now c.self.invariant
    (search rules) c.index-message.ensures (c.number-place.ensures.number ∙ c.receiver.ensures) in
    let below : c.number-place.result < length c.self.inside.sites.items = there.below in
    search rules

pub index_mut-node-requires : goal.index_mut-node-requires
index_mut-node-requires c =
    let there = is_for c.self.inside.sites.items c.self.inside.sent.items c.args.index c.number-place.result c.index-message.result.now c.self.invariant
    (search rules) c.index-message.ensures (c.number-place.ensures.number ∙ c.receiver.ensures) in
    let below : c.number-place.result < length c.self.inside.sites.items = there.below in
    search rules

pub returns-then-is_err : goal.returns-then-is_err
returns-then-is_err c = record {
  outcome = tt;
  fault = subst (λ (w : World). IsDue w (Deliver c.args.index) Memory) c.self.view_is
      (sent_is_due (world_of c.self.inside.sites.items c.self.inside.sent.items) c.args.index (search rules));
  memory = λ refused.
      let there = is_for c.self.inside.sites.items c.self.inside.sent.items c.args.index c.number-place.result c.index-message.result.now c.self.invariant
      (search rules) c.index-message.ensures (c.number-place.ensures.number ∙ c.receiver.ensures) in
      let acknowledged : IsSome c.ack_due-ack.result = search rules in
      subst (λ (w : World). MayWantMemory w (Deliver c.args.index)) c.self.view_is
      (deliver_wants c.self.inside.sites.items c.self.inside.sent.items c.args.index c.number-place.result c.index-message.result.now c.index.result.now
      c.self.invariant there.sent_is there.to there.below c.index.ensures
      (inl (subst IsSome (c.ack_due-ack.ensures
      ∙ ap (λ (v : Verdict). ack_due v c.index-message.result.now)
      (verdict_by _ c.index-message.result.now c.book.result.now c.index.result.now.book c.judge-taken.ensures c.book.ensures)) acknowledged)));
  made = tt;
  unchanged = search rules;
}

in_err : (c : goal.Joined-ack-3) → IsFor c.self.inside.sites.items c.self.inside.sent.items c.args.index c.number-place.result c.index-message.result.now
in_err c = is_for c.self.inside.sites.items c.self.inside.sent.items c.args.index c.number-place.result c.index-message.result.now c.self.invariant
    (search rules) c.index-message.ensures (c.number-place.ensures.number ∙ c.receiver.ensures)

node_in_err : (c : goal.Joined-ack-3) → slice_get c.self.inside.sites.items c.number-place.result ≡ Some c.index_mut-node.result.now
node_in_err c = found_at c.self.inside.sites.items c.number-place.result c.index_mut-node.result.now (in_err c).below c.index_mut-node.ensures.value

pub invariant_of-self-then-is_err-2 : goal.invariant_of-self-then-is_err-2
invariant_of-self-then-is_err-2 c =
    subst (λ (sent : List Message). IsKept (slice_set c.self.inside.sites.items c.number-place.result c.take.new.node) sent) (sym c.make_room.ensures.items)
    (kept_same c.self.inside.sites.items c.self.inside.sent.items c.number-place.result c.index_mut-node.result.now c.take.new.node c.self.invariant
    (node_in_err c) c.take.ensures.site.office (search rules))

pub returns-then-is_err-2 : goal.returns-then-is_err-2
returns-then-is_err-2 c = record {
  outcome = tt;
  fault = subst (λ (w : World). IsDue w (Deliver c.args.index) Memory) c.self.view_is
      (sent_is_due (world_of c.self.inside.sites.items c.self.inside.sent.items) c.args.index (search rules));
  memory = λ refused.
      let node : NodeView = c.index_mut-node.result.now in
      let wanted : MayTake (verdict node.book.office node.book.history c.index-2.result.now) (site_of node) c.index-2.result.now = search rules in
      let same = same_message c.self.inside.sent.items c.make_room.new.sent.items c.args.index c.index-message.result.now c.index-2.result.now
      c.make_room.ensures.items (search rules) c.index-message.ensures c.index-2.ensures in
      subst (λ (w : World). MayWantMemory w (Deliver c.args.index)) c.self.view_is
      (deliver_wants c.self.inside.sites.items c.self.inside.sent.items c.args.index c.number-place.result c.index-message.result.now node
      c.self.invariant (in_err c).sent_is (in_err c).to (in_err c).below c.index_mut-node.ensures.value
      (inr (subst (λ (m : Message). MayTake (verdict node.book.office node.book.history m) (site_of node) m) same wanted)));
  made = tt;
  unchanged =
      ap (world_of (slice_set c.self.inside.sites.items c.number-place.result c.take.new.node)) c.make_room.ensures.items
      ∙ same_world c.self.inside.sites.items c.self.inside.sent.items c.number-place.result c.index_mut-node.result.now c.take.new.node (node_in_err c)
      c.take.ensures.site.office (search rules)
      ∙ c.self.view_is;
}

given : (c : goal.After-put) → IsDelivered c.self.inside.sites.items c.self.inside.sent.items
    (slice_set c.self.inside.sites.items c.number-place.result c.take.new.node)
    (with_given c.self.inside.sent.items (ack_due (verdict_told c.judge-taken.result) c.index-message.result.now)) c.args.index
    (taken_as (verdict_told c.judge-taken.result) (length c.self.inside.sent.items))
given c =
    let old : NodeView = c.index_mut-node.result.now in
    let there = is_for c.self.inside.sites.items c.self.inside.sent.items c.args.index c.number-place.result c.index-message.result.now c.self.invariant
    (search rules) c.index-message.ensures (c.number-place.ensures.number ∙ c.receiver.ensures) in
    let changed : site_of c.take.new.node ≡ site_after (verdict old.book.office old.book.history c.index-2.result.now) c.index-2.result.now (site_of old)
    = search rules in
    deliver_gives c.self.inside.sites.items c.self.inside.sent.items c.args.index c.number-place.result c.index-message.result.now old c.take.new.node
    c.judge-taken.result
    c.self.invariant there.sent_is there.to there.below c.index_mut-node.ensures.value c.take.ensures.site.office
    (verdict_by _ c.index-message.result.now c.book.result.now c.index.result.now.book c.judge-taken.ensures c.book.ensures
    ∙ ap (λ (n : NodeView). verdict n.book.office n.book.history c.index-message.result.now)
    (same_node c.self.inside.sites.items c.number-place.result c.index.result.now old there.below c.index.ensures c.index_mut-node.ensures.value))
    (changed
    ∙ ap (λ (m : Message). site_after (verdict old.book.office old.book.history m) m (site_of old))
    (same_message c.self.inside.sent.items c.make_room.new.sent.items c.args.index c.index-message.result.now c.index-2.result.now
    c.make_room.ensures.items (search rules) c.index-message.ensures c.index-2.ensures))

sent_now : (c : goal.After-put)
    → with_given c.self.inside.sent.items (ack_due (verdict_told c.judge-taken.result) c.index-message.result.now) ≡ c.put.new.sent.items
sent_now c =
    (λ k. with_given (sym c.make_room.ensures.items k) (sym c.ack_due-ack.ensures k)) ∙ sym c.put.ensures

pub invariant_of-self-2 : goal.invariant_of-self-2
invariant_of-self-2 c = subst (λ (sent : List Message). IsKept (slice_set c.self.inside.sites.items c.number-place.result c.take.new.node) sent)
    (sent_now c) (given c).kept

pub returns : goal.returns
returns c =
    let now : World = world_of (slice_set c.self.inside.sites.items c.number-place.result c.take.new.node) c.put.new.sent.items in record {
      outcome =
          subst (λ (w : World). outcome w (Deliver c.args.index) ≡ Ok c.taken_as-outcome.result) c.self.view_is
          ((given c).outcome ∙ ap (λ (o : Outcome). let r : Result Outcome WorldFault = Ok o in r)
          (ap (taken_as (verdict_told c.judge-taken.result)) (search rules) ∙ sym c.taken_as-outcome.ensures));
      fault = tt;
      memory = λ never. cc;
      made = subst (λ (w : World). now ≡ after w (Deliver c.args.index)) c.self.view_is
          (ap (world_of (slice_set c.self.inside.sites.items c.number-place.result c.take.new.node)) (sym (sent_now c)) ∙ (given c).made);
      unchanged = tt;
    }
