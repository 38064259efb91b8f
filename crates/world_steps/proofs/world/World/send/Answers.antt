use Rattle.std.proofs.Common.{◌≡◌, ℕ, true, List, subst, sym, ◌∙◌, ap, rules, arith}
use Rattle.std.proofs.lemmas.Grind.{common_steps}
use Rattle.std.specs.Prelude.{slice_set}
use Rattle.site_exchange.specs.declared.message.Message.{Message}
use Rattle.world_steps.specs.NodeView.{NodeView}
use Rattle.world_steps.specs.declared.step.Step.TheVariants.{Send}
use Rattle.world_steps.specs.Reaching.{world_of}
use Rattle.world_steps.specs.World.{World, after, are_peers}
use Rattle.site_exchange.specs.Taking.{with_given}
use Rattle.world_steps.proofs.Sites.{IsMade, put_back}
use Rattle.world_steps.proofs.Making.{acked_within, peers_in, peer_below, peer_counted, send_made}
use Rattle.world_steps.proofs.world.World.send.Goals as goal

peers : (c : goal.After-index_mut-node) → are_peers (world_of c.self.inside.sites.items c.self.inside.sent.items) c.number.result c.args.to ≡ true
peers c = peers_in c.self.inside.sites.items c.self.inside.sent.items c.args.self.now c.number.result c.args.by c.args.to c.self.view_is
    c.number.ensures.number c.if-not-are_peers.ensures

pub next-requires-clause-acked : goal.next-requires-clause-acked
next-requires-clause-acked c =
    acked_within c.self.inside.sites.items c.self.inside.sent.items c.number.result c.index_mut-node.result.now c.self.invariant
    (peer_below c.self.inside.sites.items c.self.inside.sent.items c.number.result c.args.to (peers c)) c.index_mut-node.ensures.value

pub next-requires-clause-site : goal.next-requires-clause-site
next-requires-clause-site c =
    peer_counted c.self.inside.sites.items c.self.inside.sent.items c.number.result c.args.to c.index_mut-node.result.now c.self.invariant
    (peer_below c.self.inside.sites.items c.self.inside.sent.items c.number.result c.args.to (peers c)) c.index_mut-node.ensures.value (peers c)

made : (c : goal.After-put) → IsMade c.self.inside.sites.items c.self.inside.sent.items c.self.inside.sites.items
    (with_given c.self.inside.sent.items c.in_ok-due.due) (Send c.number.result c.args.to)
made c =
    let there = peers_in c.self.inside.sites.items c.self.inside.sent.items c.args.self.now c.number.result c.args.by c.args.to c.self.view_is
    c.number.ensures.number c.if-not-are_peers.ensures in
    send_made c.self.inside.sites.items c.self.inside.sent.items c.number.result c.args.to c.index_mut-node.result.now c.in_ok-due.due c.self.invariant
    (peer_below c.self.inside.sites.items c.self.inside.sent.items c.number.result c.args.to there) c.index_mut-node.ensures.value there
    c.in_ok-due.ensures.message

sent_is : (c : goal.After-put) → with_given c.self.inside.sent.items c.in_ok-due.due ≡ c.put.new.sent.items
sent_is c = ap (λ (sent : List Message). with_given sent c.in_ok-due.due) (sym c.make_room.ensures.items) ∙ sym c.put.ensures

-- the sites and the messages after the send
now_is : (c : goal.After-put) → IsMade c.self.inside.sites.items c.self.inside.sent.items
    (slice_set c.self.inside.sites.items c.number.result c.next.new.self) c.put.new.sent.items (Send c.number.result c.args.to)
now_is c =
    let kept = put_back c.self.inside.sites.items c.number.result c.index_mut-node.result.now c.next.new.self c.index_mut-node.ensures.value
    c.next.ensures.unchanged in
    subst (λ (nodes : List NodeView). IsMade c.self.inside.sites.items c.self.inside.sent.items nodes c.put.new.sent.items
    (Send c.number.result c.args.to)) (sym kept)
    (subst (λ (sent : List Message). IsMade c.self.inside.sites.items c.self.inside.sent.items c.self.inside.sites.items sent
    (Send c.number.result c.args.to)) (sent_is c) (made c))

pub invariant_of-self-2 : goal.invariant_of-self-2
invariant_of-self-2 c = (now_is c).kept

pub returns : goal.returns
returns c =
    let now : World = world_of (slice_set c.self.inside.sites.items c.number.result c.next.new.self) c.put.new.sent.items in record {
      outcome = grind (arith, common_steps);
      fault = tt;
      memory = λ never. cc;
      made = subst (λ (n : ℕ). now ≡ after c.args.self.now (Send n c.args.to)) c.number.ensures.number
          (subst (λ (w : World). now ≡ after w (Send c.number.result c.args.to)) c.self.view_is (now_is c).made);
      unchanged = tt;
    }

pub returns-in_err-due : goal.returns-in_err-due
returns-in_err-due c = record {
  outcome = search rules;
  fault = grind (arith, common_steps);
  memory = grind (arith, common_steps);
  made = search rules;
  unchanged = grind (arith, common_steps);
}

pub returns-in_err-make_room : goal.returns-in_err-make_room
returns-in_err-make_room c = record {
  outcome = search rules;
  fault = grind (arith, common_steps);
  memory = grind (arith, common_steps);
  made = search rules;
  unchanged = grind (arith, common_steps);
}
