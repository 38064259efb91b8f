use Rattle.std.proofs.Common.{◌≤◌, length, get_or, sym, subst, ◌∙◌}
use Rattle.world_steps.specs.NodeView.{NodeView}
use Rattle.world_steps.proofs.node.Node.next.Goals as goal

pub next-requires-clause-in_step : goal.next-requires-clause-in_step
next-requires-clause-in_step c = record {
  acked = subst (λ (n : NodeView). get_or n.acked c.args.to 0 ≤ length n.book.history) (sym c.self.view_is) (c.requires.acked c.args.to);
  pending = c.self.invariant.pending c.args.to;
}

pub invariant_of-self : goal.invariant_of-self
invariant_of-self c = record {
  counted = c.next.ensures.kept.sites ∙ c.self.invariant.counted;
  pending = λ peer. c.next.ensures.kept.pending peer
      (subst (λ (n : NodeView). get_or n.acked peer 0 ≤ length n.book.history) (sym c.self.view_is) (c.requires.acked peer)) (c.self.invariant.pending peer);
}
