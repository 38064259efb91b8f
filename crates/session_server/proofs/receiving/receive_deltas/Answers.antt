use Rattle.std.proofs.Common.{rules, ap, arith, inl, inr, refl, sym, ◌∙◌}
use Rattle.session_server.proofs.Exchanges.{nothing_came, came_more, sent_or_back}
use Rattle.session_server.proofs.receiving.receive_deltas.Goals as goal

pub loop-init : goal.loop-init
loop-init g c = record { rx = refl; tx = refl; acknowledged = nothing_came g.S.Replica.holds g.S.Replica.refuses c.args.rx.messages c.args.tx.messages }

pub loop-preserved-in-Ok-Some-2 : goal.loop-preserved-in-Ok-Some-2
loop-preserved-in-Ok-Some-2 g c =
    let after = sent_or_back _ _ _ _ _ _ _ _ _ _ _ _ c.loop.invariant.acknowledged (sym c.in-Ok-Some.field-0-is ∙ c.in-Ok-Some.ensures.due)
    c.in-Ok-Some.ensures.held (ap (λ r. r.messages) c.in-Ok.ensures.message) c.send.ensures in
    record { rx = search rules; tx = after.0 ∙ c.loop.invariant.tx; acknowledged = after.1 }

pub loop-preserved-in-Ok-Some-3 : goal.loop-preserved-in-Ok-Some-3
loop-preserved-in-Ok-Some-3 g c =
    let after = sent_or_back _ _ _ _ _ _ _ _ _ _ _ _ c.loop.invariant.acknowledged (sym c.in-Ok-Some.field-0-is ∙ c.in-Ok-Some.ensures.due)
    c.in-Ok-Some.ensures.held (ap (λ r. r.messages) c.in-Ok.ensures.message) c.send.ensures in
    record { rx = search rules; tx = after.0 ∙ c.loop.invariant.tx; acknowledged = after.1 }

pub loop-preserved-in-Ok-None : goal.loop-preserved-in-Ok-None
loop-preserved-in-Ok-None g c = record {
  rx = search rules;
  tx = c.loop.invariant.tx;
  acknowledged = came_more _ _ _ _ _ _ _ _ _ _ _ c.loop.invariant.acknowledged (inl c.in-Ok-None.ensures.held)
      (ap (λ r. r.messages) c.in-Ok.ensures.message) refl (omega (arith));
}

pub loop-preserved : goal.loop-preserved
loop-preserved g c = record {
  rx = search rules;
  tx = c.loop.invariant.tx;
  acknowledged = came_more _ _ _ _ _ _ _ _ _ _ _ c.loop.invariant.acknowledged (inr c.in-Err.ensures.refused)
      (ap (λ r. r.messages) c.in-Ok.ensures.message) refl (omega (arith, c.saturating_add-refused.ensures));
}
