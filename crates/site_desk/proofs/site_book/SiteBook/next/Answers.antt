use Rattle.std.proofs.Common.{ℕ, ◌≤◌, List, length, get_or, sym, subst, ◌∙◌}
use Rattle.site_desk.proofs.site_book.SiteBook.next.Goals as goal

pub next-requires-clause-in_step : goal.next-requires-clause-in_step
next-requires-clause-in_step g c = record {
  acked = c.self.invariant.0.acknowledged c.args.to;
  pending = c.self.invariant.1.pending c.args.to;
}

pub invariant_of-self : goal.invariant_of-self
invariant_of-self g c = (
  record {
    sound = c.self.invariant.0.sound;
    broken = c.self.invariant.0.broken;
    same = c.self.invariant.0.same;
    rests = c.self.invariant.0.rests;
    acknowledged = λ peer. subst (λ (acked : List ℕ). get_or acked peer 0 ≤ length c.self.inside.book.history) (sym c.next.ensures.kept.acked)
        (c.self.invariant.0.acknowledged peer);
    has_rights = c.self.invariant.0.has_rights;
  },
  record {
    counted = c.next.ensures.kept.sites ∙ c.self.invariant.1.counted;
    pending = λ peer. c.next.ensures.kept.pending peer (c.self.invariant.0.acknowledged peer) (c.self.invariant.1.pending peer);
  },
)

pub invariant_of-self-2 : goal.invariant_of-self-2
invariant_of-self-2 g c = (
  record {
    sound = c.self.invariant.0.sound;
    broken = c.self.invariant.0.broken;
    same = c.self.invariant.0.same;
    rests = c.self.invariant.0.rests;
    acknowledged = λ peer. subst (λ (acked : List ℕ). get_or acked peer 0 ≤ length c.self.inside.book.history) (sym c.next.ensures.kept.acked)
        (c.self.invariant.0.acknowledged peer);
    has_rights = c.self.invariant.0.has_rights;
  },
  record {
    counted = c.next.ensures.kept.sites ∙ c.self.invariant.1.counted;
    pending = λ peer. c.next.ensures.kept.pending peer (c.self.invariant.0.acknowledged peer) (c.self.invariant.1.pending peer);
  },
)
