use Rattle.std.proofs.Common.{ℕ, ◌≤◌, List, length, get_or, sym, subst, arith, rules, ◌∙◌}
use Rattle.book_core.specs.Joining.{entry_of_join}
use Rattle.site_exchange.proofs.Counts.{count_of_join}
use Rattle.site_exchange.proofs.ExchangeLaws.{exchange_entered}
use Rattle.site_desk.proofs.Acknowledged.{no_shorter, raised_within}
use Rattle.site_desk.proofs.site_book.SiteBook.take.Goals as goal

pub ack-requires-clause-pending : goal.ack-requires-clause-pending
ack-requires-clause-pending g c = c.self.invariant.1.pending c.in-Ack.by

pub invariant_of-self-in-Ack : goal.invariant_of-self-in-Ack
invariant_of-self-in-Ack g c = (
  record {
    sound = c.self.invariant.0.sound;
    broken = c.self.invariant.0.broken;
    same = c.self.invariant.0.same;
    rests = c.self.invariant.0.rests;
    acknowledged = λ peer. subst (λ (acked : List ℕ). get_or acked peer 0 ≤ length c.self.inside.book.history) (sym c.in_ok-ack-in-Ack.ensures.acked)
        (raised_within c.self.inside.exchange.acked c.in-Ack.by c.in-Ack.upto (length c.self.inside.book.history) c.self.invariant.0.acknowledged
        (search rules) peer);
    has_rights = c.self.invariant.0.has_rights;
  },
  record {
    counted = c.in_ok-ack-in-Ack.ensures.sites ∙ c.self.invariant.1.counted;
    pending = λ peer. c.in_ok-ack-in-Ack.ensures.kept.pending peer (c.self.invariant.1.pending peer);
  },
)

pub invariant_of-self-in-Delta : goal.invariant_of-self-in-Delta
invariant_of-self-in-Delta g c =
    let office = c.self.inside.book.office in
    let h = c.self.inside.book.history in
    let now = c.join-taken.new.book.history in
    let entry = entry_of_join office h c.in-Delta.by c.in-Delta.delta in (
      record {
        sound = search rules;
        broken = search rules;
        same = search rules;
        rests = search rules;
        acknowledged = λ peer. omega (
          arith,
          c.self.invariant.0.acknowledged peer,
          no_shorter c.join-taken.result entry h now c.join-taken.ensures.enters.entered c.join-taken.ensures.enters.unchanged,
        );
        has_rights = search rules;
      },
      exchange_entered c.join-taken.result office c.join-taken.new.book.office entry h now c.self.inside.exchange c.join-taken.ensures.enters.office
          c.join-taken.ensures.enters.entered c.join-taken.ensures.enters.unchanged
          (count_of_join office h c.in-Delta.by c.in-Delta.delta) c.self.invariant.1,
    )

pub returns-after-matches-clause-took : goal.returns-after-matches-clause-took
returns-after-matches-clause-took g c = record {
  call = record {
    office = search rules;
    made = search rules;
    unchanged = search rules;
    shut = search rules;
    closes = search rules;
    untouched = search rules;
    stored = search rules;
    rests = search rules;
    stopped = search rules;
    site = search rules;
    trusted = search rules;
  };
  taken = search rules;
  fault = search rules;
  still = search rules;
  again = search rules;
  known = search rules;
  refused = search rules;
}
