use Rattle.std.proofs.Common.{◌<◌, ◌+◌, ◌-◌, Some, refl, sym, ◌∙◌, arith, rules}
use Rattle.std.specs.Prelude.{pos}
use Rattle.rights_lattice.specs.Sums.{max_sites}
use Rattle.local_rights.specs.Rights.{IsPosition}
use Rattle.local_rights.proofs.PositionLaws.{none_open, open_at, open_value, sold_within}
use Rattle.local_rights.proofs.Within.{few_sites, position_below}
use Rattle.local_rights.proofs.position.open_seats.Goals as goal

pub returns-then-not-has_rights-clause-open : goal.returns-then-not-has_rights-clause-open
returns-then-not-has_rights-clause-open c =
    let few = few_sites c.count-number-end.result c.count-number-end.ensures.few in
    let below : c.site.result < max_sites = omega (arith, few, c.site.ensures, c.loop-number-test.true) in
    sym (none_open c.args.rights.now.cells c.args.event c.site.result below (search rules))

pub overflow_sub-result : goal.overflow_sub-result
overflow_sub-result c =
    let position : IsPosition c.args.rights.now.cells c.args.event = position_below c.args.rights.now.sites c.args.rights.now.cells c.args.event
    c.sites-sites.ensures.within (λ i l.
    c.loop-number.invariant i (omega (arith, l, c.loop-number-test.false, c.count-number-end.ensures.count, c.sites-sites.ensures.sites))) in
    omega (
      arith,
      sold_within c.args.rights.now.cells c.args.event position,
      c.totals-totals.ensures.released,
      c.totals-totals.ensures.sold,
      c.totals-totals.ensures.refunded,
    )

pub returns-clause-open : goal.returns-clause-open
returns-clause-open c =
    let position : IsPosition c.args.rights.now.cells c.args.event = position_below c.args.rights.now.sites c.args.rights.now.cells c.args.event
    c.sites-sites.ensures.within (λ i l.
    c.loop-number.invariant i (omega (arith, l, c.loop-number-test.false, c.count-number-end.ensures.count, c.sites-sites.ensures.sites))) in
    (λ k. Some (c.totals-totals.ensures.released k + c.totals-totals.ensures.refunded k - c.totals-totals.ensures.sold k))
    ∙ sym (open_at c.args.rights.now.cells c.args.event position)

pub returns-clause-seats : goal.returns-clause-seats
returns-clause-seats c =
    let position : IsPosition c.args.rights.now.cells c.args.event = position_below c.args.rights.now.sites c.args.rights.now.cells c.args.event
    c.sites-sites.ensures.within (λ i l.
    c.loop-number.invariant i (omega (arith, l, c.loop-number-test.false, c.count-number-end.ensures.count, c.sites-sites.ensures.sites))) in
    record {
      position = ((λ _. position), (λ _. refl));
      value = (λ k. pos (c.totals-totals.ensures.released k + c.totals-totals.ensures.refunded k - c.totals-totals.ensures.sold k))
          ∙ open_value c.args.rights.now.cells c.args.event position;
    }
