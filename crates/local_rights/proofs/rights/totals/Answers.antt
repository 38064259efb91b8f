use Rattle.std.proofs.Common.{◌≤◌, ◌∙◌, sym, arith}
use Rattle.rights_lattice.specs.Sums.{max_sites}
use Rattle.local_rights.proofs.Within.{few_sites, released_by, sold_by, refunded_by}
use Rattle.local_rights.proofs.rights.totals.Goals as goal

pub returns-clause-released : goal.returns-clause-released
returns-clause-released c =
    let few : c.loop-number.number ≤ max_sites = few_sites c.loop-number.number
    (omega (arith, c.loop-number.auto.number-end, c.count-number-end.ensures.few)) in
    let past : c.args.rights.now.sites ≤ c.loop-number.number = omega
    (arith, c.loop-number-test.false, c.count-number-end.ensures.count, c.sites-sites.ensures.sites) in
    c.loop-number.invariant.released_so_far ∙ sym (released_by _ c.loop-number.number _ _ c.sites-sites.ensures.within past few)

pub returns-clause-sold : goal.returns-clause-sold
returns-clause-sold c =
    let few : c.loop-number.number ≤ max_sites = few_sites c.loop-number.number
    (omega (arith, c.loop-number.auto.number-end, c.count-number-end.ensures.few)) in
    let past : c.args.rights.now.sites ≤ c.loop-number.number = omega
    (arith, c.loop-number-test.false, c.count-number-end.ensures.count, c.sites-sites.ensures.sites) in
    c.loop-number.invariant.sold_so_far ∙ sym (sold_by _ c.loop-number.number _ _ c.sites-sites.ensures.within past few)

pub returns-clause-refunded : goal.returns-clause-refunded
returns-clause-refunded c =
    let few : c.loop-number.number ≤ max_sites = few_sites c.loop-number.number
    (omega (arith, c.loop-number.auto.number-end, c.count-number-end.ensures.few)) in
    let past : c.args.rights.now.sites ≤ c.loop-number.number = omega
    (arith, c.loop-number-test.false, c.count-number-end.ensures.count, c.sites-sites.ensures.sites) in
    c.loop-number.invariant.refunded_so_far ∙ sym (refunded_by _ c.loop-number.number _ _ c.sites-sites.ensures.within past few)
