use Rattle.std.proofs.Common.{◌≤◌, arith}
use Rattle.rights_lattice.specs.Sums.{max_sites}
use Rattle.local_rights.proofs.Within.{few_sites, got_by, given_by}
use Rattle.local_rights.proofs.rights.gained_and_spent.Goals as goal

pub returns-clause-gained : goal.returns-clause-gained
returns-clause-gained c =
    let X = c.args.rights.now.cells in
    let sites = c.args.rights.now.sites in
    let few : c.loop-other.other ≤ max_sites = few_sites c.loop-other.other (omega (arith, c.loop-other.auto.other-end, c.count-other-end.ensures.few)) in
    let past : sites ≤ c.loop-other.other = omega (arith, c.loop-other-test.false, c.count-other-end.ensures.count, c.sites-sites.ensures.sites) in
    omega (arith, c.loop-other.invariant.gained_so_far, got_by sites c.loop-other.other X c.args.event c.args.me c.sites-sites.ensures.within past few)

pub returns-clause-spent : goal.returns-clause-spent
returns-clause-spent c =
    let X = c.args.rights.now.cells in
    let sites = c.args.rights.now.sites in
    let few : c.loop-other.other ≤ max_sites = few_sites c.loop-other.other (omega (arith, c.loop-other.auto.other-end, c.count-other-end.ensures.few)) in
    let past : sites ≤ c.loop-other.other = omega (arith, c.loop-other-test.false, c.count-other-end.ensures.count, c.sites-sites.ensures.sites) in
    omega (arith, c.loop-other.invariant.spent_so_far, given_by sites c.loop-other.other X c.args.event c.args.me c.sites-sites.ensures.within past few)
