use Rattle.std.proofs.Common.{ap, ◌≤◌, arith, rules}
use Rattle.rights_lattice.specs.Limits.{most_sites}
use Rattle.local_rights.specs.Counted.{CountedView}
use Rattle.local_rights.proofs.KeptLaws.{kept_grown}
use Rattle.local_rights.proofs.counted.Counted.grow.Goals as goal

pub invariant_of-self : goal.invariant_of-self
invariant_of-self c =
    let s = c.self.inside in
    let r = c.grow.new.self in
    let more : s.rights.sites ≤ r.sites = omega (arith, ap (λ (v : CountedView). v.sites) c.self.view_is, c.requires, c.grow.ensures.sites) in
    let few : r.sites ≤ most_sites = search rules in (
      kept_grown s.left.entries s.rights.sites r.sites s.me s.rights.cells r.cells c.self.invariant.0 more few c.grow.ensures.cells,
      omega (arith, c.self.invariant.1, c.grow.ensures.room),
      c.self.invariant.2,
    )
