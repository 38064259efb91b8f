use Rattle.std.proofs.Common.{ap, arith}
use Rattle.rights_lattice.specs.RightsView.{RightsView}
use Rattle.rights_lattice.proofs.TableLaws.{spots-grown}
use Rattle.rights_lattice.proofs.rights.Rights.grow.Goals as goal

pub invariant_of-self : goal.invariant_of-self
invariant_of-self c =
    let s = c.self.inside in (
      spots-grown s.sites c.args.sites s.values.entries (omega (arith, ap (λ (v : RightsView). v.sites) c.self.view_is, c.requires)) c.self.invariant.0,
      c.self.invariant.1,
    )
