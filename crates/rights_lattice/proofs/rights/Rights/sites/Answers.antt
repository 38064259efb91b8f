use Rattle.std.proofs.Common.{subst}
use Rattle.rights_lattice.specs.RightsView.{RightsView, IsWithin}
use Rattle.rights_lattice.proofs.TableLaws.{table_within}
use Rattle.rights_lattice.proofs.rights.Rights.sites.Goals as goal

pub returns-clause-within : goal.returns-clause-within
returns-clause-within c =
    let s = c.self.inside in
    subst (λ (r : RightsView). IsWithin r.sites r.cells) c.self.view_is (table_within s.sites s.values.entries c.self.invariant.0)
