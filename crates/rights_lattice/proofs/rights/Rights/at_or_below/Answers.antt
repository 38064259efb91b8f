use Rattle.std.proofs.Common.{◌≤◌, false, ◌∙◌, sym, subst, refl, arith}
use Rattle.rights_lattice.specs.Cells.{value_at, AtOrBelow}
use Rattle.rights_lattice.specs.RightsView.{RightsView}
use Rattle.rights_lattice.specs.Spots.{marks_in}
use Rattle.rights_lattice.proofs.RightsLaws.{value_at-marks}
use Rattle.rights_lattice.proofs.TableLaws.{all_below, below_all}
use Rattle.rights_lattice.proofs.rights.Rights.at_or_below.Goals as goal

pub returns : goal.returns
returns c =
    let es = c.self.inside.values.entries in
    let Y = c.args.other.now.cells in (
      λ h e d. subst (λ (v : RightsView). value_at v.cells e d ≤ value_at Y e d) c.self.view_is
          (omega (arith, value_at-marks (marks_in es) e d, all_below (λ _. false) Y es e d (sym c.are_at_most.ensures ∙ h) refl)),
      λ h. c.are_at_most.ensures ∙ below_all (λ _. false) Y es (λ e d own.
          let le = subst (λ (v : RightsView). AtOrBelow v.cells Y) (sym c.self.view_is) h e d in
          omega (arith, le, value_at-marks (marks_in es) e d)),
    )
