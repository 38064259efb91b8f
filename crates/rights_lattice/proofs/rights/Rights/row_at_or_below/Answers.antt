use Rattle.std.proofs.Common.{◌≡◌, ◌≤◌, Bool, not, true, false, ◌∙◌, sym, ap, subst, refl, arith, eq-eqb, eqb-true}
use Rattle.std.specs.Prelude.{◌==◌}
use Rattle.rights_lattice.specs.Cell.{owner_of}
use Rattle.rights_lattice.specs.Cells.{value_at, RowAtOrBelow}
use Rattle.rights_lattice.specs.RightsView.{RightsView}
use Rattle.rights_lattice.specs.Spots.{marks_in}
use Rattle.rights_lattice.proofs.RightsLaws.{value_at-marks}
use Rattle.rights_lattice.proofs.TableLaws.{all_below, below_all}
use Rattle.rights_lattice.proofs.rights.Rights.row_at_or_below.Goals as goal

both : (b : Bool) → not b ≡ false → b ≡ true
both true h = refl
both false h = cc

pub returns : goal.returns
returns c =
    let es = c.self.inside.values.entries in
    let Y = c.args.other.now.cells in
    let site = c.args.site in (
      λ h e d own. subst (λ (v : RightsView). value_at v.cells e d ≤ value_at Y e d) c.self.view_is
          (omega (
            arith,
            value_at-marks (marks_in es) e d,
            all_below (λ x. not (owner_of x == site)) Y es e d (sym c.are_at_most_in_row.ensures ∙ h)
                (ap not (eq-eqb _ _ own)),
          )),
      λ h. c.are_at_most_in_row.ensures ∙ below_all (λ x. not (owner_of x == site)) Y es (λ e d own.
          let le = subst (λ (v : RightsView). RowAtOrBelow site v.cells Y) (sym c.self.view_is) h e d (eqb-true _ _ (both (owner_of d == site) own)) in
          omega (arith, le, value_at-marks (marks_in es) e d)),
    )
