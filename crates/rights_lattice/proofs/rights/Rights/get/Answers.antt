use Rattle.std.proofs.Common.{◌∙◌, sym, ap, arith}
use Rattle.std.specs.Option.{unwrap_or}
use Rattle.rights_lattice.specs.Cells.{value_at}
use Rattle.rights_lattice.specs.RightsView.{RightsView}
use Rattle.rights_lattice.proofs.TableLaws.{key_eq, value_at-lookup, found_at_most}
use Rattle.rights_lattice.proofs.rights.Rights.get.Goals as goal

pub returns-clause-value : goal.returns-clause-value
returns-clause-value c =
    let s = c.self.inside in
    c.unwrap_or.ensures ∙ ap (λ o. unwrap_or o 0) (c.copied.ensures ∙ c.get.ensures.value)
    ∙ sym (value_at-lookup s.sites s.values.entries c.args.event c.args.cell c.self.invariant.0)
    ∙ ap (λ (v : RightsView). value_at v.cells c.args.event c.args.cell) c.self.view_is

pub returns-clause-at_most_max : goal.returns-clause-at_most_max
returns-clause-at_most_max c =
    let s = c.self.inside in
    let most = found_at_most s.sites s.values.entries (key_eq (c.args.event, c.args.cell)) c.self.invariant.0 in
    let got = c.unwrap_or.ensures ∙ ap (λ o. unwrap_or o 0) (c.copied.ensures ∙ c.get.ensures.value) in
    omega (arith, got, most)
