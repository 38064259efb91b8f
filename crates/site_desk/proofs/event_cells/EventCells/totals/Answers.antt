use Rattle.std.proofs.Common.{◌≡◌, ◌∙◌, ap, arith}
use Rattle.rights_lattice.specs.declared.cell.Cell.TheVariants.{Gave, Used, Back}
use Rattle.rights_lattice.specs.Cells.{value_at}
use Rattle.rights_lattice.specs.Sums.{max_sites, sum_below}
use Rattle.site_desk.proofs.EventTables.{all_sites}
use Rattle.site_desk.proofs.event_cells.EventCells.totals.Goals as goal

pub returns-clause-released : goal.returns-clause-released
returns-clause-released c = λ X event shows.
    let all : c.loop-number.number ≡ max_sites = all_sites c.loop-number.number (omega (arith, c.loop-number.auto.number-end, c.loop-number-test.false)) in
    c.loop-number.invariant.released X event shows ∙ ap (λ n. sum_below n (λ i. value_at X event (Gave i i))) all

pub returns-clause-sold : goal.returns-clause-sold
returns-clause-sold c = λ X event shows.
    let all : c.loop-number.number ≡ max_sites = all_sites c.loop-number.number (omega (arith, c.loop-number.auto.number-end, c.loop-number-test.false)) in
    c.loop-number.invariant.sold X event shows ∙ ap (λ n. sum_below n (λ i. value_at X event (Used i))) all

pub returns-clause-refunded : goal.returns-clause-refunded
returns-clause-refunded c = λ X event shows.
    let all : c.loop-number.number ≡ max_sites = all_sites c.loop-number.number (omega (arith, c.loop-number.auto.number-end, c.loop-number-test.false)) in
    c.loop-number.invariant.refunded X event shows ∙ ap (λ n. sum_below n (λ i. value_at X event (Back i))) all
