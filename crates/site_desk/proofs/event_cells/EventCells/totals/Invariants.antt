use Rattle.std.proofs.Common.{◌≡◌, ◌*◌, ◌≤◌, ℕ, List}
use Rattle.rights_lattice.specs.declared.cell.Cell.TheVariants.{Gave, Used, Back}
use Rattle.rights_lattice.specs.Cells.{Cells, greatest_value, value_at}
use Rattle.rights_lattice.specs.Sums.{sum_below}
use Rattle.site_desk.specs.EventCells.{Shows}
use Rattle.site_desk.proofs.event_cells.EventCells.totals.Given as goal

abbrev pub invariant-loop-number : goal.invariant-loop-number
invariant-loop-number l = record {
  released : (X : Cells) (event : List ℕ) → Shows l.self X event → l.released ≡ sum_below l.number (λ i. value_at X event (Gave i i));
  sold : (X : Cells) (event : List ℕ) → Shows l.self X event → l.sold ≡ sum_below l.number (λ i. value_at X event (Used i));
  refunded : (X : Cells) (event : List ℕ) → Shows l.self X event → l.refunded ≡ sum_below l.number (λ i. value_at X event (Back i));
  released_fits : l.released ≤ greatest_value * l.number;
  sold_fits : l.sold ≤ greatest_value * l.number;
  refunded_fits : l.refunded ≤ greatest_value * l.number;
}
