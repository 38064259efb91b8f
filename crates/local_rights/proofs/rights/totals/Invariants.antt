use Rattle.std.proofs.Common.{◌≡◌, ◌*◌, ◌≤◌}
use Rattle.rights_lattice.specs.Cells.{greatest_value, value_at}
use Rattle.rights_lattice.specs.declared.cell.Cell.TheVariants.{Gave, Used, Back}
use Rattle.rights_lattice.specs.Sums.{sum_below}
use Rattle.local_rights.proofs.rights.totals.Given as goal

abbrev pub invariant-loop-number : goal.invariant-loop-number
invariant-loop-number l = record {
  released_so_far : l.released ≡ sum_below l.number (λ i. value_at l.rights.cells l.event (Gave i i));
  sold_so_far : l.sold ≡ sum_below l.number (λ i. value_at l.rights.cells l.event (Used i));
  refunded_so_far : l.refunded ≡ sum_below l.number (λ i. value_at l.rights.cells l.event (Back i));
  released_fits : l.released ≤ greatest_value * l.number;
  sold_fits : l.sold ≤ greatest_value * l.number;
  refunded_fits : l.refunded ≤ greatest_value * l.number;
}
