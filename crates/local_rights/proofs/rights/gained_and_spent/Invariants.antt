use Rattle.std.proofs.Common.{◌≡◌, ◌+◌, ◌*◌, ◌≤◌}
use Rattle.rights_lattice.specs.Cells.{greatest_value, value_at}
use Rattle.rights_lattice.specs.declared.cell.Cell.TheVariants.{Gave, Used, Back}
use Rattle.rights_lattice.specs.Sums.{sum_below}
use Rattle.local_rights.specs.Rights.{ceded_in}
use Rattle.local_rights.proofs.rights.gained_and_spent.Given as goal

abbrev pub invariant-loop-other : goal.invariant-loop-other
invariant-loop-other l = record {
  gained_so_far : l.gained ≡ value_at l.rights.cells l.event (Gave l.me l.me) + sum_below l.other (λ j. ceded_in l.rights.cells l.event j l.me) + value_at
      l.rights.cells l.event (Back l.me);
  spent_so_far : l.spent ≡ sum_below l.other (λ j. ceded_in l.rights.cells l.event l.me j) + value_at l.rights.cells l.event (Used l.me);
  gained_fits : l.gained ≤ greatest_value * (l.other + 2);
  spent_fits : l.spent ≤ greatest_value * (l.other + 1);
}
