use Rattle.std.proofs.Common.{◌≡◌, ◌+◌, ◌*◌, ◌≤◌, ℕ, List}
use Rattle.rights_lattice.specs.declared.cell.Cell.TheVariants.{Gave, Used, Back}
use Rattle.rights_lattice.specs.Cells.{Cells, greatest_value, value_at}
use Rattle.rights_lattice.specs.Sums.{sum_below}
use Rattle.local_rights.specs.Rights.{ceded_in}
use Rattle.site_desk.specs.EventCells.{Shows}
use Rattle.site_desk.proofs.event_cells.EventCells.gained_and_spent.Given as goal

abbrev pub invariant-loop-number : goal.invariant-loop-number
invariant-loop-number l = record {
  gained : (X : Cells) (event : List ℕ) → Shows l.self X event
      → l.gained ≡ value_at X event (Gave l.me l.me) + sum_below l.number (λ j. ceded_in X event j l.me) + value_at X event (Back l.me);
  spent : (X : Cells) (event : List ℕ) → Shows l.self X event → l.spent ≡ sum_below l.number (λ j. ceded_in X event l.me j) + value_at X event (Used l.me);
  gained_fits : l.gained ≤ greatest_value * (l.number + 2);
  spent_fits : l.spent ≤ greatest_value * (l.number + 1);
}
