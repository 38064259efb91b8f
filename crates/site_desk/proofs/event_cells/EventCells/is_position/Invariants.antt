use Rattle.std.proofs.Common.{◌≡◌, ℕ, List, true}
use Rattle.std.specs.Prelude.{nat_le}
use Rattle.rights_lattice.specs.Cells.{Cells}
use Rattle.local_rights.specs.OpenSeats.{all_below}
use Rattle.local_rights.specs.Rights.{gained, spent}
use Rattle.site_desk.specs.EventCells.{Shows}
use Rattle.site_desk.proofs.event_cells.EventCells.is_position.Given as goal

abbrev pub invariant-loop-number : goal.invariant-loop-number
invariant-loop-number l = (X : Cells) (event : List ℕ) → Shows l.self X event → all_below l.number (λ i. nat_le (spent X event i) (gained X event i)) ≡ true
