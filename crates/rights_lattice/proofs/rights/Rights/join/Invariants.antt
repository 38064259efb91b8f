use Rattle.std.proofs.Common.{◌≡◌, ◌≤◌, ◌+◌, ℕ, List, max}
use Rattle.std.specs.List.{All}
use Rattle.rights_lattice.specs.Cells.{value_at, greatest}
use Rattle.rights_lattice.specs.RightsView.{missing}
use Rattle.rights_lattice.specs.Spots.{marks_in, IsValued}
use Rattle.rights_lattice.specs.declared.cell.Cell.{Cell}
use Rattle.rights_lattice.proofs.rights.Rights.join.Given as goal

abbrev pub invariant-loop-event : goal.invariant-loop-event
invariant-loop-event l = record {
  valued : All (IsValued l.fn.self.sites) l.event-iterator;
  below : (e : List ℕ) (c : Cell) → greatest (marks_in l.event-iterator) e c ≤ value_at l.other.cells e c;
  so_far : (e : List ℕ) (c : Cell)
      → max (value_at l.self.cells e c) (greatest (marks_in l.event-iterator) e c) ≡ max (value_at l.fn.self.cells e c) (value_at l.other.cells e c);
  same_sites : l.self.sites ≡ l.fn.self.sites;
  has_room : missing l.self.cells l.other.cells ≤ l.self.room;
  room_left : l.fn.self.room + missing l.self.cells l.other.cells ≤ l.self.room + missing l.fn.self.cells l.other.cells;
  no_more_room : l.self.room ≤ l.fn.self.room;
}
