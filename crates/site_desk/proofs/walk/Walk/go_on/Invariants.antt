use Rattle.std.proofs.Common.{◌≡◌, take}
use Rattle.rights_lattice.specs.State.{knows}
use Rattle.book_core.specs.History.{state_of}
use Rattle.site_desk.specs.EventCells.{Shows}
use Rattle.site_desk.proofs.walk.Walk.go_on.Given as goal

-- the cells are those of the entries so far, and whether these name the event is noted
abbrev pub invariant-loop-place : goal.invariant-loop-place
invariant-loop-place l = record {
  cells : Shows l.self.cells (state_of (take l.place l.book.history)).cells l.event;
  named : l.self.is_named ≡ knows (state_of (take l.place l.book.history)).names l.event;
  event : l.self.event ≡ l.event;
}
