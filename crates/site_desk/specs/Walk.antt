-- One event by the first entries of a history. (Our own.)
use Rattle.std.specs.Prelude.{◌≡◌, ◌≤◌, List, length, take}
use Rattle.rights_lattice.specs.State.{knows}
use Rattle.book_core.specs.declared.entry.Entry.{Entry}
use Rattle.book_core.specs.History.{state_of}
use Rattle.site_desk.specs.declared.walk.Walk.{Walk}
use Rattle.site_desk.specs.EventCells.{Shows}

-- the table has the event's cells by the first entries, and it is noted whether they name it
pub record IsWalked (history : List Entry) (walk : Walk) : Type 0 where
  pub within : walk.at ≤ length history
  pub named : walk.is_named ≡ knows (state_of (take walk.at history)).names walk.event
  pub cells : Shows walk.cells (state_of (take walk.at history)).cells walk.event
