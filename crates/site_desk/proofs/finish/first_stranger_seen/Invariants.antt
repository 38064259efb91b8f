use Rattle.std.proofs.Common.{All, take}
use Rattle.site_desk.specs.Finish.{WasSeen}
use Rattle.site_desk.specs.Walk.{IsWalked}
use Rattle.site_desk.proofs.finish.first_stranger_seen.Given as goal

-- those before were seen, and the walk is of the history
abbrev pub invariant-loop-at : goal.invariant-loop-at
invariant-loop-at l = record {
  seen : All (WasSeen l.book.office l.book.history) (take l.at l.looks);
  walked : IsWalked l.book.history l.walk;
}
