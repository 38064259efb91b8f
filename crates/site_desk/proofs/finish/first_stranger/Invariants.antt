use Rattle.std.proofs.Common.{All, take}
use Rattle.site_desk.specs.Finish.{StandsIn}
use Rattle.site_desk.proofs.finish.first_stranger.Given as goal

-- those before stand in the history
abbrev pub invariant-loop-at : goal.invariant-loop-at
invariant-loop-at l = All (StandsIn l.book.history) (take l.at l.receipts)
