use Rattle.std.proofs.Common.{◌≡◌, ◌++◌, length, take}
use Rattle.history_keeper.proofs.list_keeper.push_copies.Given as goal

-- those before are there
abbrev pub invariant-loop-entry : goal.invariant-loop-entry
invariant-loop-entry l = (l.before ≡ length l.initial.entries.items) × (l.entries.items ≡ l.initial.entries.items ++ take l.entry-index l.more)
