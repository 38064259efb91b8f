use Rattle.std.proofs.Common.{◌≡◌, ◌++◌, take}
use Rattle.book_core.proofs.book.replaying.push_copies.Given as goal

-- those before are there
abbrev pub invariant-loop-entry : goal.invariant-loop-entry
invariant-loop-entry l = l.copies.items ≡ l.initial.copies.items ++ take l.entry-index l.entries
