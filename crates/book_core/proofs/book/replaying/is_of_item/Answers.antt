use Rattle.std.proofs.Common.{[]}
use Rattle.book_core.proofs.Deltas.{has_lists_of, lists_of_nothing}
use Rattle.book_core.proofs.book.replaying.is_of_item.Goals as goal

pub returns-in-None : goal.returns-in-None
returns-in-None c = rw c.in-None.is (has_lists_of _ _ [] [] _ c.has_lists.ensures lists_of_nothing)
