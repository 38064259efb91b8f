use Rattle.std.proofs.Common.{rules, [], ◌∷◌}
use Rattle.book_core.proofs.Deltas.{has_lists_of, lists_of_name, lists_of_mark}
use Rattle.book_core.proofs.book.replaying.is_of_one.Goals as goal

pub returns-in-Name : goal.returns-in-Name
returns-in-Name c = rw c.in-Name.is (has_lists_of _ _ (c.in-Name.event ∷ []) [] _ c.has_lists.ensures (lists_of_name c.in-Name.event))

pub returns-in-Cell : goal.returns-in-Cell
returns-in-Cell c =
    rw c.in-Cell.is (has_lists_of _ _ [] (c.in-Cell.mark ∷ []) _ c.has_lists-in-Cell.ensures (lists_of_mark c.in-Cell.mark (search rules)))
