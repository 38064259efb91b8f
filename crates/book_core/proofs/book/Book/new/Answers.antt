use Rattle.std.proofs.Common.{◌<◌, subst, sym, ℕ}
use Rattle.book_core.proofs.BookLaws.{opening}
use Rattle.book_core.proofs.book.Book.new.Goals as goal

pub invariant_of-result : goal.invariant_of-result
invariant_of-result c = opening _ _ _ _ _ _ (subst (λ (me : ℕ). me < c.args.sites) (sym c.new-2.ensures.me) c.requires) c.new.ensures.items
    c.new-2.ensures.sites c.new-2.ensures.cells c.new-3.ensures.names c.new-4.ensures.entries
