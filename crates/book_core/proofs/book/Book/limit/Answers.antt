use Rattle.book_core.proofs.Histories.{legal_length}
use Rattle.book_core.proofs.book.Book.limit.Goals as goal

pub returns-clause-is_kept : goal.returns-clause-is_kept
returns-clause-is_kept c = rw (← c.self.view_is) (legal_length _ c.self.inside.history.items c.self.invariant.legal)
