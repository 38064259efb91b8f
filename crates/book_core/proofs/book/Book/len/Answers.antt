use Rattle.std.proofs.Common.{subst}
use Rattle.book_core.specs.BookView.{BookView}
use Rattle.book_core.specs.Legal.{IsLegal}
use Rattle.book_core.proofs.book.Book.len.Goals as goal

pub returns-clause-legal : goal.returns-clause-legal
returns-clause-legal c = subst (λ (b : BookView). IsLegal b.office b.history) c.self.view_is c.self.invariant.legal
