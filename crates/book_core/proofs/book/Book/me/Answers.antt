use Rattle.std.proofs.Common.{ap, arith}
use Rattle.book_core.specs.BookView.{BookView}
use Rattle.book_core.proofs.book.Book.me.Goals as goal

pub returns-clause-is_site : goal.returns-clause-is_site
returns-clause-is_site c = omega (arith, c.me.ensures.me, c.self.invariant.me_is_site, ap (λ (b : BookView). b.office.sites) c.self.view_is)
