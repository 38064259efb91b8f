use Rattle.std.proofs.Common.{◌≡◌, ◌∙◌, ap, subst}
use Rattle.rights_lattice.specs.Cells.{Cells}
use Rattle.local_rights.specs.OpenSeats.{AreOpenSeats}
use Rattle.book_core.specs.BookView.{BookView}
use Rattle.book_core.specs.History.{state_of}
use Rattle.book_core.proofs.book.Book.totals.Goals as goal

pub returns-clause-open : goal.returns-clause-open
returns-clause-open c =
    let same : c.rights-view.result.now.cells ≡ (state_of c.args.self.now.history).cells = c.rights-view.ensures.cells ∙ c.self.invariant.cells_are
    ∙ ap (λ (b : BookView). (state_of b.history).cells) c.self.view_is in
    subst (λ (X : Cells). AreOpenSeats X c.args.event c.open_seats.result) same c.open_seats.ensures.seats
