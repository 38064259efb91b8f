use Rattle.std.proofs.Common.{◌≡◌, ℕ, ap, ◌∙◌, subst, subst₂}
use Rattle.std.specs.Prelude.{IsTrue, ◌↔◌}
use Rattle.rights_lattice.specs.Cells.{Cells, RowAtOrBelow}
use Rattle.book_core.specs.History.{state_of}
use Rattle.book_core.specs.BookView.{BookView}
use Rattle.book_core.proofs.book.Book.sees_within.Goals as goal

pub returns : goal.returns
returns c =
    let mine : c.rights.result.now.cells ≡ (state_of c.args.self.now.history).cells = c.rights.ensures.cells ∙ c.self.invariant.cells_are
    ∙ ap (λ (b : BookView). (state_of b.history).cells) c.self.view_is in
    let theirs : c.rights-2.result.now.cells ≡ (state_of c.args.owner.now.history).cells = c.rights-2.ensures.cells ∙ c.owner.invariant.cells_are
    ∙ ap (λ (b : BookView). (state_of b.history).cells) c.owner.view_is in
    subst₂ (λ (viewer owner : Cells). IsTrue c.row_at_or_below.result ↔ RowAtOrBelow c.args.owner.now.office.me viewer owner) mine theirs
    (subst (λ (me : ℕ). IsTrue c.row_at_or_below.result ↔ RowAtOrBelow me c.rights.result.now.cells c.rights-2.result.now.cells) c.me.ensures.me
    c.row_at_or_below.ensures)
