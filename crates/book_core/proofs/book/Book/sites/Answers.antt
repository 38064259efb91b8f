use Rattle.std.proofs.Common.{◌≡◌, ℕ, ap, ◌∙◌, arith, subst, sym}
use Rattle.rights_lattice.specs.Cells.{Cells}
use Rattle.rights_lattice.specs.RightsView.{IsWithin}
use Rattle.book_core.specs.BookView.{BookView}
use Rattle.book_core.specs.Decision.{sites_of}
use Rattle.book_core.specs.History.{state_of}
use Rattle.book_core.specs.Legal.{IsLegal}
use Rattle.book_core.proofs.Histories.{legal_sites}
use Rattle.book_core.proofs.book.Book.sites.Goals as goal

pub returns-clause-sites : goal.returns-clause-sites
returns-clause-sites c = c.sites.ensures.sites ∙ c.rights.ensures.sites ∙ c.self.invariant.sites_are
    ∙ ap (λ (b : BookView). sites_of b.office b.history) c.self.view_is

pub returns-clause-no_fewer : goal.returns-clause-no_fewer
returns-clause-no_fewer c =
    let b = c.args.self.now in
    let is : c.sites.result ≡ sites_of b.office b.history = c.sites.ensures.sites ∙ c.rights.ensures.sites ∙ c.self.invariant.sites_are
    ∙ ap (λ (b : BookView). sites_of b.office b.history) c.self.view_is in
    omega (arith, is, legal_sites b.office b.history (subst (λ (b : BookView). IsLegal b.office b.history) c.self.view_is c.self.invariant.legal))

pub returns-clause-within : goal.returns-clause-within
returns-clause-within c =
    let same : c.rights.result.now.cells ≡ (state_of c.args.self.now.history).cells = c.rights.ensures.cells ∙ c.self.invariant.cells_are
    ∙ ap (λ (b : BookView). (state_of b.history).cells) c.self.view_is in
    subst (λ (X : Cells). IsWithin c.sites.result X) same
    (subst (λ (n : ℕ). IsWithin n c.rights.result.now.cells) (sym c.sites.ensures.sites) c.sites.ensures.within)
