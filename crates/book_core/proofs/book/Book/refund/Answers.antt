use Rattle.std.proofs.Common.{◌≡◌, ◌≤◌, ℕ, Some, sym, ap, ◌∙◌, subst, arith, refl}
use Rattle.rights_lattice.specs.declared.cell.Cell.TheVariants.{Used, Back}
use Rattle.rights_lattice.specs.Cells.{Cells, value_at, greatest_value}
use Rattle.book_core.specs.Decision.{SiteConfig}
use Rattle.book_core.specs.BookView.{BookView}
use Rattle.book_core.specs.History.{sale_of}
use Rattle.book_core.proofs.BookLaws.{refund_room}
use Rattle.book_core.proofs.book.Book.refund.Goals as goal

pub unreachable-requires : goal.unreachable-requires
unreachable-requires c =
    let fields = c.self.inside in
    let office : SiteConfig = record { me = fields.rights.me; sites = fields.first; limit = fields.limit } in
    let found : sale_of fields.history.items c.args.number ≡ Some c.in-Some.sale =
    subst (λ (b : BookView). sale_of b.history c.args.number ≡ Some c.in-Some.sale) (sym c.self.view_is) (sym c.sale.ensures ∙ c.in-Some.is) in
    let same : c.me-me.result ≡ fields.rights.me = c.me-me.ensures.me ∙ sym (ap (λ (b : BookView). b.office.me) c.self.view_is) in
    let sold = c.get-sold.ensures.value ∙ ap (λ (by : ℕ). value_at fields.rights.cells c.in-Some.sale.event (Used by)) same in
    let most : value_at fields.rights.cells c.in-Some.sale.event (Used fields.rights.me) ≤ greatest_value = omega
    (arith, sold, c.get-sold.ensures.at_most_max) in
    let back : value_at c.rights.result.now.cells c.in-Some.sale.event (Back c.me-me.result) ≡ value_at fields.rights.cells c.in-Some.sale.event
    (Back fields.rights.me) =
    ap (λ (X : Cells). value_at X c.in-Some.sale.event (Back c.me-me.result)) c.rights.ensures.cells
    ∙ ap (λ (by : ℕ). value_at fields.rights.cells c.in-Some.sale.event (Back by)) same in
    let over = c.in-Err.ensures.full.0 refl in
    omega (
      arith,
      over,
      back,
      c.in-Some-of.ensures.same,
      c.saturating_sub.ensures,
      c.seats.ensures.seats,
      refund_room office fields.history.items c.args.number c.in-Some.sale fields.rights.cells c.self.invariant.legal found c.self.invariant.cells_are most,
    )
