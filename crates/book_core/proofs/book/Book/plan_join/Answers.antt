use Rattle.std.proofs.Common.{rules, ◌≡◌, ◌≤◌, sym, refl, subst}
use Rattle.book_core.specs.declared.entry.Entry.TheVariants.{Joined}
use Rattle.book_core.specs.Legal.{IsNext}
use Rattle.rights_lattice.specs.Cell.{owner_of}
use Rattle.rights_lattice.specs.Cells.{value_at}
use Rattle.book_core.specs.BookView.{BookView}
use Rattle.book_core.specs.Joining.{join_decision, Joins}
use Rattle.book_core.specs.OwnRow.{cell_in}
use Rattle.book_core.proofs.Next.{join_next}
use Rattle.book_core.proofs.OwnRows.{opened_rights, same_rights}
use Rattle.book_core.proofs.book.Book.plan_join.Goals as goal

pub returns-clause-own_row : goal.returns-clause-own_row
returns-clause-own_row c event cell =
    let book = c.args.self.now in
    let joins : join_decision book.office book.history c.args.peer c.args.delta ≡ Joins = search rules in
    subst (λ (b : BookView). owner_of cell ≡ b.office.me → value_at c.args.delta.cells event cell ≤ cell_in b event cell) (sym c.reserve.ensures.unchanged)
    ((join_next book.office book.history c.args.peer c.args.delta joins).own_row event cell)

pub returns-clause-plan : goal.returns-clause-plan
returns-clause-plan c =
    let book = c.args.self.now in
    let joins : join_decision book.office book.history c.args.peer c.args.delta ≡ Joins = search rules in (
      subst (λ (b : BookView). join_decision b.office b.history c.args.peer c.args.delta ≡ Joins) (sym c.reserve.ensures.unchanged) joins,
      refl,
      record {
        next = subst (λ (b : BookView). IsNext b.office b.history (Joined c.args.peer c.args.delta)) (sym c.reserve.ensures.unchanged)
            (join_next book.office book.history c.args.peer c.args.delta joins);
        room = search rules;
      },
    )

pub returns-in-NothingNew-clause-has_rights : goal.returns-in-NothingNew-clause-has_rights
returns-in-NothingNew-clause-has_rights c = opened_rights _ _ c.self.view_is c.self.invariant.legal

pub returns-in-Refuses-clause-has_rights : goal.returns-in-Refuses-clause-has_rights
returns-in-Refuses-clause-has_rights c = opened_rights _ _ c.self.view_is c.self.invariant.legal

pub returns-then-is_err-clause-has_rights : goal.returns-then-is_err-clause-has_rights
returns-then-is_err-clause-has_rights c = same_rights _ _ _ c.self.view_is c.reserve.ensures.unchanged c.self.invariant.legal

pub returns-clause-has_rights : goal.returns-clause-has_rights
returns-clause-has_rights c = same_rights _ _ _ c.self.view_is c.reserve.ensures.unchanged c.self.invariant.legal
