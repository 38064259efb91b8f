use Rattle.std.proofs.Common.{◌≡◌, ◌≤◌, ◌<◌, sym, refl, rules, arith, subst, false}
use Rattle.std.specs.Prelude.{nat_le, length}
use Rattle.rights_lattice.specs.Limits.{most_sites}
use Rattle.book_core.specs.declared.entry.Entry.TheVariants.{Grown}
use Rattle.book_core.specs.BookView.{BookView}
use Rattle.book_core.specs.Decision.{sites_of}
use Rattle.book_core.specs.Growing.{grow_decision, Grows}
use Rattle.book_core.specs.Legal.{IsNext}
use Rattle.book_core.proofs.Growths.{grow_next, grows}
use Rattle.book_core.proofs.OwnRows.{opened_rights, same_rights}
use Rattle.book_core.proofs.book.Book.plan_grow.Goals as goal

pub returns-clause-plan : goal.returns-clause-plan
returns-clause-plan c =
    let book = c.args.self.now in
    let more : sites_of book.office book.history < c.args.sites = omega
    (arith, c.if-count.false, c.count.ensures.count, c.count-2.ensures.count, c.sites.ensures) in
    let few : c.args.sites ≤ most_sites = omega (arith, c.count.ensures.count, c.count.ensures.few) in
    let room : nat_le book.office.limit (length book.history) ≡ false = search rules in
    let is : grow_decision book.office book.history c.args.sites ≡ Grows = grows book.office book.history c.args.sites more room in
    let same : c.to.result ≡ c.args.sites = c.to.ensures in
    record {
      grows = subst (λ (b : BookView). grow_decision b.office b.history c.args.sites ≡ Grows) (sym c.reserve.ensures.unchanged) is;
      is_growth = rw same refl;
      ready = record {
        next = subst (λ (b : BookView). IsNext b.office b.history (Grown c.to.result)) (sym c.reserve.ensures.unchanged)
            (rw same (grow_next book.office book.history c.args.sites is few));
        room = search rules;
      };
    }

pub returns-then-count-clause-has_rights : goal.returns-then-count-clause-has_rights
returns-then-count-clause-has_rights c = opened_rights _ _ c.self.view_is c.self.invariant.legal

pub returns-then-is_full-clause-has_rights : goal.returns-then-is_full-clause-has_rights
returns-then-is_full-clause-has_rights c = opened_rights _ _ c.self.view_is c.self.invariant.legal

pub returns-then-is_err-clause-has_rights : goal.returns-then-is_err-clause-has_rights
returns-then-is_err-clause-has_rights c = same_rights _ _ _ c.self.view_is c.reserve.ensures.unchanged c.self.invariant.legal

pub returns-clause-has_rights : goal.returns-clause-has_rights
returns-clause-has_rights c = same_rights _ _ _ c.self.view_is c.reserve.ensures.unchanged c.self.invariant.legal
