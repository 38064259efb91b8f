use Rattle.std.proofs.Common.{◌≡◌, ◌≤◌, ◌+◌, take, ℕ, arith, rules, subst, sym, ap, ◌∙◌}
use Rattle.std.specs.Prelude.{◌==◌}
use Rattle.rights_lattice.specs.Cells.{Cells, value_at, raise, raise_all}
use Rattle.local_rights.specs.Rights.{HasRights}
use Rattle.rights_lattice.specs.RightsView.{IsCellOf}
use Rattle.rights_lattice.proofs.RightsLaws.{member_value, raise_all-take_more}
use Rattle.book_core.proofs.BookLaws.{room_left}
use Rattle.book_core.proofs.book.raise_marks.Goals as goal

pub raise-requires-clause-in_range : goal.raise-requires-clause-in_range
raise-requires-clause-in_range c =
    let m = c.mark-item.result in
    let positive : 1 ≤ m.value = search rules in
    subst (λ (n : ℕ). IsCellOf n m.cell) (sym c.loop-mark.invariant.same_sites)
    (c.requires.in_range m.event m.cell (omega (arith, positive, member_value c.args.marks.now c.loop-mark.mark-index m c.loop-mark-test.true c.mark-item.is)))

pub raise-requires-clause-not_negative : goal.raise-requires-clause-not_negative
raise-requires-clause-not_negative c =
    let m = c.mark-item.result in
    let i = c.loop-mark.mark-index in
    let after : raise_all c.args.rights.now.cells (take (i + 1) c.args.marks.now) ≡ raise c.loop-mark.rights.cells m =
    raise_all-take_more c.args.rights.now.cells c.args.marks.now i m c.loop-mark-test.true c.mark-item.is
    ∙ ap (λ X. raise X m) (sym c.loop-mark.invariant.raised) in
    subst (λ (me : ℕ). HasRights (raise c.loop-mark.rights.cells m) m.event me) (sym c.loop-mark.invariant.same_me)
    (subst (λ (X : Cells). HasRights X m.event c.args.rights.now.me) after (c.requires.not_negative (i + 1) m.event))

pub loop-mark-preserved : goal.loop-mark-preserved
loop-mark-preserved c =
    let m = c.mark-item.result in
    record {
      raised = c.raise.ensures.cells ∙ ap (λ X. raise X m) c.loop-mark.invariant.raised
          ∙ sym (raise_all-take_more c.args.rights.now.cells c.args.marks.now c.loop-mark.mark-index m c.loop-mark-test.true c.mark-item.is);
      same_sites = c.raise.ensures.sites ∙ c.loop-mark.invariant.same_sites;
      same_me = c.raise.ensures.me ∙ c.loop-mark.invariant.same_me;
      no_more_room = omega (arith, c.raise.ensures.no_more_room, c.loop-mark.invariant.no_more_room);
      spent = room_left (value_at c.loop-mark.rights.cells m.event m.cell == 0) _ _ _ _ c.raise.ensures.room c.loop-mark.invariant.spent;
      enough = room_left (value_at c.loop-mark.rights.cells m.event m.cell == 0) _ _ _ _ c.raise.ensures.room c.loop-mark.invariant.enough;
    }
