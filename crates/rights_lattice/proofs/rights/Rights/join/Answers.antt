use Rattle.std.proofs.Common.{◌≡◌, ℕ, List, [], max, arith, sym, ap, ◌∙◌, refl, subst}
use Rattle.std.specs.List.{All}
use Rattle.rights_lattice.specs.Cells.{Key, value_at, greatest}
use Rattle.rights_lattice.specs.declared.cell.Cell.{Cell}
use Rattle.rights_lattice.specs.RightsView.{RightsView}
use Rattle.rights_lattice.specs.Spots.{marks_in, IsValued}
use Rattle.rights_lattice.proofs.CellLaws.{same_cells, value_at-join}
use Rattle.rights_lattice.proofs.RightsLaws.{value_at-marks}
use Rattle.rights_lattice.proofs.TestLaws.{one_if_zero}
use Rattle.rights_lattice.proofs.TableLaws.{first_of, valued-grown}
use Rattle.rights_lattice.proofs.rights.Rights.join.Goals as goal

pub loop-event-init : goal.loop-event-init
loop-event-init c =
    let o = c.other.inside in
    let es = c.into_iter-event-iterator.result in
    let same : es ≡ o.values.entries = c.into_iter-event-iterator.ensures.into_iter_gives ∙ c.iter-event-items.ensures.rest in
    let shown : (e : List ℕ) (d : Cell) → greatest (marks_in es) e d ≡ value_at c.args.other.now.cells e d =
    λ e d. ap (λ (l : List (Key × ℕ)). greatest (marks_in l) e d) same ∙ sym (value_at-marks (marks_in o.values.entries) e d)
    ∙ ap (λ (v : RightsView). value_at v.cells e d) c.other.view_is in
    record {
      valued = subst (All (IsValued c.args.self.now.sites)) (sym same)
          (valued-grown o.sites c.args.self.now.sites o.values.entries (omega (arith, ap (λ (v : RightsView). v.sites) c.other.view_is, c.requires.sites))
          c.other.invariant.0.valued);
      below = λ e d. omega (arith, shown e d);
      so_far = λ e d. omega (arith, shown e d);
      same_sites = refl;
      has_room = c.requires.room;
      room_left = omega arith;
      no_more_room = omega arith;
    }

pub raise-requires-clause-room : goal.raise-requires-clause-room
raise-requires-clause-room c = λ none.
    let first = first_of c.args.self.now.sites c.loop-event.self.cells c.args.other.now.cells (c.in-Some.field-0-0.now, c.in-Some.value.now)
    c.loop-event.event-iterator c.next.new.self c.in-Some.ensures.steps c.loop-event.invariant.valued c.loop-event.invariant.below in
    omega (arith, first.room, one_if_zero _ none, c.loop-event.invariant.has_room)

pub loop-event-preserved : goal.loop-event-preserved
loop-event-preserved c =
    let first = first_of c.args.self.now.sites c.loop-event.self.cells c.args.other.now.cells (c.in-Some.field-0-0.now, c.in-Some.value.now)
    c.loop-event.event-iterator c.next.new.self c.in-Some.ensures.steps c.loop-event.invariant.valued c.loop-event.invariant.below in
    record {
      valued = first.valued;
      below = first.below;
      so_far = λ e d. rw c.raise.ensures.cells
          (first.rises e d ∙ sym (ap (λ (l : List (Key × ℕ)). max (value_at c.loop-event.self.cells e d) (greatest (marks_in l) e d))
          c.in-Some.ensures.steps) ∙ c.loop-event.invariant.so_far e d);
      same_sites = c.raise.ensures.sites ∙ c.loop-event.invariant.same_sites;
      has_room = rw c.raise.ensures.cells (omega (arith, first.room, c.raise.ensures.room, c.loop-event.invariant.has_room));
      room_left = rw c.raise.ensures.cells (omega (arith, first.room, c.raise.ensures.room, c.loop-event.invariant.room_left));
      no_more_room = omega (arith, c.raise.ensures.no_more_room, c.loop-event.invariant.no_more_room);
    }

pub returns-clause-cells : goal.returns-clause-cells
returns-clause-cells c =
    let last : c.loop-event.event-iterator ≡ [] = c.in-None.ensures.steps.0 in
    same_cells _ _ (λ e d. omega (
      arith,
      c.loop-event.invariant.so_far e d,
      ap (λ (l : List (Key × ℕ)). greatest (marks_in l) e d) last,
      value_at-join c.args.self.now.cells c.args.other.now.cells e d,
    ))
