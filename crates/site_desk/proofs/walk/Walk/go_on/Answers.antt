use Rattle.std.proofs.Common.{◌≡◌, ℕ, List, ap, ◌∙◌, ◌||◌, sym, arith, subst₂, take}
use Rattle.rights_lattice.specs.State.{State, knows}
use Rattle.rights_lattice.specs.Cells.{marks_of}
use Rattle.book_core.specs.History.{state_of}
use Rattle.site_desk.specs.EventCells.{Shows}
use Rattle.site_desk.proofs.Shown.{any_of, knows_more, shows_more, not_none}
use Rattle.site_desk.proofs.walk.Walk.go_on.Goals as goal
use Rattle.site_desk.proofs.walk.Walk.go_on.Goals.{in-Some, in_default}

pub loop-place-preserved : goal.loop-place-preserved
loop-place-preserved c = elim c.match-entry.branch [
  | in-Some w ↦
      let e = w.in-Some.entry.now in
      let h = c.args.book.now.history in
      let event = c.args.self.now.event in
      let named = any_of w.has.result w.names.result.now w.delta-delta.result.now e event w.has.ensures w.names.ensures w.delta-delta.ensures in
      rw w.self-is (record {
        cells =
            shows_more h c.loop-place.place e w.marks.result.now c.loop-place.self.cells _ event (sym w.in-Some.ensures)
            (w.marks.ensures ∙ ap (λ (delta : State). marks_of delta.cells) w.delta-delta.ensures) c.loop-place.invariant.cells w.raise_all.ensures;
        named = (λ i. c.loop-place.invariant.named i || named i) ∙ sym (knows_more h c.loop-place.place e event (sym w.in-Some.ensures));
        event = c.loop-place.invariant.event;
      })
  | in_default w ↦ absurd (not_none c.args.book.now.history c.loop-place.place (omega (arith, c.loop-place-test.true, c.requires.within))
      (sym w.in_default.ensures))
]

pub returns-clause-walked : goal.returns-clause-walked
returns-clause-walked c =
    let h = c.args.book.now.history in
    let so_far = c.loop-place.invariant in
    let all : c.loop-place.place ≡ c.args.at = omega (arith, c.loop-place.auto.place-end, c.loop-place-test.false, c.requires.on) in
    record {
      within = c.requires.within;
      named = so_far.named ∙ (λ i. knows (state_of (take (all i) h)).names (sym so_far.event i));
      cells = subst₂ (λ (n : ℕ) (event : List ℕ). Shows c.loop-place.self.cells (state_of (take n h)).cells event) all (sym so_far.event) so_far.cells;
    }
