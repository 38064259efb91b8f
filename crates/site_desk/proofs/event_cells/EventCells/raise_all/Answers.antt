use Rattle.std.proofs.Common.{◌≡◌, ◌≢◌, sym, ◌∙◌, ap, arith}
use Rattle.rights_lattice.specs.Cells.{Valued}
use Rattle.rights_lattice.proofs.RightsLaws.{greatest-take_more}
use Rattle.rights_lattice.proofs.SpotLaws.{same_event_is}
use Rattle.site_desk.proofs.EventTables.{said, elsewhere, other_name}
use Rattle.site_desk.proofs.event_cells.EventCells.raise_all.Goals as goal
use Rattle.site_desk.proofs.event_cells.EventCells.raise_all.Goals.{then-eq, else-eq}

pub loop-mark-preserved : goal.loop-mark-preserved
loop-mark-preserved c = λ cell of.
    let m : Valued = c.mark-item.result in
    let event = c.args.event.now in
    let name : c.mark.inside.event ≡ m.event = ap (λ (v : Valued). v.event) c.mark.view_is in
    let more = greatest-take_more c.args.marks.now c.loop-mark.mark-index m event cell c.loop-mark-test.true c.mark-item.is in
    elim c.if-eq.branch [
      | then-eq w ↦
          let is : m.event ≡ event = rw (← name) (same_event_is c.mark.inside.event event (sym c.eq.ensures ∙ w.if-eq.true)) in
          rw w.self-is (omega (
            arith,
            w.raise.ensures cell of,
            said m event cell c.mark.inside.cell c.mark.inside.value (ap (λ (v : Valued). v.cell) c.mark.view_is)
                (ap (λ (v : Valued). v.value) c.mark.view_is) is,
            c.loop-mark.invariant cell of,
            more,
          ))
      | else-eq w ↦
          let apart : m.event ≢ event = rw (← name) (other_name event c.mark.inside.event c.eq.result c.eq.ensures w.if-eq.false) in
          rw w.self-is (omega (arith, elsewhere m event cell apart, c.loop-mark.invariant cell of, more))
    ]
