use Rattle.std.proofs.Common.{◌≡◌, ◌∙◌, [], ◌∷◌, ◌++◌, sym, ap, subst, arith}
use Rattle.indexmap.specs.IndexMap.{spare, insert_entry}
use Rattle.indexmap.proofs.CallerLemmas.{insert_entry-new}
use Rattle.rights_lattice.specs.Cells.{Valued, raise}
use Rattle.rights_lattice.specs.RightsView.{RightsView, IsCellOf}
use Rattle.rights_lattice.proofs.TestLaws.{one_if_zero}
use Rattle.rights_lattice.proofs.TableLaws.{key_eq, room_for, written, added}
use Rattle.rights_lattice.proofs.rights.Rights.raise.Goals as goal

pub invariant_of-self : goal.invariant_of-self
invariant_of-self c =
    let s = c.self.inside in
    let new = c.get_mut.follows.lender c.max.result in
    let holds = c.get_mut.follows.holds c.max.result in
    let m : Valued = record { event = c.mark.inside.event; cell = c.mark.inside.cell; value = c.mark.inside.value } in
    let raised = written s.sites s.values.entries new.entries m c.in-Some.value.now c.max.result c.self.invariant.0 c.mark.invariant.0 c.mark.invariant.1
    (sym c.in-Some.ensures.value) c.max.ensures holds.0 holds.1 in
    (raised.kept, omega (arith, c.self.invariant.1, holds.6))

pub returns-in-Some-clause-cells : goal.returns-in-Some-clause-cells
returns-in-Some-clause-cells c =
    let s = c.self.inside in
    let new = c.get_mut.follows.lender c.max.result in
    let holds = c.get_mut.follows.holds c.max.result in
    let m : Valued = record { event = c.mark.inside.event; cell = c.mark.inside.cell; value = c.mark.inside.value } in
    let raised = written s.sites s.values.entries new.entries m c.in-Some.value.now c.max.result c.self.invariant.0 c.mark.invariant.0 c.mark.invariant.1
    (sym c.in-Some.ensures.value) c.max.ensures holds.0 holds.1 in
    raised.raised ∙ (λ i. raise (c.self.view_is i).cells (c.mark.view_is i))

pub unreachable-requires : goal.unreachable-requires
unreachable-requires c =
    let s = c.self.inside in
    let room = room_for s.sites s.room s.values.entries (record { event = c.mark.inside.event; cell = c.mark.inside.cell; value = c.mark.inside.value })
    c.args.mark c.args.self.now c.self.invariant.0 (sym c.in-None.ensures.value) c.self.view_is c.mark.view_is c.requires.room in
    let same : spare c.get_mut.follows.lender-at-none ≡ spare s.values = ap (λ m. spare m) c.get_mut.follows.holds-at-none in
    let done = c.in-Err.ensures.succeeds (omega (arith, same, room.1, c.self.invariant.1)) in cc

pub overflow_sub-self : goal.overflow_sub-self
overflow_sub-self c =
    let s = c.self.inside in
    (room_for s.sites s.room s.values.entries (record { event = c.mark.inside.event; cell = c.mark.inside.cell; value = c.mark.inside.value }) c.args.mark
    c.args.self.now c.self.invariant.0 (sym c.in-None.ensures.value) c.self.view_is c.mark.view_is c.requires.room).1

pub invariant_of-self-in-None : goal.invariant_of-self-in-None
invariant_of-self-in-None c =
    let s = c.self.inside in
    let m : Valued = record { event = c.mark.inside.event; cell = c.mark.inside.cell; value = c.mark.inside.value } in
    let of : IsCellOf s.sites m.cell = subst (λ (x : Valued). IsCellOf s.sites x.cell) (sym c.mark.view_is)
    (subst (λ (v : RightsView). IsCellOf v.sites c.args.mark.cell) (sym c.self.view_is) c.requires.in_range) in
    let same = c.get_mut.follows.holds-at-none in
    let room : spare c.get_mut.follows.lender-at-none ≡ spare s.values = ap (λ m. spare m) same in
    let entries : c.insert.new.self.entries ≡ s.values.entries ++ ((m.event, m.cell), m.value) ∷ [] =
    c.in-Ok.ensures.entries ∙ ap (λ m. insert_entry key_eq m.entries (c.mark.inside.event, c.mark.inside.cell) c.mark.inside.value) same
    ∙ insert_entry-new key_eq s.values (m.event, m.cell) m.value (sym c.in-None.ensures.value) in
    let more = added s.sites s.values.entries c.insert.new.self.entries m c.self.invariant.0 c.mark.invariant.0 c.mark.invariant.1 of entries
    c.in-Ok.ensures.unique in
    (more.kept, omega (arith, room, c.self.invariant.1, c.in-Ok.ensures.spare))

pub returns-in-Ok-clause-cells : goal.returns-in-Ok-clause-cells
returns-in-Ok-clause-cells c =
    let s = c.self.inside in
    let m : Valued = record { event = c.mark.inside.event; cell = c.mark.inside.cell; value = c.mark.inside.value } in
    let of : IsCellOf s.sites m.cell = subst (λ (x : Valued). IsCellOf s.sites x.cell) (sym c.mark.view_is)
    (subst (λ (v : RightsView). IsCellOf v.sites c.args.mark.cell) (sym c.self.view_is) c.requires.in_range) in
    let same = c.get_mut.follows.holds-at-none in
    let entries : c.insert.new.self.entries ≡ s.values.entries ++ ((m.event, m.cell), m.value) ∷ [] =
    c.in-Ok.ensures.entries ∙ ap (λ m. insert_entry key_eq m.entries (c.mark.inside.event, c.mark.inside.cell) c.mark.inside.value) same
    ∙ insert_entry-new key_eq s.values (m.event, m.cell) m.value (sym c.in-None.ensures.value) in
    let more = added s.sites s.values.entries c.insert.new.self.entries m c.self.invariant.0 c.mark.invariant.0 c.mark.invariant.1 of entries
    c.in-Ok.ensures.unique in
    more.raised ∙ (λ i. raise (c.self.view_is i).cells (c.mark.view_is i))

pub returns-in-Ok-clause-room : goal.returns-in-Ok-clause-room
returns-in-Ok-clause-room c =
    let s = c.self.inside in
    let room = room_for s.sites s.room s.values.entries (record { event = c.mark.inside.event; cell = c.mark.inside.cell; value = c.mark.inside.value })
    c.args.mark c.args.self.now c.self.invariant.0 (sym c.in-None.ensures.value) c.self.view_is c.mark.view_is c.requires.room in
    let before : s.room ≡ c.args.self.now.room = ap (λ v. v.room) c.self.view_is in
    omega (arith, one_if_zero _ room.0, before, room.1)
