use Rattle.std.proofs.Common.{◌≡◌, ℕ, ◌-◌, ◌≤◌, sym, ap, ◌∙◌, subst, arith, rules}
use Rattle.std.specs.Prelude.{◌==◌, IsSome}
use Rattle.std.specs.Map.{lookup}
use Rattle.rights_lattice.specs.Cell.{same_event}
use Rattle.rights_lattice.specs.Cells.{Cells, Valued, greatest_value, value_at, raise}
use Rattle.rights_lattice.specs.RightsView.{IsCellOf}
use Rattle.rights_lattice.specs.Sums.{max_sites}
use Rattle.local_rights.specs.declared.effect.Effect.TheVariants.{Takes, Leaves}
use Rattle.local_rights.specs.Rights.{HasRights}
use Rattle.local_rights.specs.Counted.{CountedView, left_in}
use Rattle.local_rights.specs.Effects.{effect_of}
use Rattle.local_rights.proofs.KeptLaws.{kept_after, kept_alone, kept_fits, kept_takes, room_taken, room_kept}
use Rattle.local_rights.proofs.counted.Counted.raise.Goals as goal

-- the numbers at hand are those of the mark
risen : (X : Cells) (m n : Valued) (old more : ℕ) → n ≡ m → old ≡ value_at X n.event n.cell → more ≡ n.value - old → more ≡ m.value - value_at X m.event m.cell
risen X m n old more is was rose =
    rose ∙ ap (λ v. n.value - v) was ∙ ap (λ (x : Valued). x.value - value_at X x.event x.cell) is

pub keep-requires-clause-fits : goal.keep-requires-clause-fits
unfolding max_sites
keep-requires-clause-fits c =
    let s = c.self.inside in
    omega (
      arith,
      kept_fits s.left.entries s.rights.sites s.me s.rights.cells c.mark-2.inside.event c.self.invariant.0,
      c.saturating_sub-more.ensures,
      c.mark.invariant,
    )

pub keep-requires-clause-takes : goal.keep-requires-clause-takes
keep-requires-clause-takes c = λ is.
    let s = c.self.inside in
    let m = c.args.mark in
    let of : IsCellOf s.rights.sites m.cell = subst (λ (v : CountedView). IsCellOf v.sites m.cell) (sym c.self.view_is) c.requires.in_range in
    let asked : HasRights (raise s.rights.cells m) m.event s.me = subst (λ (v : CountedView). HasRights (raise v.cells m) m.event v.me)
    (sym c.self.view_is) c.requires.not_negative in
    let effect : effect_of m.cell s.me ≡ Takes = sym (c.of-effect.ensures ∙ ap (λ (x : Valued). effect_of x.cell s.me) c.mark-2.view_is) ∙ is in
    let more : c.saturating_sub-more.result ≡ m.value - value_at s.rights.cells m.event m.cell =
    risen s.rights.cells m (record { event = c.mark.inside.event; cell = c.mark.inside.cell; value = c.mark.inside.value }) c.get-old.result
    c.saturating_sub-more.result c.mark.view_is c.get-old.ensures.value c.saturating_sub-more.ensures in
    let event : c.mark-2.inside.event ≡ m.event = ap (λ (x : Valued). x.event) c.mark-2.view_is in
    let left : left_in s.left.entries c.mark-2.inside.event ≡ left_in s.left.entries m.event = ap (left_in s.left.entries) event in
    omega (arith, kept_takes s.left.entries s.rights.sites s.me s.rights.cells m c.self.invariant.0 of asked effect, more, left)

pub invariant_of-self : goal.invariant_of-self
invariant_of-self c =
    let s = c.self.inside in
    let r = c.raise.new.self in
    let m = c.args.mark in
    let of : IsCellOf s.rights.sites m.cell = subst (λ (v : CountedView). IsCellOf v.sites m.cell) (sym c.self.view_is) c.requires.in_range in
    let asked : HasRights (raise s.rights.cells m) m.event s.me = subst (λ (v : CountedView). HasRights (raise v.cells m) m.event v.me)
    (sym c.self.view_is) c.requires.not_negative in
    let leaves : c.of-effect.result ≡ Leaves = search rules in
    let effect : Leaves ≡ effect_of m.cell s.me = sym leaves ∙ c.of-effect.ensures ∙ ap (λ (x : Valued). effect_of x.cell s.me) c.mark-2.view_is in
    let most : m.value ≤ greatest_value = subst (λ (x : Valued). x.value ≤ greatest_value) c.mark.view_is c.mark.invariant.1 in
    let old : c.get-old.result ≡ value_at s.rights.cells m.event m.cell = c.get-old.ensures.value
    ∙ ap (λ (x : Valued). value_at s.rights.cells x.event x.cell) c.mark.view_is in
    let some : 1 ≤ value_at s.rights.cells m.event m.cell = omega (arith, old, c.if-old-gt0.true) in (
      kept_alone s.left.entries s.rights.sites r.sites s.me s.rights.cells r.cells m c.self.invariant.0 c.raise.ensures.sites c.raise.ensures.cells most of
          asked effect some,
      room_kept (value_at s.rights.cells m.event m.cell) s.room s.rights.room r.room some c.self.invariant.1 c.raise.ensures.room,
      c.self.invariant.2,
    )

pub invariant_of-self-then-old-eq0 : goal.invariant_of-self-then-old-eq0
invariant_of-self-then-old-eq0 c =
    let s = c.self.inside in
    let r = c.raise.new.self in
    let m = c.args.mark in
    let of : IsCellOf s.rights.sites m.cell = subst (λ (v : CountedView). IsCellOf v.sites m.cell) (sym c.self.view_is) c.requires.in_range in
    let asked : HasRights (raise s.rights.cells m) m.event s.me = subst (λ (v : CountedView). HasRights (raise v.cells m) m.event v.me)
    (sym c.self.view_is) c.requires.not_negative in
    let effect : c.of-effect.result ≡ effect_of m.cell s.me = c.of-effect.ensures ∙ ap (λ (x : Valued). effect_of x.cell s.me) c.mark-2.view_is in
    let more : c.saturating_sub-more.result ≡ m.value - value_at s.rights.cells m.event m.cell =
    risen s.rights.cells m (record { event = c.mark.inside.event; cell = c.mark.inside.cell; value = c.mark.inside.value }) c.get-old.result
    c.saturating_sub-more.result c.mark.view_is c.get-old.ensures.value c.saturating_sub-more.ensures in
    let event : c.mark-2.inside.event ≡ m.event = ap (λ (x : Valued). x.event) c.mark-2.view_is in
    let most : m.value ≤ greatest_value = subst (λ (x : Valued). x.value ≤ greatest_value) c.mark.view_is c.mark.invariant.1 in
    let kept = kept_after s.left.entries c.keep.new.kept.entries s.rights.sites r.sites s.me s.rights.cells r.cells m c.mark-2.inside.event
    c.of-effect.result c.saturating_sub-more.result c.self.invariant.0 c.raise.ensures.sites c.raise.ensures.cells most of asked event effect more
    c.keep.ensures.left in (
      kept,
      room_taken (value_at s.rights.cells m.event m.cell == 0) s.room s.rights.room r.room c.self.invariant.1 c.raise.ensures.room,
      omega (arith, c.self.invariant.2, c.keep.ensures.room),
    )

pub invariant_of-self-else-old-eq0 : goal.invariant_of-self-else-old-eq0
invariant_of-self-else-old-eq0 c =
    let s = c.self.inside in
    let r = c.raise.new.self in
    let m = c.args.mark in
    let of : IsCellOf s.rights.sites m.cell = subst (λ (v : CountedView). IsCellOf v.sites m.cell) (sym c.self.view_is) c.requires.in_range in
    let asked : HasRights (raise s.rights.cells m) m.event s.me = subst (λ (v : CountedView). HasRights (raise v.cells m) m.event v.me)
    (sym c.self.view_is) c.requires.not_negative in
    let effect : c.of-effect.result ≡ effect_of m.cell s.me = c.of-effect.ensures ∙ ap (λ (x : Valued). effect_of x.cell s.me) c.mark-2.view_is in
    let more : c.saturating_sub-more.result ≡ m.value - value_at s.rights.cells m.event m.cell =
    risen s.rights.cells m (record { event = c.mark.inside.event; cell = c.mark.inside.cell; value = c.mark.inside.value }) c.get-old.result
    c.saturating_sub-more.result c.mark.view_is c.get-old.ensures.value c.saturating_sub-more.ensures in
    let event : c.mark-2.inside.event ≡ m.event = ap (λ (x : Valued). x.event) c.mark-2.view_is in
    let most : m.value ≤ greatest_value = subst (λ (x : Valued). x.value ≤ greatest_value) c.mark.view_is c.mark.invariant.1 in
    let kept = kept_after s.left.entries c.keep.new.kept.entries s.rights.sites r.sites s.me s.rights.cells r.cells m c.mark-2.inside.event
    c.of-effect.result c.saturating_sub-more.result c.self.invariant.0 c.raise.ensures.sites c.raise.ensures.cells most of asked event effect more
    c.keep.ensures.left in
    let old : c.get-old.result ≡ value_at s.rights.cells m.event m.cell = c.get-old.ensures.value
    ∙ ap (λ (x : Valued). value_at s.rights.cells x.event x.cell) c.mark.view_is in
    let some : 1 ≤ value_at s.rights.cells m.event m.cell = omega (arith, old, c.if-old-eq0.false) in
    let known = c.self.invariant.0.are_all m.event m.cell some in (
      kept,
      room_kept (value_at s.rights.cells m.event m.cell) s.room s.rights.room r.room some c.self.invariant.1 c.raise.ensures.room,
      omega (
        arith,
        c.self.invariant.2,
        c.keep.ensures.known (subst (λ (x : Valued). IsSome (lookup (same_event x.event) s.left.entries)) (sym c.mark-2.view_is) known),
      ),
    )
