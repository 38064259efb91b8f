use Rattle.delta_mutators.proofs.DeltaLaws.{joined}
use Rattle.delta_mutators.proofs.delta.Delta.join.Goals as goal

pub returns : goal.returns
returns c =
    rw (← c.self.view_is, ← c.other.view_is)
    (joined c.self.inside.marks.items c.other.inside.marks.items c.deref-3.result.now c.deref-4.result.now c.in_ok-merge_marks.field-0.items
    c.self.inside.names.items c.other.inside.names.items c.deref.result.now c.deref-2.result.now c.in_ok-merge_names.field-0.items
    c.deref-3.ensures.value c.deref-4.ensures.value c.deref.ensures.value c.deref-2.ensures.value
    c.self.invariant c.other.invariant c.in_ok-merge_marks.ensures.merged c.in_ok-merge_names.ensures.merged)
