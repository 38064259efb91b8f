use Rattle.std.proofs.Common.{sym, ◌∙◌}
use Rattle.rights_lattice.proofs.MarkLaws.{marks_of-cells_of}
use Rattle.delta_mutators.proofs.delta.Delta.marks.Goals as goal

pub returns : goal.returns
returns c = rw (← c.self.view_is)
    (c.as_slice.ensures.value ∙ sym (marks_of-cells_of c.self.inside.marks.items c.self.invariant.marks_rise c.self.invariant.positive))
