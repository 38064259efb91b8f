use Rattle.std.proofs.Common.{sym, ◌∙◌}
use Rattle.rights_lattice.proofs.MarkLaws.{names_in_order-names_of}
use Rattle.delta_mutators.proofs.delta.Delta.names.Goals as goal

pub returns : goal.returns
returns c = rw (← c.self.view_is) (c.as_slice.ensures.value ∙ sym (names_in_order-names_of c.self.inside.names.items c.self.invariant.names_rise))
