use Rattle.std.proofs.Common.{ap, ◌∙◌}
use Rattle.delta_mutators.specs.Rises.{is_after_names, is_after_marks}
use Rattle.delta_mutators.proofs.EndLaws.{rises_name, rises_mark}
use Rattle.delta_mutators.proofs.delta.Delta.rises.Goals as goal

pub returns-in-Name : goal.returns-in-Name
returns-in-Name c =
    let s = c.self.inside in
    let after = c.is_after_names.ensures ∙ ap (λ ns. is_after_names ns c.in-Name.event) c.deref.ensures.value in
    rises_name s.names.items s.marks.items c.args.self.now c.args.item.now c.in-Name.event _ c.self.invariant c.self.view_is c.in-Name.is after

pub returns-in-Cell : goal.returns-in-Cell
returns-in-Cell c =
    let s = c.self.inside in
    let after = c.is_after_marks.ensures ∙ ap (λ ms. is_after_marks ms c.in-Cell.mark) c.deref-in-Cell.ensures.value in
    rises_mark s.names.items s.marks.items c.args.self.now c.args.item.now c.in-Cell.mark _ c.self.invariant c.self.view_is c.in-Cell.is after
