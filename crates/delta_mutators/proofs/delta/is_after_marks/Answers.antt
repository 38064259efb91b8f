use Rattle.std.proofs.Common.{ap, ◌∙◌}
use Rattle.std.specs.Ordering.{is_lt}
use Rattle.delta_mutators.proofs.EndLaws.{marks_last}
use Rattle.delta_mutators.proofs.delta.is_after_marks.Goals as goal

pub returns-in-Some : goal.returns-in-Some
returns-in-Some c =
    let item = c.in-Some.ensures.item in
    c.is_lt.ensures ∙ ap is_lt c.key_order.ensures ∙ marks_last c.args.marks.now c.in-Some.last.now c.args.mark.now item.3.0 item.1 c.requires
