use Rattle.std.proofs.Common.{ap, ◌∙◌}
use Rattle.std.specs.Ordering.{is_lt}
use Rattle.delta_mutators.proofs.EndLaws.{names_last}
use Rattle.delta_mutators.proofs.delta.is_after_names.Goals as goal

pub returns-in-Some : goal.returns-in-Some
returns-in-Some c =
    let item = c.in-Some.ensures.item in
    c.is_lt.ensures ∙ ap is_lt c.cmp.ensures ∙ names_last c.args.names.now c.in-Some.last.now c.args.event.now item.3.0 item.1 c.requires
