use Rattle.std.proofs.Common.{◌≡◌, ◌∙◌, None, Some, cond, sym, ap, rules}
use Rattle.std.specs.Map.{lookup}
use Rattle.std.specs.Option.{unwrap_or}
use Rattle.rights_lattice.specs.Cell.{same_event}
use Rattle.local_rights.specs.Counted.{left_in}
use Rattle.local_rights.specs.Effects.{left_after}
use Rattle.local_rights.proofs.counted.keep.Goals as goal

pub returns-in-Ok-clause-left : goal.returns-in-Ok-clause-left
returns-in-Ok-clause-left c = λ name.
    let absent : lookup (same_event c.args.event) c.args.kept.now.entries ≡ None = search rules in
    let none : left_in c.args.kept.now.entries c.args.event ≡ 0 = ap (λ o. unwrap_or o 0) absent in
    let left : c.apply-in-None.result ≡ left_after c.args.effect (left_in c.args.kept.now.entries c.args.event) c.args.more =
    c.apply-in-None.ensures ∙ ap (λ v. left_after c.args.effect v c.args.more) (sym none) in
    c.in-Ok.ensures.updates.0 name ∙ ap (λ m. cond (same_event c.args.event name) (Some c.apply-in-None.result) (lookup (same_event name) m.entries))
    c.get_mut.follows.holds-at-none
    ∙ ap (λ v. cond (same_event c.args.event name) (Some v) (lookup (same_event name) c.args.kept.now.entries)) left
