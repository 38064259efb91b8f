use Rattle.std.proofs.Common.{◌<◌, List, ℕ, length, ap, arith, ◌∙◌}
use Rattle.std.specs.List.{list_any}
use Rattle.std.proofs.lemmas.List.{take_all}
use Rattle.event_catalogue.specs.Catalogue.{with_new}
use Rattle.rights_lattice.specs.Cell.{same_event}
use Rattle.event_catalogue.proofs.NameLaws.{any-with_new, with_new_more}
use Rattle.event_catalogue.proofs.catalogue.Catalogue.join.Goals as goal

pub loop-name-preserved : goal.loop-name-preserved
loop-name-preserved c =
    let within : c.loop-name.name-index < length c.args.names.now = omega arith in (
      c.add.ensures.names ∙ with_new_more c.args.self.now.names c.args.names.now c.loop-name.self.names c.loop-name.name-index c.name-item.result within
          c.name-item.is c.loop-name.invariant.0,
      omega arith,
    )

pub returns-clause-names : goal.returns-clause-names
returns-clause-names c = c.loop-name.invariant.0 ∙ ap (with_new c.args.self.now.names) (take_all c.loop-name.name-index c.args.names.now (omega arith))

pub returns-clause-union : goal.returns-clause-union
returns-clause-union c = λ name. ap (λ (names : List (List ℕ)). list_any (same_event name) names) (returns-clause-names c) ∙ any-with_new name _ _
