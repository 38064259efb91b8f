use Rattle.std.proofs.Common.{ap, ◌∙◌}
use Rattle.live_office.specs.Admissible.{admissible}
use Rattle.live_office.specs.CallerLines.{CallerState}
use Rattle.live_office.proofs.Handled.{handled_parts}
use Rattle.live_office.proofs.serving.answer.Goals as goal

pub returns-clause-parts : goal.returns-clause-parts
returns-clause-parts g c =
    c.into_seat.ensures
    ∙ handled_parts (admissible g.L.Opens.office g.L.Opens.began g.K.Keeper) _ _ _ _ _ _ c.office_talk-ended.ensures
    ∙ ap (λ (s : CallerState). s.seat.seat.parts) c.new-at.ensures
