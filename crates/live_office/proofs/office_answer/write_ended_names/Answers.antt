use Rattle.std.proofs.Common.{refl, codes, ◌++◌, ◌∷◌, []}
use Rattle.std.specs.List.{flat_map}
use Rattle.plain_words.proofs.WriteLaws.{Writes-err}
use Rattle.delta_wire.proofs.Prefixes.{two_failed, two_written}
use Rattle.live_office.specs.Answers.{ended_events}
use Rattle.live_office.specs.RecordLines.{event_line}
use Rattle.live_office.proofs.office_answer.write_ended_names.Goals as goal

pub returns-in_err-write_names : goal.returns-in_err-write_names
returns-in_err-write_names g c =
    Writes-err _ _ c.from_residual.result _ c.from_residual.ensures.0
    (two_failed _ _ (ended_events c.args.events.now) (flat_map event_line c.args.events.now) (codes "end" ++ 10 ∷ []) refl c.in_err-write_names.ensures)

pub returns : goal.returns
returns g c =
    two_written _ _ _ c.write_end.result (ended_events c.args.events.now) (flat_map event_line c.args.events.now) (codes "end" ++ 10 ∷ []) refl
    c.in_ok-write_names.ensures c.write_end.ensures
