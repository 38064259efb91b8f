use Rattle.std.proofs.Common.{refl, codes, ◌++◌, ◌∷◌, []}
use Rattle.std.specs.List.{flat_map}
use Rattle.plain_words.proofs.WriteLaws.{Writes-err}
use Rattle.delta_wire.proofs.Prefixes.{two_failed, two_written}
use Rattle.live_office.specs.Answers.{ended_rows}
use Rattle.live_office.specs.RecordLines.{row_line}
use Rattle.live_office.proofs.office_answer.write_ended.Goals as goal

pub returns-in_err-write_rows : goal.returns-in_err-write_rows
returns-in_err-write_rows g c =
    Writes-err _ _ c.from_residual.result _ c.from_residual.ensures.0
    (two_failed _ _ (ended_rows c.args.rows.now) (flat_map row_line c.args.rows.now) (codes "end" ++ 10 ∷ []) refl c.in_err-write_rows.ensures)

pub returns : goal.returns
returns g c =
    two_written _ _ _ c.write_bytes.result (ended_rows c.args.rows.now) (flat_map row_line c.args.rows.now) (codes "end" ++ 10 ∷ []) refl
    c.in_ok-write_rows.ensures c.write_bytes.ensures
