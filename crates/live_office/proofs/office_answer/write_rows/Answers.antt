use Rattle.std.proofs.Common.{◌∙◌}
use Rattle.plain_words.proofs.WriteLaws.{Writes-err}
use Rattle.delta_wire.proofs.Prefixes.{one_failed, one_written}
use Rattle.live_office.specs.RecordLines.{row_line}
use Rattle.live_office.proofs.office_answer.write_rows.Goals as goal

pub rows-preserved : goal.rows-preserved
rows-preserved g c =
    one_written row_line c.args.rows.now c.rows.row-index c.row-item.result _ _ _ c.as_slice.result.now c.rows-test.true c.row-item.is
    (c.as_slice.ensures.value ∙ c.listed_line-line.ensures.value) c.rows.invariant c.in_ok-write_bytes.ensures

pub returns-in_err-write_bytes : goal.returns-in_err-write_bytes
returns-in_err-write_bytes g c =
    Writes-err _ _ c.from_residual.result _ c.from_residual.ensures.0
    (one_failed row_line c.args.rows.now c.rows.row-index c.row-item.result _ _ _ c.as_slice.result.now c.rows-test.true c.row-item.is
    (c.as_slice.ensures.value ∙ c.listed_line-line.ensures.value) c.rows.invariant c.in_err-write_bytes.ensures)
