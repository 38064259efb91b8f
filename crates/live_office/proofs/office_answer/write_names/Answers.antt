use Rattle.std.proofs.Common.{◌∙◌}
use Rattle.plain_words.proofs.WriteLaws.{Writes-err}
use Rattle.delta_wire.proofs.Prefixes.{one_failed, one_written}
use Rattle.live_office.specs.RecordLines.{event_line}
use Rattle.live_office.proofs.office_answer.write_names.Goals as goal

pub events-preserved : goal.events-preserved
events-preserved g c =
    one_written event_line c.args.events.now c.events.event-index c.event-item.result _ _ _ c.as_slice.result.now c.events-test.true c.event-item.is
    (c.as_slice.ensures.value ∙ c.event_line-line.ensures.value) c.events.invariant c.in_ok-write_bytes.ensures

pub returns-in_err-write_bytes : goal.returns-in_err-write_bytes
returns-in_err-write_bytes g c =
    Writes-err _ _ c.from_residual.result _ c.from_residual.ensures.0
    (one_failed event_line c.args.events.now c.events.event-index c.event-item.result _ _ _ c.as_slice.result.now c.events-test.true c.event-item.is
    (c.as_slice.ensures.value ∙ c.event_line-line.ensures.value) c.events.invariant c.in_err-write_bytes.ensures)
