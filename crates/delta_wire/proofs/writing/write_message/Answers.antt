use Rattle.std.proofs.Common.{◌++◌, ◌∙◌, codes}
use Rattle.plain_words.proofs.WriteLaws.{Writes-err}
use Rattle.delta_wire.specs.Grammar.{delta_text, message_text}
use Rattle.delta_wire.proofs.Prefixes.{two_failed, two_written, whole_delta, whole_ack}
use Rattle.delta_wire.proofs.writing.write_message.Goals as goal

pub returns-in_err-write_bytes-in-Delta-clause-text : goal.returns-in_err-write_bytes-in-Delta-clause-text
returns-in_err-write_bytes-in-Delta-clause-text g c =
    Writes-err _ _ c.from_residual.result _ c.from_residual.ensures.0
    (two_failed _ _ (message_text c.args.message.now) c.as_slice.result.now (delta_text c.in-Delta.delta ++ codes "end\n")
    (whole_delta c.args.message.now c.in-Delta.by c.in-Delta.to c.in-Delta.upto c.in-Delta.delta c.as_slice.result.now c.in-Delta.is
    (c.as_slice.ensures.value ∙ c.header_text-header.ensures.text)) c.in_err-write_bytes-in-Delta.ensures)

pub returns-in_err-write_bytes-in-Ack-clause-text : goal.returns-in_err-write_bytes-in-Ack-clause-text
returns-in_err-write_bytes-in-Ack-clause-text g c =
    Writes-err _ _ c.from_residual-in_err-write_bytes-in-Ack.result _ c.from_residual-in_err-write_bytes-in-Ack.ensures.0
    (two_failed _ _ (message_text c.args.message.now) c.as_slice-in-Ack.result.now (codes "end\n")
    (whole_ack c.args.message.now c.in-Ack.by c.in-Ack.to c.in-Ack.upto c.as_slice-in-Ack.result.now c.in-Ack.is
    (c.as_slice-in-Ack.ensures.value ∙ c.header_text-header-in-Ack.ensures.text)) c.in_err-write_bytes-in-Ack.ensures)

pub returns-in_ok-write_bytes-in-Delta-clause-text : goal.returns-in_ok-write_bytes-in-Delta-clause-text
returns-in_ok-write_bytes-in-Delta-clause-text g c =
    two_written _ _ _ c.write_body.result (message_text c.args.message.now) c.as_slice.result.now (delta_text c.in-Delta.delta ++ codes "end\n")
    (whole_delta c.args.message.now c.in-Delta.by c.in-Delta.to c.in-Delta.upto c.in-Delta.delta c.as_slice.result.now c.in-Delta.is
    (c.as_slice.ensures.value ∙ c.header_text-header.ensures.text)) c.in_ok-write_bytes-in-Delta.ensures c.write_body.ensures.text

pub returns-in_ok-write_bytes-in-Ack-clause-text : goal.returns-in_ok-write_bytes-in-Ack-clause-text
returns-in_ok-write_bytes-in-Ack-clause-text g c =
    two_written _ _ _ c.write_bytes-in-Ack-2.result (message_text c.args.message.now) c.as_slice-in-Ack.result.now (codes "end\n")
    (whole_ack c.args.message.now c.in-Ack.by c.in-Ack.to c.in-Ack.upto c.as_slice-in-Ack.result.now c.in-Ack.is
    (c.as_slice-in-Ack.ensures.value ∙ c.header_text-header-in-Ack.ensures.text)) c.in_ok-write_bytes-in-Ack.ensures c.write_bytes-in-Ack-2.ensures
