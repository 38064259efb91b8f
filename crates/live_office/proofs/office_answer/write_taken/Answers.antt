use Rattle.std.proofs.Common.{refl, ◌++◌}
use Rattle.plain_words.proofs.WriteLaws.{Writes-err}
use Rattle.delta_wire.specs.Grammar.{message_text}
use Rattle.delta_wire.proofs.Prefixes.{two_failed, two_written}
use Rattle.live_office.proofs.office_answer.write_taken.Goals as goal

pub returns-in_err-write_bytes : goal.returns-in_err-write_bytes
returns-in_err-write_bytes g c =
    Writes-err _ _ c.from_residual.result _ c.from_residual.ensures.0
    (two_failed _ _ (c.args.line.now ++ message_text c.args.ack.now) c.args.line.now (message_text c.args.ack.now) refl c.in_err-write_bytes.ensures)

pub returns : goal.returns
returns g c =
    two_written _ _ _ c.write_message.result (c.args.line.now ++ message_text c.args.ack.now) c.args.line.now (message_text c.args.ack.now) refl
    c.in_ok-write_bytes.ensures c.write_message.ensures.text
