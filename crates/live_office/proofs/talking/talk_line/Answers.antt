use Rattle.std.proofs.Common.{rules}
use Rattle.live_office.specs.Answers.{answer_text}
use Rattle.live_office.proofs.Talks.{next_unwritten, replied}
use Rattle.live_office.proofs.talking.talk_line.Goals as goal

pub returns-in_err-send : goal.returns-in_err-send
returns-in_err-send g c =
    next_unwritten g.H.Handler.handles g.H.Handler.ends _ _ _ _ _ _ c.from_residual-in_err-send.result c.in_err-send.field-0.0
    c.from_residual-in_err-send.ensures.1 c.in_err-send.ensures.fault
    (replied g.H.Handler.handles _ _ c.next_line.new.line.items c.as_slice.result.now c.in_ok-next_line.field-0 c.args.handler.now c.handle.new.self
    (answer_text c.in-Ok.answer) (search rules) c.in_ok-next_line.ensures c.as_slice.ensures.value c.in-Ok.ensures) c.in_err-send.ensures.written

pub returns : goal.returns
returns g c = (
  replied g.H.Handler.handles _ _ c.next_line.new.line.items c.as_slice.result.now c.in_ok-next_line.field-0 c.args.handler.now c.handle.new.self
      (answer_text c.in-Ok.answer) (search rules) c.in_ok-next_line.ensures c.as_slice.ensures.value c.in-Ok.ensures,
  c.in_ok-send.ensures.written,
)
