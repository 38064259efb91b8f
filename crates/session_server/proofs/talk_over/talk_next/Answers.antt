use Rattle.std.proofs.Common.{rules}
use Rattle.session_server.proofs.Sessions.{next_unwritten, replied}
use Rattle.session_server.proofs.talk_over.talk_next.Goals as goal

pub returns-in_err-write_reply : goal.returns-in_err-write_reply
returns-in_err-write_reply g c =
    next_unwritten g.A.Answerer.step _ _ _ _ _ _ c.from_residual-in_err-write_reply.result c.in_err-write_reply.field-0.0
    c.from_residual-in_err-write_reply.ensures.1 c.in_err-write_reply.ensures.fault
    (replied g.A.Answerer.step _ _ c.next_line.new.line.items c.as_slice.result.now c.in_ok-next_line.field-0 c.args.answerer.now
    c.answer_line.new.answerer c.in-Some.answered (search rules) c.in_ok-next_line.ensures c.as_slice.ensures.value c.in-Some.ensures)
    c.in_err-write_reply.ensures.written

pub returns : goal.returns
returns g c = (
  replied g.A.Answerer.step _ _ c.next_line.new.line.items c.as_slice.result.now c.in_ok-next_line.field-0 c.args.answerer.now
      c.answer_line.new.answerer c.in-Some.answered (search rules) c.in_ok-next_line.ensures c.as_slice.ensures.value c.in-Some.ensures,
  c.in_ok-write_reply.ensures.written,
)
