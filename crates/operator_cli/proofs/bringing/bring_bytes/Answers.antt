use Rattle.operator_cli.specs.Visits.{question_of_read}
use Rattle.delta_wire.specs.Wire.{message_of}
use Rattle.operator_cli.proofs.VisitLaws.{asks_nothing, unread_end, unread_printed, unread_whole}
use Rattle.operator_cli.proofs.bringing.bring_bytes.Goals as goal

pub returns-in-Err-clause-asked : goal.returns-in-Err-clause-asked
returns-in-Err-clause-asked g c = asks_nothing (g.Q.Write.contents c.args.questions.now) (question_of_read (message_of c.args.bytes.now))

pub returns-in-Err-clause-whole : goal.returns-in-Err-clause-whole
returns-in-Err-clause-whole g c = unread_whole _ c.in-Err.fault _ c.tell_unread.result _ _ c.in-Err.ensures.exact c.tell_unread.ensures.printed
    c.tell_unread.ensures.ends

pub returns-in-Err-clause-printed : goal.returns-in-Err-clause-printed
returns-in-Err-clause-printed g c = unread_printed _ c.in-Err.fault _ c.tell_unread.result _ _ c.in-Err.ensures.exact c.tell_unread.ensures.printed
    c.tell_unread.ensures.ends

pub returns-in-Err-clause-cause : goal.returns-in-Err-clause-cause
returns-in-Err-clause-cause g c = unread_end _ c.tell_unread.result c.tell_unread.ensures.cause
