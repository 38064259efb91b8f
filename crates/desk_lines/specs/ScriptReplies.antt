-- What each answer of a script is written as. (Our own.)
use Rattle.std.specs.Prelude.{ℕ, List, [], ◌∷◌, ◌++◌, codes}
use Rattle.std.specs.Fmt.{decimal}
use Rattle.book_core.specs.declared.plan.PlanFault.{PlanFault}
use Rattle.book_core.specs.declared.plan.PlanFault.TheVariants.{Reused, Full, Memory}
use Rattle.site_desk.specs.declared.fault.AskFault.TheVariants as ask
use Rattle.world_steps.specs.declared.step.Outcome.{Outcome}
use Rattle.world_steps.specs.declared.step.Outcome.TheVariants.{Answered, Refused, Sent, NothingToSend, Joined, NothingNew, Acked, NotTaken, Restarted, Grown, NotGrown, Stopped}
use Rattle.desk_lines.specs.declared.answered.Answered.TheVariants as session
use Rattle.desk_lines.specs.declared.script_answer.ScriptAnswer.{ScriptAnswer}
use Rattle.desk_lines.specs.declared.script_answer.ScriptAnswer.TheVariants.{Made, LeftIs, TotalsAre, NotKnown, NoSuchSite, NoSuchMessage, Unread}
use Rattle.desk_lines.specs.Replies.{reply_text, ask_fault_text, take_fault_text, grow_fault_text, answered_text}

abbrev pub refusal_text : PlanFault → List ℕ
refusal_text (Reused place) = ask_fault_text (ask.Reused place)
refusal_text Full = ask_fault_text ask.Full
refusal_text Memory = ask_fault_text ask.Memory

abbrev pub outcome_text : Outcome → List ℕ
outcome_text (Answered reply) = reply_text reply
outcome_text (Refused fault) = refusal_text fault
outcome_text (Sent index) = codes "message " ++ decimal index
outcome_text NothingToSend = codes "nothing"
outcome_text (Joined ack) = codes "joined message " ++ decimal ack
outcome_text (NothingNew ack) = codes "nothing-new message " ++ decimal ack
outcome_text Acked = codes "acked"
outcome_text (NotTaken fault) = take_fault_text fault
outcome_text Restarted = codes "restarted"
outcome_text Grown = codes "grown"
outcome_text (NotGrown fault) = grow_fault_text fault
outcome_text Stopped = codes "stopped"

abbrev pub answer_text : ScriptAnswer → List ℕ
answer_text (Made outcome) = outcome_text outcome
answer_text (LeftIs left) = answered_text (session.LeftIs left)
answer_text (TotalsAre totals) = answered_text (session.TotalsAre totals)
answer_text NotKnown = answered_text session.NotKnown
answer_text NoSuchSite = codes "no-such-site"
answer_text NoSuchMessage = codes "no-message"
answer_text Unread = answered_text session.Unread

abbrev pub script_reply_line : ScriptAnswer → List ℕ
script_reply_line answer = answer_text answer ++ 10 ∷ []
