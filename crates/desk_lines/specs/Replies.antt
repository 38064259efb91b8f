-- What each answer of a session is written as, and what scripts and sessions both say. (Our own.)
use Rattle.std.specs.Prelude.{ℕ, List, [], ◌∷◌, ◌++◌, Option, Some, None, codes}
use Rattle.std.specs.Fmt.{decimal}
use Rattle.request_ledger.specs.declared.reply.Reply.{Reply}
use Rattle.request_ledger.specs.declared.reply.Reply.TheVariants.{Unknown}
use Rattle.request_ledger.specs.Words.{reply_word, reply_number}
use Rattle.book_core.specs.declared.plan.GrowFault.{GrowFault}
use Rattle.book_core.specs.declared.plan.GrowFault.TheVariants as grow
use Rattle.site_desk.specs.declared.fault.AskFault.{AskFault}
use Rattle.site_desk.specs.declared.fault.AskFault.TheVariants as ask
use Rattle.site_exchange.specs.declared.message.TakeFault.{TakeFault}
use Rattle.site_exchange.specs.declared.message.TakeFault.TheVariants as take
use Rattle.delta_wire.specs.declared.fault.WireFault.{WireFault}
use Rattle.delta_wire.specs.declared.fault.WireFault.TheVariants as wire
use Rattle.local_rights.specs.declared.seat_totals.ViewTotals.{ViewTotals}
use Rattle.desk_lines.specs.declared.answered.Answered.{Answered}
use Rattle.desk_lines.specs.declared.answered.Answered.TheVariants.{Kept, LeftIs, TotalsAre, NotKnown, Refused, Unread}

-- a word, and the number behind it where there is one
abbrev pub word_numbered : List ℕ → Option ℕ → List ℕ
word_numbered word None = word
word_numbered word (Some n) = word ++ 32 ∷ decimal n

abbrev pub reply_text : Reply → List ℕ
reply_text reply = word_numbered (reply_word reply) (reply_number reply)

-- why a request is not answered
abbrev pub ask_fault_text : AskFault → List ℕ
ask_fault_text ask.Closed = codes "closed"
ask_fault_text (ask.Reused place) = codes "reused"
ask_fault_text ask.Full = codes "history-full"
ask_fault_text ask.Memory = codes "memory"
ask_fault_text ask.Store = codes "store"

-- the word, and the number of the line, of a text that is no message
abbrev pub wire_fault_text : WireFault → List ℕ
wire_fault_text wire.Truncated = codes "truncated"
wire_fault_text (wire.BadLine line) = codes "bad-line " ++ decimal line
wire_fault_text (wire.OutOfOrder line) = codes "out-of-order " ++ decimal line
wire_fault_text wire.Trailing = codes "trailing"
wire_fault_text wire.Memory = codes "memory"

-- why a message is not taken
abbrev pub take_fault_text : TakeFault → List ℕ
take_fault_text take.NotForMe = codes "not-for-me"
take_fault_text take.UnknownSite = codes "unknown-site"
take_fault_text (take.StrayAck len) = codes "stray-ack " ++ decimal len
take_fault_text (take.ForeignRow mark) = codes "foreign-row"
take_fault_text take.Full = ask_fault_text ask.Full
take_fault_text take.Memory = ask_fault_text ask.Memory
take_fault_text take.Closed = ask_fault_text ask.Closed
take_fault_text take.Store = ask_fault_text ask.Store

-- why a site does not count more sites
abbrev pub grow_fault_text : GrowFault → List ℕ
grow_fault_text grow.NotMore = codes "not-more"
grow_fault_text grow.Full = ask_fault_text ask.Full
grow_fault_text grow.Memory = ask_fault_text ask.Memory
grow_fault_text grow.Closed = ask_fault_text ask.Closed
grow_fault_text grow.Store = ask_fault_text ask.Store

-- the seats that are open by a view, or that it is one by which none are told
abbrev pub open_text : Option ℕ → List ℕ
open_text None = codes "none"
open_text (Some seats) = decimal seats

abbrev pub totals_text : ViewTotals → List ℕ
totals_text t = codes "totals released " ++ decimal t.released ++ codes " sold " ++ decimal t.sold ++ codes " refunded " ++ decimal t.refunded ++ codes
    " open " ++ open_text t.open_seats

abbrev pub answered_text : Answered → List ℕ
answered_text (Kept reply) = reply_text reply
answered_text (LeftIs left) = codes "left " ++ decimal left
answered_text (TotalsAre totals) = totals_text totals
answered_text NotKnown = reply_text Unknown
answered_text (Refused fault) = ask_fault_text fault
answered_text Unread = codes "bad-line"

abbrev pub reply_line : Answered → List ℕ
reply_line answered = answered_text answered ++ 10 ∷ []
