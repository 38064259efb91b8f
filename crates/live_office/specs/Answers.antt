-- The texts that answer the lines of an office. (Our own.)
use Rattle.std.specs.Prelude.{ℕ, ◌==◌, List, [], ◌∷◌, ◌++◌, length, if◌then◌else◌, Option, Some, None, Result, Ok, Err, Vec, codes}
use Rattle.std.specs.Fmt.{decimal}
use Rattle.std.specs.List.{flat_map}
use Rattle.history_keeper.specs.declared.lookup.Found.{Found}
use Rattle.history_keeper.specs.declared.lookup.Listed.{Listed}
use Rattle.site_exchange.specs.declared.message.Message.{Message}
use Rattle.delta_wire.specs.Grammar.{message_text}
use Rattle.site_desk.specs.declared.answer.SiteShare.{SiteShare}
use Rattle.site_desk.specs.declared.answer.SiteStatus.{SiteStatus}
use Rattle.site_desk.specs.declared.answer.Taken.{Taken}
use Rattle.site_desk.specs.declared.answer.Taken.TheVariants.{Joined, NothingNew, Acked}
use Rattle.site_desk.specs.declared.fault.LookUpFault.{LookUpFault}
use Rattle.site_desk.specs.declared.fault.LookUpFault.TheVariants as look_up
use Rattle.site_desk.specs.declared.fault.NextFault.{NextFault}
use Rattle.site_desk.specs.declared.fault.NextFault.TheVariants as next
use Rattle.desk_lines.specs.Replies.{reply_line, take_fault_text, wire_fault_text}
use Rattle.live_office.specs.declared.importing.ImportFault.{ImportFault}
use Rattle.live_office.specs.declared.importing.ImportFault.TheVariants.{Unread, Refused}
use Rattle.live_office.specs.declared.office_answer.Crowd.{Crowd}
use Rattle.live_office.specs.declared.office_answer.OfficeAnswer.{OfficeAnswer}
use Rattle.live_office.specs.declared.office_answer.OfficeAnswer.TheVariants as answer
use Rattle.live_office.specs.RecordLines.{event_line, found_line, row_line, share_line, site_status_text}
use Rattle.live_office.specs.Sparing.{reserve_text, spared_text}

-- why no message is given
abbrev pub next_fault_text : NextFault → List ℕ
next_fault_text next.NoSite = codes "no-site"
next_fault_text next.Closed = codes "closed"
next_fault_text next.Memory = codes "memory"

-- why a message is not taken
abbrev pub import_fault_text : ImportFault → List ℕ
import_fault_text (Unread fault) = wire_fault_text fault
import_fault_text (Refused fault) = take_fault_text fault

-- the message that is due, or a line that says why there is none
abbrev pub exported_text : Result (Option Message) NextFault → List ℕ
exported_text (Ok (Some message)) = message_text message
exported_text (Ok None) = codes "nothing" ++ 10 ∷ []
exported_text (Err fault) = next_fault_text fault ++ 10 ∷ []

-- what was done with a message, and the acknowledgement that goes back
abbrev pub imported_text : Result Taken ImportFault → List ℕ
imported_text (Ok (Joined ack)) = (codes "joined" ++ 10 ∷ []) ++ message_text ack
imported_text (Ok (NothingNew ack)) = (codes "nothing-new" ++ 10 ∷ []) ++ message_text ack
imported_text (Ok Acked) = codes "acked" ++ 10 ∷ []
imported_text (Err fault) = import_fault_text fault ++ 10 ∷ []

-- why nothing is told of requests
abbrev pub look_up_fault_text : LookUpFault → List ℕ
look_up_fault_text look_up.Closed = codes "closed"
look_up_fault_text look_up.Memory = codes "memory"

-- the place and the reply that are kept under a number, or that there are none
abbrev pub found_text : Result (Option Found) LookUpFault → List ℕ
found_text (Ok (Some found)) = found_line found.place found.reply
found_text (Ok None) = codes "none" ++ 10 ∷ []
found_text (Err fault) = look_up_fault_text fault ++ 10 ∷ []

-- a line for each request, and the line `end`
abbrev pub ended_rows : List Listed → List ℕ
ended_rows rows = flat_map row_line rows ++ (codes "end" ++ 10 ∷ [])

-- the same, or that there are none
abbrev pub rows_text : List Listed → List ℕ
rows_text rows = if length rows == 0 then codes "none" ++ 10 ∷ [] else ended_rows rows

abbrev pub listed_text : {Z : Type 0} → Result (Vec Listed Z) LookUpFault → List ℕ
listed_text (Ok listed) = rows_text listed.items
listed_text (Err fault) = look_up_fault_text fault ++ 10 ∷ []

-- a line for each event, and the line `end`; or that there are none
abbrev pub ended_events : List (List ℕ) → List ℕ
ended_events events = flat_map event_line events ++ (codes "end" ++ 10 ∷ [])

abbrev pub known_text : List (List ℕ) → List ℕ
known_text events = if length events == 0 then codes "none" ++ 10 ∷ [] else ended_events events

abbrev pub events_text : {Z : Type 0} → Result (Vec (List ℕ) Z) LookUpFault → List ℕ
events_text (Ok events) = known_text events.items
events_text (Err fault) = look_up_fault_text fault ++ 10 ∷ []

-- a line for each site, and the line `end`; or that the event is not known
abbrev pub ended_shares : List SiteShare → List ℕ
ended_shares rows = flat_map share_line rows ++ (codes "end" ++ 10 ∷ [])

abbrev pub shares_text : {Z : Type 0} → Result (Option (Vec SiteShare Z)) LookUpFault → List ℕ
shares_text (Ok None) = codes "unknown" ++ 10 ∷ []
shares_text (Ok (Some rows)) = ended_shares rows.items
shares_text (Err fault) = look_up_fault_text fault ++ 10 ∷ []

-- how many callers are served, how many have a request that is being stored, and how many wait for the next store
abbrev pub crowd_text : Crowd → List ℕ
crowd_text c = codes " callers " ++ decimal c.callers ++ codes " asking " ++ decimal c.asking ++ codes " waiting " ++ decimal c.waiting

-- which site it is, how many it counts, how long its history is and may become, what its callers do, and how many entries
-- are kept
abbrev pub status_text : SiteStatus → Crowd → ℕ → List ℕ
status_text s crowd reserve = site_status_text s ++ crowd_text crowd ++ reserve_text reserve ++ 10 ∷ []

-- which site it is, and how many it counts
abbrev pub site_text : SiteStatus → List ℕ
site_text s = codes "site " ++ decimal s.me ++ codes " of " ++ decimal s.sites ++ 10 ∷ []

-- the whole answer to a line, with its line breaks; nothing while a message comes
abbrev pub answer_text : OfficeAnswer → List ℕ
answer_text (answer.Reply answered) = reply_line answered
answer_text (answer.Spared spared) = spared_text spared
answer_text (answer.Exported result) = exported_text result
answer_text (answer.Imported result) = imported_text result
answer_text (answer.Found result) = found_text result
answer_text (answer.Listed result) = listed_text result
answer_text (answer.Events result) = events_text result
answer_text (answer.Shares result) = shares_text result
answer_text (answer.Status site_status crowd reserve) = status_text site_status crowd reserve
answer_text (answer.Site site_status) = site_text site_status
answer_text answer.Quiet = []
