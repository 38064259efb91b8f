-- What a command over records comes to, and what is printed of it. (Our own.)
use Rattle.std.specs.Prelude.{◌≡◌, ◌⊎◌, ⊤, ℕ, List, [], ◌∷◌, ◌++◌, Option, Result, Ok, Err, OnOk}
use Rattle.std.specs.List.{flat_map}
use Rattle.std.specs.Io.KnownBytes.{Appends, Keeps}
use Rattle.plain_words.specs.Writing.{AppendsFront}
use Rattle.delta_wire.specs.Grammar.{IsMessage, message_text}
use Rattle.history_keeper.specs.declared.lookup.Listed.{Listed}
use Rattle.site_desk.specs.declared.answer.SiteShare.{SiteShare}
use Rattle.live_office.specs.RecordLines.{event_line, found_line, row_line, share_line, site_status_text}
use Rattle.operator_cli.specs.declared.outcome.Outcome.{Outcome}
use Rattle.operator_cli.specs.declared.outcome.Outcome.TheVariants.{Tells, Sends, Shows, Lists, Knows, Splits, SiteStatusIs, Fails}
use Rattle.operator_cli.specs.declared.status.Status.{Status}
use Rattle.operator_cli.specs.declared.status.Status.TheVariants.{Done, Failed}
use Rattle.operator_cli.specs.declared.command_fault.CommandFault.{CommandFault}
use Rattle.operator_cli.specs.declared.command_fault.CommandFault.TheVariants as fault
use Rattle.operator_cli.specs.declared.told.CommandReply.TheVariants.{NotFound}
use Rattle.operator_cli.specs.CommandReply.{command_fault_line, told_line, told_status}

-- the rows of a list, or that there are none
abbrev pub list_text : List Listed → List ℕ
list_text [] = told_line NotFound
list_text (row ∷ rows) = flat_map row_line (row ∷ rows)

abbrev pub list_status : List Listed → Status
list_status [] = told_status NotFound
list_status (row ∷ rows) = Done

-- the events that are known, or that there are none
abbrev pub known_text : List (List ℕ) → List ℕ
known_text [] = told_line NotFound
known_text (event ∷ events) = flat_map event_line (event ∷ events)

abbrev pub known_status : List (List ℕ) → Status
known_status [] = told_status NotFound
known_status (event ∷ events) = Done

-- the text of an outcome, and the status that goes with it
abbrev pub outcome_text : Outcome → List ℕ
outcome_text (Tells told) = told_line told
outcome_text (Sends message) = message_text message
outcome_text (Shows found) = found_line found.place found.reply
outcome_text (Lists rows) = list_text rows.items
outcome_text (Knows events) = known_text events.items
outcome_text (Splits rows) = flat_map share_line rows.items
outcome_text (SiteStatusIs site_status) = site_status_text site_status ++ 10 ∷ []
outcome_text (Fails cause) = []

abbrev pub outcome_status : Outcome → Status
outcome_status (Tells told) = told_status told
outcome_status (Sends message) = Done
outcome_status (Shows found) = Done
outcome_status (Lists rows) = list_status rows.items
outcome_status (Knows events) = known_status events.items
outcome_status (Splits rows) = Done
outcome_status (SiteStatusIs site_status) = Done
outcome_status (Fails cause) = Failed

-- what is printed whole is read back
abbrev pub IsReadBack : Outcome → Type 0
IsReadBack (Sends message) = IsMessage message
IsReadBack _ = ⊤

-- a text went out whole, with its status; or a front of it, where the writer failed
abbrev pub WritesAs : List ℕ → Status → Option (List ℕ) → Option (List ℕ) → Result Status CommandFault → Type 0
WritesAs text status old_out new_out (Ok came) = Appends old_out new_out text × (came ≡ status)
WritesAs text status old_out new_out (Err cause) = AppendsFront old_out new_out text × (cause ≡ fault.Write)

-- so did an outcome; of what ended a command early nothing goes out
abbrev pub IsWritten : Outcome → Option (List ℕ) → Option (List ℕ) → Result Status CommandFault → Type 0
IsWritten (Fails cause) old_out new_out came = Keeps old_out new_out × (came ≡ Err cause)
IsWritten outcome old_out new_out came = WritesAs (outcome_text outcome) (outcome_status outcome) old_out new_out came × OnOk came (IsReadBack outcome)

-- what ended a command early is told on the second writer, with status 3
pub record IsFailed (cause : CommandFault) (old_err new_err : Option (List ℕ)) (status : Status) : Type 0 where
  pub told : AppendsFront old_err new_err (command_fault_line cause)
  pub failed : status ≡ Failed

-- The whole text went out, with its status, and nothing else; or a front of it, and that the writer failed is told. Of what ended the
-- command early nothing went out, and it is told.
abbrev pub IsPrinted : Outcome → Option (List ℕ) → Option (List ℕ) → Option (List ℕ) → Option (List ℕ) → Status → Type 0
IsPrinted (Fails cause) old_out new_out old_err new_err status = Keeps old_out new_out × IsFailed cause old_err new_err status
IsPrinted outcome old_out new_out old_err new_err status =
    (Appends old_out new_out (outcome_text outcome) × Keeps old_err new_err × (status ≡ outcome_status outcome) × IsReadBack outcome)
    ⊎ (AppendsFront old_out new_out (outcome_text outcome) × IsFailed fault.Write old_err new_err status)

-- a command came to an outcome of this kind, which was printed
pub record Ends (Came : Outcome → Type 0) (old_out new_out old_err new_err : Option (List ℕ)) (status : Status) : Type 0 where
  pub outcome : Outcome
  pub came : Came outcome
  pub printed : IsPrinted outcome old_out new_out old_err new_err status
