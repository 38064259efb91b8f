-- What a session over the records of a site comes to. (Our own.)
use Rattle.std.specs.Prelude.{◌≡◌, ◌⊎◌, ℕ, false, true, List, Option, Result, Ok, Err}
use Rattle.std.specs.Io.KnownBytes.{Keeps}
use Rattle.plain_words.specs.Writing.{AppendsFront}
use Rattle.sqlite.specs.Store.{Ghosts}
use Rattle.sqlite.specs.State.{HasCleanDisk}
use Rattle.sqlite.specs.Held.{Held, state}
use Rattle.request_ledger.specs.declared.request.Request.{Request}
use Rattle.history_keeper.specs.declared.meta.Meta.{Meta}
use Rattle.sql_records.specs.Held.{RecordsView, IsOf, IsTrusted, LeavesSite, MayLeave, MayLeaveIn, kept_in}
use Rattle.sql_records.specs.Layout.{HasMeta}
use Rattle.site_desk.specs.declared.fault.AskFault.TheVariants as ask
use Rattle.history_keeper.specs.Keeping.{Keeps as KeepsList, LeavesEither}
use Rattle.site_desk.specs.Calls.{Keeping}
use Rattle.site_desk.specs.SiteView.{SiteView, entry_in}
use Rattle.desk_lines.specs.declared.line.Line.TheVariants.{Ask}
use Rattle.desk_lines.specs.declared.answered.Answered.TheVariants.{Refused}
use Rattle.session_server.specs.BookStep.{BookStep, IsLeftAt}
use Rattle.session_server.specs.Session.{Talked, WasAnswered}
use Rattle.session_server.specs.declared.fault.Ended.{Ended}
use Rattle.session_server.specs.declared.fault.TalkFault.{TalkFault}
use Rattle.session_server.specs.declared.fault.TalkFault.TheVariants as talk
use Rattle.operator_cli.specs.declared.status.Status.{Status}
use Rattle.operator_cli.specs.declared.status.Status.TheVariants.{Done, Failed}
use Rattle.operator_cli.specs.declared.command_fault.CommandFault.{CommandFault}
use Rattle.operator_cli.specs.declared.command_fault.CommandFault.TheVariants as fault
use Rattle.operator_cli.specs.Opened.{FailsAsIllegal, HoldsOnly, IsBookOf}
use Rattle.operator_cli.specs.CommandReply.{command_fault_line}

abbrev pub of_talk_fault : TalkFault → CommandFault
of_talk_fault talk.Read = fault.Read
of_talk_fault talk.Write = fault.Write
of_talk_fault talk.TooLong = fault.TooManyLines
of_talk_fault talk.LineTooLong = fault.LineTooLong
of_talk_fault talk.Memory = fault.Memory
of_talk_fault talk.NotStarted = fault.NotStarted

-- what a session that ended so comes to
abbrev pub status_of : Result Ended TalkFault → Result Status CommandFault
status_of (Ok ended) = Ok Done
status_of (Err talk_fault) = Err (of_talk_fault talk_fault)

-- The status, and what was told: a fault, also one of the last flush, is named.
abbrev pub IsStatusTold : Result Status CommandFault → Option (List ℕ) → Option (List ℕ) → Status → Type 0
IsStatusTold (Ok came) old_err new_err status = ((status ≡ came) × Keeps old_err new_err)
    ⊎ ((status ≡ Failed) × AppendsFront old_err new_err (command_fault_line fault.Write))
IsStatusTold (Err f) old_err new_err status = (status ≡ Failed) × AppendsFront old_err new_err (command_fault_line f)

-- as far as it is to be trusted, the keeper of a book holds its history, and a crash leaves that and nothing else
abbrev pub KeepsHistory : {K : Type 0} → Keeping K → SiteView K → Type 0
KeepsHistory k site = k.is_trusted site.keeper → KeepsList site.book.history (k.kept site.keeper) (k.may_leave site.keeper)

-- A session over a book in any store: it answered the lines of the input, and how it ended was told. Unless the book is closed behind it, the
-- store holds its history; an open book was closed by a line that was answered `store`, and a crash leaves the history with the entry of that
-- request or without. The store is of the same site, and to be trusted only if it was.
pub record BookRan {K : Type 0} (k : Keeping K) (book behind : SiteView K) (input old_out new_out old_err new_err : Option (List ℕ)) (status : Status) :
    Type 0 where
  pub came : Result Ended TalkFault
  pub talked : Talked (BookStep k) input old_out new_out book behind came
  pub told : IsStatusTold (status_of came) old_err new_err status
  pub holds : behind.closed ≡ false → KeepsHistory k behind
  pub stopped : book.closed ≡ false → behind.closed ≡ true
      → (number : ℕ) × (request : Request) × WasAnswered talked.lines talked.answers (Ask number request) (Refused ask.Store) × IsLeftAt k behind number request
  pub site : k.is_trusted behind.keeper → (meta : Meta) → k.is_of book.keeper meta → k.is_of behind.keeper meta
  pub trusted : k.is_trusted behind.keeper → k.is_trusted book.keeper

-- what records show as a keeper
abbrev pub records : {S : Type 0} → Ghosts S → Keeping (RecordsView S)
records g = record { failed = λ k. k.failures; is_trusted = IsTrusted g; kept = kept_in g; may_leave = MayLeave g; is_of = IsOf g }

-- A session over records: their book, open as it is when they are opened, answered the lines of the input, and its connection comes back. Unless it
-- is closed behind them, the records hold its history, which a stop leaves; where it is closed, a line that asked something was answered `store`,
-- and a stop leaves that history with that request's entry at its end or without. Whatever a stop leaves is of the same site.
pub record SessionRan {S : Type 0} (g : Ghosts S) (conn : Held S) (input old_out new_out old_err new_err : Option (List ℕ)) (after : Held S)
    (status : Status) : Type 0 where
  pub book : SiteView (RecordsView S)
  pub behind : SiteView (RecordsView S)
  pub opened : IsBookOf (state g conn).now.trees book
  pub came : Result Ended TalkFault
  pub talked : Talked (BookStep (records g)) input old_out new_out book behind came
  pub told : IsStatusTold (status_of came) old_err new_err status
  pub back : behind.keeper.conn ≡ after
  pub holds : behind.closed ≡ false → HoldsOnly (state g after) behind.book.history
  pub stopped : behind.closed ≡ true
      → (number : ℕ) × (request : Request) × WasAnswered talked.lines talked.answers (Ask number request) (Refused ask.Store)
      × LeavesEither behind.book.history (entry_in behind.book number request) (MayLeaveIn (state g after))
  pub site : (meta : Meta) → HasMeta meta (state g conn).now.trees → LeavesSite (state g after) meta

-- Where the disk is clean after it, a session ran over the records, or their history is not legal and nothing was answered.
abbrev pub RanOrFailed : {S : Type 0} → Ghosts S → Held S → Option (List ℕ) → Option (List ℕ) → Option (List ℕ) → Option (List ℕ) → Option (List ℕ)
    → Status → Held S → Type 0
RanOrFailed g conn input old_out new_out old_err new_err status after = HasCleanDisk (state g after)
    → FailsAsIllegal g conn after old_out new_out old_err new_err status ⊎ SessionRan g conn input old_out new_out old_err new_err after status
