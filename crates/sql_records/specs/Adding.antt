-- Why several entries are not known to be kept. (Our own.)
use Rattle.std.specs.Prelude.{◌≡◌, ◌≢◌, ◌⊎◌, ◌≤◌, ◌+◌, ℕ, List, [], ◌∷◌, length, take, slice_get, true, Some, Result, Ok, Err}
use Rattle.book_core.specs.declared.entry.Entry.{Entry}
use Rattle.book_core.specs.History.{delta_of}
use Rattle.delta_wire.specs.Grammar.{delta_text}
use Rattle.sqlite.specs.Store.{Ghosts}
use Rattle.sqlite.specs.Order.{Row}
use Rattle.sqlite.specs.State.{HasCleanDisk, ExecutesInside}
use Rattle.sqlite.specs.Steps.{FailsToCommit}
use Rattle.sqlite.specs.Held.{Held, state}
use Rattle.sqlite.specs.declared.error.Error.{Error}
use Rattle.sqlite.specs.declared.error.Error.TheVariants.{SqliteFailure}
use Rattle.sqlite.specs.declared.error.ErrorCode.TheVariants.{OutOfMemory}
use Rattle.history_keeper.specs.declared.keeper.KeepFault.{KeepFault}
use Rattle.history_keeper.specs.declared.keeper.KeepFault.TheVariants.{Memory, Disk, Shut}
use Rattle.sql_records.specs.Faults.{told}
use Rattle.sql_records.specs.Held.{RecordsView, kept_in, most}
use Rattle.sql_records.specs.Making.{RunInTurn}
use Rattle.sql_records.specs.Rows.{HasRoom, columns_of}
use Rattle.sql_records.specs.Texts.{insert_text}

-- the INSERTs of these entries, the first at this place, each with its parameters
abbrev pub inserting : ℕ → List Entry → List (List ℕ × Row)
inserting place [] = []
inserting place (entry ∷ more) = (insert_text, columns_of place entry) ∷ inserting (place + 1) more

module _ {S : Type 0} (g : Ghosts S) where
  -- in a transaction the INSERT of the entry at this place was answered so
  abbrev pub RunsInsert : {T : Type 0} → ℕ → Entry → Held S → Held S → Result T Error → Type 0
  RunsInsert place entry before after (Ok _) = RunInTurn g (inserting place (entry ∷ [])) before after
  RunsInsert place entry before after (Err e) = ExecutesInside 0 insert_text (columns_of place entry) (state g before) (state g after) (Err e)

  -- as of one entry alone: nothing was done, or the INSERT was answered with want of memory; no room for the entry, or the INSERT failed
  -- for another cause
  abbrev pub FailsToPut : ℕ → Entry → Held S → Held S → KeepFault → Type 0
  FailsToPut place entry before after Memory = (after ≡ before)
      ⊎ ExecutesInside 0 insert_text (columns_of place entry) (state g before) (state g after) (Err (SqliteFailure OutOfMemory))
  FailsToPut place entry before after Disk =
      ((¬ HasRoom entry (length (delta_text (delta_of entry)))) ⊎ (most ≤ place))
      ⊎ ((e : Error) × (e ≢ SqliteFailure OutOfMemory) × ExecutesInside 0 insert_text (columns_of place entry) (state g before) (state g after) (Err e))
  FailsToPut place entry before after Shut = ⊥

  -- those before one were run in turn, and that one was not
  pub record FailsToPutAll (place : ℕ) (entries : List Entry) (before after : Held S) (fault : KeepFault) : Type 0 where
    pub done : ℕ
    pub entry : Entry
    pub is : slice_get entries done ≡ Some entry
    pub mid : Held S
    pub runs : RunInTurn g (inserting place (take done entries)) before mid
    pub fails : FailsToPut (place + done) entry mid after fault

  -- in a transaction the entry was added, or all of them, or it was not for this cause
  abbrev pub Puts : {T : Type 0} → ℕ → Entry → Held S → Held S → Result T KeepFault → Type 0
  Puts place entry before after (Ok _) = RunInTurn g (inserting place (entry ∷ [])) before after
  Puts place entry before after (Err fault) = FailsToPut place entry before after fault

  abbrev pub PutsAll : {T : Type 0} → ℕ → List Entry → Held S → Held S → Result T KeepFault → Type 0
  PutsAll place entries before after (Ok _) = RunInTurn g (inserting place entries) before after
  PutsAll place entries before after (Err fault) = FailsToPutAll place entries before after fault

  -- all were run in turn, and the commit was answered with an error that is told so
  pub record FailsAtCommit (place : ℕ) (entries : List Entry) (begun after : Held S) (fault : KeepFault) : Type 0 where
    pub filled : Held S
    pub runs : RunInTurn g (inserting place entries) begun filled
    pub error : Error
    pub commit : FailsToCommit (state g filled) (state g after) error
    pub told_so : fault ≡ told Memory Disk error

module _ {S : Type 0} (g : Ghosts S) (old new : RecordsView S) (entries : List Entry) where
  -- one of the entries was not added to the transaction, or its commit failed
  abbrev pub FailsToKeep : KeepFault → Type 0
  FailsToKeep fault =
      ((ended : Held S) × HasCleanDisk (state g ended)
      × FailsToPutAll g (length (kept_in g old)) entries (record old.conn { in_transaction = true }) ended fault)
      ⊎ FailsAtCommit g (length (kept_in g old)) entries (record old.conn { in_transaction = true }) new.conn fault

  -- that, or there is no room for more
  abbrev pub IsKeepAllFault : KeepFault → Type 0
  IsKeepAllFault Memory = FailsToKeep Memory
  IsKeepAllFault Disk = (most ≤ length (kept_in g old)) ⊎ FailsToKeep Disk
  IsKeepAllFault Shut = old.failures ≢ 0
