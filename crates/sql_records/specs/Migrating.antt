-- What raising the version of the records leaves, and why it is not raised. (Our own.)
use Rattle.std.specs.Prelude.{◌≡◌, ◌≢◌, ◌⊎◌, [], Bool, true, false, Some, Result, Err, IsTrue, IfErr, OnOk, OnErr, length}
use Rattle.sqlite.specs.Store.{Ghosts}
use Rattle.sqlite.specs.Tree.{Trees}
use Rattle.sqlite.specs.State.{State, Executes, HasCleanDisk, IsUnchanged}
use Rattle.sqlite.specs.Held.{Held, state}
use Rattle.sqlite.specs.declared.error.Error.{Error}
use Rattle.sqlite.specs.declared.error.Error.TheVariants.{SqliteFailure}
use Rattle.sqlite.specs.declared.error.ErrorCode.TheVariants.{OutOfMemory}
use Rattle.book_core.specs.declared.plan.ReplayFault.{ReplayFault}
use Rattle.book_core.specs.declared.plan.ReplayFault.TheVariants as replay
use Rattle.book_core.specs.Legal.{IsLegal}
use Rattle.book_core.specs.Replay.{IsReplayFault}
use Rattle.history_keeper.specs.declared.meta.Meta.{Meta}
use Rattle.sql_records.specs.declared.version.Version.{Version}
use Rattle.sql_records.specs.declared.version.Version.TheVariants.{First, Second}
use Rattle.sql_records.specs.declared.fault.OpenFault.{OpenFault}
use Rattle.sql_records.specs.declared.fault.OpenFault.TheVariants as opening
use Rattle.sql_records.specs.declared.fault.MigrateFault.{MigrateFault}
use Rattle.sql_records.specs.declared.fault.MigrateFault.TheVariants.{NotOurs, OtherSchema, Nothing, Damaged, Memory, Disk}
use Rattle.sql_records.specs.Texts.{update_text}
use Rattle.sql_records.specs.Faults.{HasDiskCause, IsUndoneForMemory}
use Rattle.history_keeper.specs.Meta.{office_of}
use Rattle.history_keeper.specs.Keeping.{LeavesOnly}
use Rattle.sql_records.specs.Layout.{IsOurs, version_number, HasMetaAs, HasOtherSchema, HasNoMeta, AreNumbers}
use Rattle.sql_records.specs.Rows.{AreWholeIn}
use Rattle.sql_records.specs.Held.{IsAtRest, LeavesNoMore, LeavesSite, MayLeaveIn, entries_tree, rows_in, history_in, opened_in}
use Rattle.sql_records.specs.Opening.{IsEntriesFault, IsForeignCauseAs}

-- ---- what is left

-- a connection that is open still shows what it showed, all that it showed is committed as it was, and it is in a transaction only if it was in one
abbrev pub IsAsBefore : State → State → Type 0
IsAsBefore old new = IsTrue new.is_open → (new.now ≡ old.now) × (new.committed ≡ old.committed) × (new.in_transaction ≡ old.in_transaction)

-- the numbers that were there under the first version are there under the second, and the entries are as they were
pub record IsMigrated (old new : Trees) : Type 0 where
  pub meta : Meta
  pub was : HasMetaAs First meta old
  pub is : HasMetaAs Second meta new
  pub entries : new entries_tree ≡ old entries_tree

-- ---- what may be migrated

-- the records of a site in this version, of which each row reads
pub record AreRecordsIn (version : Version) (meta : Meta) (db : Trees) : Type 0 where
  pub numbers : HasMetaAs version meta db
  pub within : AreNumbers meta
  pub whole : AreWholeIn version 0 (rows_in db)

-- they are of the first version, and their history is legal
pub record IsLegalFirst (db : Trees) : Type 0 where
  pub meta : Meta
  pub first : AreRecordsIn First meta db
  pub legal : IsLegal (office_of meta) (history_in db)

-- they are of the first version, but their history is not legal, or memory was wanted for it
pub record IsNoHistory (db : Trees) (fault : ReplayFault) : Type 0 where
  pub meta : Meta
  pub first : AreRecordsIn First meta db
  pub found : IsReplayFault (office_of meta) (history_in db) fault

-- ---- what a stop leaves

-- each database that a stop may leave is one that it could leave before, or, where the history is legal, the migrated one
abbrev pub LeavesAsBeforeOrMigrated : State → State → Type 0
LeavesAsBeforeOrMigrated old new = (db : Trees) → new.may_leave db → old.may_leave db ⊎ (IsLegalFirst old.now.trees × IsMigrated old.now.trees db)

-- each database that a stop may leave is this one, or, where its history is legal, this one migrated
abbrev pub LeavesItOrMigrated : Trees → State → Type 0
LeavesItOrMigrated trees s = (db : Trees) → s.may_leave db → (db ≡ trees) ⊎ (IsLegalFirst trees × IsMigrated trees db)

-- Each database that a stop may leave has the records of the first version that were there, in that version or in the
-- second, and of either the same entries are read.
abbrev pub LeavesSameEntries : Trees → State → Type 0
LeavesSameEntries trees s = (meta : Meta) → AreRecordsIn First meta trees
    → (db : Trees) → s.may_leave db → (AreRecordsIn First meta db ⊎ AreRecordsIn Second meta db) × (opened_in db ≡ Some (history_in trees))

-- ---- why nothing is migrated

-- what a fault of reading the first version is told as, where the tables are ours or not
abbrev pub IsToldAs : Bool → OpenFault → MigrateFault → Type 0
IsToldAs ours opening.NotOurs fault = fault ≡ NotOurs
IsToldAs true (opening.OtherSchema version) fault = ((version ≡ version_number Second) × (fault ≡ Nothing))
    ⊎ ((version ≢ version_number Second) × (fault ≡ OtherSchema version))
IsToldAs false (opening.OtherSchema version) fault = ((version ≡ version_number Second) × (fault ≡ NotOurs))
    ⊎ ((version ≢ version_number Second) × (fault ≡ OtherSchema version))
IsToldAs ours (opening.Damaged place) fault = fault ≡ Damaged place
IsToldAs ours opening.Memory fault = fault ≡ Memory
IsToldAs ours opening.Disk fault = fault ≡ Disk

abbrev pub of_replay : ReplayFault → MigrateFault
of_replay (replay.IllegalAt place) = Damaged place
of_replay replay.Memory = Memory

-- what is at fault in records of ours, as they are read
abbrev pub IsUnread : State → State → MigrateFault → Type 0
IsUnread old new NotOurs = HasNoMeta First old.now.trees
IsUnread old new (OtherSchema version) = (version ≢ version_number Second) × HasOtherSchema First version old.now.trees
IsUnread old new Nothing = HasOtherSchema First (version_number Second) old.now.trees
IsUnread old new (Damaged place) = IsEntriesFault First old.now.trees (opening.Damaged place) ⊎ IsNoHistory old.now.trees (replay.IllegalAt place)
IsUnread old new Memory = IsUndoneForMemory old new
    ⊎ (IsUnchanged old new × (IsEntriesFault First old.now.trees opening.Memory ⊎ IsNoHistory old.now.trees replay.Memory))
IsUnread old new Disk = HasDiskCause old new

module _ {S : Type 0} (g : Ghosts S) (conn : Held S) where
  -- why a database is not migrated whose tables are not ours
  abbrev pub IsForeign : MigrateFault → Type 0
  IsForeign fault = (¬ IsOurs conn.schema) × ((cause : OpenFault) × IsForeignCauseAs g conn First cause × IsToldAs false cause fault)

  module _ (after : Held S) where
    -- why records are not migrated, before anything is written: a transaction is open, the tables are not ours, or what is read is at fault
    abbrev pub IsUnfit : MigrateFault → Type 0
    IsUnfit fault = ((conn.in_transaction ≡ true) × (fault ≡ Disk))
        ⊎ ((conn.in_transaction ≡ false) × (IsForeign fault ⊎ (IsOurs conn.schema × IsUnread (state g conn) (state g after) fault)))

    -- the UPDATE of records that were read was answered with this error
    abbrev pub FailsToSet : Error → Type 0
    FailsToSet e = (mid : Held S) × IsUnchanged (state g conn) (state g mid) × Executes update_text [] (state g mid) (state g after) (Err e)

    -- the UPDATE failed, for want of memory or for another cause
    abbrev pub IsUnset : MigrateFault → Type 0
    IsUnset Memory = FailsToSet (SqliteFailure OutOfMemory)
    IsUnset Disk = (e : Error) × (e ≢ SqliteFailure OutOfMemory) × FailsToSet e
    IsUnset fault = ⊥

    -- why records are not migrated
    abbrev pub IsMigrateFault : MigrateFault → Type 0
    IsMigrateFault fault = IsUnfit fault ⊎ (IsOurs conn.schema × IsUnset fault)

-- What a call that migrates does: the records get the second version, or this is why not. A stop leaves what it could leave before, or the
-- same entries in the second version.
pub record MigrateCall {S : Type 0} (g : Ghosts S) (old new : Held S) (result : Result (Unit {0}) MigrateFault) : Type 0 where
  pub busy : old.in_transaction ≡ true → (result ≡ Err Disk) × (new ≡ old)
  pub schema : OnOk result (IsOurs old.schema)
  pub first : HasCleanDisk (state g new) → OnOk result (IsLegalFirst (state g old).now.trees)
  pub set : HasCleanDisk (state g new) → OnOk result (IsMigrated (state g old).now.trees (state g new).now.trees)
  pub rest : HasCleanDisk (state g new) → OnOk result (IsAtRest (state g new) (length (history_in (state g old).now.trees)))
  pub leaves : HasCleanDisk (state g new) → OnOk result (LeavesOnly (history_in (state g old).now.trees) (MayLeaveIn (state g new)))
  pub site : HasCleanDisk (state g new) → OnOk result ((meta : Meta) → HasMetaAs First meta (state g old).now.trees → LeavesSite (state g new) meta)
  pub crash : HasCleanDisk (state g new) → LeavesAsBeforeOrMigrated (state g old) (state g new)
  pub either : old.in_transaction ≡ false → IsTrue (state g old).is_open → HasCleanDisk (state g new) → LeavesItOrMigrated (state g old).now.trees (state g new)
  pub reads : old.in_transaction ≡ false → IsTrue (state g old).is_open → HasCleanDisk (state g new) → LeavesSameEntries (state g old).now.trees (state g new)
  pub refused : HasCleanDisk (state g new) → IfErr result (λ fault. fault ≢ Memory → fault ≢ Disk → LeavesNoMore (state g old) (state g new))
  pub as_before : HasCleanDisk (state g new) → OnErr result (IsAsBefore (state g old) (state g new))
  pub fault : HasCleanDisk (state g new) → IfErr result (IsMigrateFault g old new)
  pub limit : new.step_limit ≡ old.step_limit
  pub clean : HasCleanDisk (state g new) → HasCleanDisk (state g old)
