-- What an open answers of a database that it does not read. (Our own.)
use Rattle.std.specs.Prelude.{◌≡◌, ◌≢◌, ◌⊎◌, ℕ, ℤ, pos, take, slice_get, nat_lt, IsSome, if◌then◌else◌, true, false, IsTrue, List, [], ◌∷◌, Option, Some, None, Result, OnOk, OnErr}
use Rattle.sqlite.specs.declared.types.Value.{Value}
use Rattle.sqlite.specs.declared.types.Value.TheVariants.{Int, Text}
use Rattle.sqlite.specs.Order.{Row, column}
use Rattle.sqlite.specs.State.{State, HasCleanDisk, IsUnchanged, KeepsCommit, Shown, FailsToQuery, IsTooLate}
use Rattle.sqlite.specs.Store.{Ghosts}
use Rattle.sqlite.specs.Tree.{Trees}
use Rattle.sqlite.specs.Effect.{IsDatabase}
use Rattle.sqlite.specs.Held.{Held, IsNew, state}
use Rattle.sqlite.specs.declared.error.Error.{Error}
use Rattle.sqlite.specs.declared.error.Error.TheVariants.{SqliteFailure}
use Rattle.sqlite.specs.declared.error.ErrorCode.TheVariants.{OutOfMemory, SystemIoFailure, DatabaseCorrupt, DiskFull, Closed}
use Rattle.plain_words.specs.Words.{◌>>=◌}
use Rattle.book_core.specs.Limits.{greatest_limit}
use Rattle.book_core.specs.declared.entry.Entry.{Entry}
use Rattle.history_keeper.specs.declared.meta.Meta.{Meta}
use Rattle.sql_records.specs.declared.fault.OpenFault.{OpenFault}
use Rattle.sql_records.specs.declared.fault.OpenFault.TheVariants.{NotOurs, OtherSchema, Damaged, Memory, Disk}
use Rattle.sql_records.specs.Rows.{number_within, site_in, sites_in, entry_of, rows_from_0, AreInOrder, AreWholeIn, IsDamagedAt, IsOfVersion, WantsForEntry}
use Rattle.sql_records.specs.declared.version.Version.{Version}
use Rattle.sql_records.specs.declared.version.Version.TheVariants.{Second}
use Rattle.sql_records.specs.Layout.{HasMetaAs, IsOurs, our_kind, version_number, HasOtherSchema, HasGoodMeta, HasNoMeta}
use Rattle.sql_records.specs.Faults.{HasDiskCause, IsUndoneForMemory}
use Rattle.sql_records.specs.Texts.{meta_select_text}
use Rattle.sql_records.specs.Held.{entries_tree, rows_in, history_in, LeavesNoMore}

abbrev pub int_in : Value → Option ℤ
int_in (Int n) = Some n
int_in _ = None

-- the numbers of a row of `meta`, where they are those of a site
unfoldable pub meta_in : Row → Option Meta
meta_in values = do
  me ← site_in (column values 3)
  sites ← sites_in (column values 4)
  limit ← number_within 1 greatest_limit (column values 5)
  if nat_lt me sites then Some (record { me = me; sites = sites; limit = limit }) else None

-- the row is of our kind, in this version, and has these numbers
pub record IsRowOf (read : Version) (meta : Meta) (values : Row) : Type 0 where
  pub key : column values 0 ≡ Int (pos 1)
  pub kind : column values 1 ≡ Text our_kind
  pub version : column values 2 ≡ Int (version_number read)
  pub numbers : meta_in values ≡ Some meta

-- the row is of another kind, has no version, or has no numbers of a site
abbrev pub IsForeignRow : Version → Row → Type 0
IsForeignRow read values =
    ((column values 0 ≢ Int (pos 1)) ⊎ (column values 1 ≢ Text our_kind))
    ⊎ ((int_in (column values 2) ≡ None) ⊎ ((column values 2 ≡ Int (version_number read)) × (meta_in values ≡ None)))

-- the row is of our kind, and of this version, which is another than the one that is read
abbrev pub IsOtherVersion : Version → ℤ → Row → Type 0
IsOtherVersion read version values = (column values 0 ≡ Int (pos 1)) × (column values 1 ≡ Text our_kind) × (column values 2 ≡ Int version)
    × (version ≢ version_number read)

-- what is at fault in a row of `meta`
abbrev pub IsRowFault : Version → Row → OpenFault → Type 0
IsRowFault read values NotOurs = IsForeignRow read values
IsRowFault read values (OtherSchema version) = IsOtherVersion read version values
IsRowFault read values (Damaged place) = ⊥
IsRowFault read values Memory = ⊥
IsRowFault read values Disk = ⊥

-- a query failed: the store wants memory, or the disk is at fault
abbrev pub IsStoreFault : State → State → OpenFault → Type 0
IsStoreFault old new NotOurs = ⊥
IsStoreFault old new (OtherSchema version) = ⊥
IsStoreFault old new (Damaged place) = ⊥
IsStoreFault old new Memory = IsUndoneForMemory old new
IsStoreFault old new Disk = HasDiskCause old new

-- what is at fault in the numbers of a database of ours
abbrev pub IsMetaFault : Version → State → State → OpenFault → Type 0
IsMetaFault read old new NotOurs = HasNoMeta read old.now.trees
IsMetaFault read old new (OtherSchema version) = HasOtherSchema read version old.now.trees
IsMetaFault read old new (Damaged place) = ⊥
IsMetaFault read old new Memory = IsUndoneForMemory old new
IsMetaFault read old new Disk = HasDiskCause old new

-- memory may be wanted for the row at this place: it has its place, has the columns of this version, and is an entry or may want memory for its
-- delta; those before it are the entries of theirs in this version
pub record IsWantedAt (read : Version) (place : ℕ) (rows : List Row) : Type 0 where
  pub before : AreWholeIn read 0 (take place rows)
  pub values : Row
  pub here : slice_get rows place ≡ Some values
  pub placed : column values 0 ≡ Int (pos place)
  pub version : IsOfVersion read values
  pub wants : IsSome (entry_of values) ⊎ WantsForEntry values

-- what is at fault in rows of entries, which are in an order of their places
abbrev pub AreRowsFault : Version → List Row → OpenFault → Type 0
AreRowsFault read rows NotOurs = ⊥
AreRowsFault read rows (OtherSchema version) = ⊥
AreRowsFault read rows (Damaged place) = IsDamagedAt read place rows
AreRowsFault read rows Memory = (place : ℕ) × IsWantedAt read place (rows_from_0 rows)
AreRowsFault read rows Disk = ⊥

-- the rows are one, of our kind and of this other version
abbrev pub AreOfVersion : Version → ℤ → List Row → Type 0
AreOfVersion read version rows = (values : Row) × (rows ≡ values ∷ []) × IsOtherVersion read version values

-- what these rows are told as
abbrev pub AreTold : Version → List Row → OpenFault → Type 0
AreTold read rows NotOurs = (version : ℤ) → ¬ AreOfVersion read version rows
AreTold read rows (OtherSchema version) = AreOfVersion read version rows
AreTold read rows fault = ⊥

-- what this error is told as: want of memory, a failure of the store, or that there is nothing to select from
abbrev pub foreign_told : Error → OpenFault
foreign_told (SqliteFailure OutOfMemory) = Memory
foreign_told (SqliteFailure SystemIoFailure) = Disk
foreign_told (SqliteFailure DatabaseCorrupt) = Disk
foreign_told (SqliteFailure DiskFull) = Disk
foreign_told (SqliteFailure Closed) = Disk
foreign_told _ = NotOurs

module _ {S : Type 0} (g : Ghosts S) (conn : Held S) where
  -- in a transaction the select on `meta` shows these rows
  pub record ShowsMeta (rows : List Row) : Type 0 where
    pub after : Held S
    pub clean : HasCleanDisk (state g after)
    pub shows : Shown meta_select_text [] (state g (record conn { in_transaction = true })) (state g after) rows

  -- in a transaction the select on `meta` was answered with this error
  pub record FailsToShowMeta (e : Error) : Type 0 where
    pub after : Held S
    pub clean : HasCleanDisk (state g after)
    pub fails : FailsToQuery meta_select_text [] (state g (record conn { in_transaction = true })) (state g after) e
        ⊎ IsTooLate meta_select_text [] (state g (record conn { in_transaction = true })) (state g after) e

  -- why a database is not read in this version whose tables are not ours
  abbrev pub IsForeignCauseAs : Version → OpenFault → Type 0
  IsForeignCauseAs read fault = ((rows : List Row) × ShowsMeta rows × AreTold read rows fault) ⊎ ((e : Error) × FailsToShowMeta e × (fault ≡ foreign_told e))

  -- the same in the version that is written here
  abbrev pub IsForeignCause : OpenFault → Type 0
  IsForeignCause fault = IsForeignCauseAs Second fault

-- what a database answers whose tables are not ours
abbrev pub IsForeignFault : Version → OpenFault → Type 0
IsForeignFault read (OtherSchema version) = version ≢ version_number read
IsForeignFault read (Damaged place) = ⊥
IsForeignFault read _ = Unit {0}

-- all rows of a database read as entries of this version, and these are theirs
abbrev pub AreReadFrom : Version → Trees → List Entry → Type 0
AreReadFrom read db entries = AreWholeIn read 0 (rows_in db) × (entries ≡ history_in db)

-- the entries and the numbers of a site are those of records of this version
pub record IsReadAs (read : Version) (db : Trees) (entries : List Entry) (meta : Meta) : Type 0 where
  pub entries_are : AreReadFrom read db entries
  pub meta_is : HasMetaAs read meta db

-- the entries were not read: a query failed, or nothing changed and something is at fault in the rows
abbrev pub IsHistoryFault : Version → State → State → OpenFault → Type 0
IsHistoryFault read old new fault =
    IsStoreFault old new fault ⊎ (IsUnchanged old new × ((rows : List Row) × AreInOrder (old.now.trees entries_tree) rows × AreRowsFault read rows fault))

-- what is at fault in the rows of a database, in an order of their places
abbrev pub IsEntriesFault : Version → Trees → OpenFault → Type 0
IsEntriesFault read db fault = HasGoodMeta read db × ((rows : List Row) × AreInOrder (db entries_tree) rows × AreRowsFault read rows fault)

-- what is at fault in a database of ours, in this order: the numbers, and then the rows
abbrev pub IsOurFault : Version → State → State → OpenFault → Type 0
IsOurFault read old new (Damaged place) = IsEntriesFault read old.now.trees (Damaged place)
IsOurFault read old new Memory = IsUndoneForMemory old new ⊎ (IsUnchanged old new × IsEntriesFault read old.now.trees Memory)
IsOurFault read old new fault = IsMetaFault read old new fault

-- what is at fault in a database that is read in this version
abbrev pub IsReadFault : Version → State → State → OpenFault → Type 0
IsReadFault read old new fault = ((¬ IsOurs old.now.schema) × IsForeignFault read fault) ⊎ (IsOurs old.now.schema × IsOurFault read old new fault)

-- the same in the version that is written here
abbrev pub IsOpenFault : State → State → OpenFault → Type 0
IsOpenFault old new fault = IsReadFault Second old new fault

-- The store came back, and over it a new connection, with a database that a stop may leave; an open found this at
-- fault in it. What such a database holds tells its schema.
pub record IsFoundAfterStop {S : Type 0} (g : Ghosts S) (conn : Held S) (fault : OpenFault) : Type 0 where
  pub again : Held S
  pub is_new : IsNew again
  pub after : Held S
  pub found : HasCleanDisk (state g after) → (state g conn).may_leave (state g again).now.trees × IsDatabase (state g again).now
      × IsOpenFault (state g again) (state g after) fault
  pub foreign : ¬ IsOurs again.schema → (last : Held S) × (HasCleanDisk (state g last) → IsForeignCause g again fault)

-- the connection shows what it showed, in the transaction and the savepoints in which it was
abbrev pub IsLeft : State → State → Type 0
IsLeft old new = (new.now ≡ old.now) × (new.in_transaction ≡ old.in_transaction) × (new.marks ≡ old.marks)

-- the connection shows what was committed, with no transaction and no savepoint
abbrev pub IsUndone : State → State → Type 0
IsUndone old new = (new.now ≡ old.committed) × (new.in_transaction ≡ false) × (new.marks ≡ [])

-- Nothing was committed. The connection shows what it showed, or its transaction was undone.
pub record IsLeftOrUndone (old new : State) : Type 0 where
  pub kept : KeepsCommit old new
  pub shows : IsTrue new.is_open → IsLeft old new ⊎ IsUndone old new

-- A call that only reads. Where the disk is clean after it, it was clean before, and a crash leaves nothing that it could not leave
-- before; an answer changed nothing, and an error committed nothing.
pub record Reads {S T F : Type 0} (g : Ghosts S) (old new : Held S) (result : Result T F) : Type 0 where
  pub limit : new.step_limit ≡ old.step_limit
  pub clean : HasCleanDisk (state g new) → HasCleanDisk (state g old)
  pub left : HasCleanDisk (state g new) → LeavesNoMore (state g old) (state g new)
  pub same : HasCleanDisk (state g new) → OnOk result (IsUnchanged (state g old) (state g new))
  pub undone : HasCleanDisk (state g new) → OnErr result (IsLeftOrUndone (state g old) (state g new))

-- what may be at fault in the next open after a stop: memory or the disk
abbrev pub IsAfterStop : Option OpenFault → Type 0
IsAfterStop None = Unit {0}
IsAfterStop (Some Memory) = Unit {0}
IsAfterStop (Some Disk) = Unit {0}
IsAfterStop (Some fault) = ⊥
