-- What the records hold, and what a stop may leave of them. (Our own.)
use Rattle.std.specs.Prelude.{◌≡◌, ◌≢◌, ◌⊎◌, ◌≤◌, ◌^◌, ◌+◌, ℕ, Err, false, true, List, [], ◌++◌, length, map, Option, Some, Result, OnOk, IsTrue, refl}
use Rattle.std.specs.Coded.{Coded, code_by, coded×, coded_ℕ}
use Rattle.book_core.specs.declared.entry.Entry.{Entry}
use Rattle.sqlite.specs.Store.{Ghosts}
use Rattle.sqlite.specs.Order.{Row}
use Rattle.sqlite.specs.Tree.{Trees}
use Rattle.sqlite.specs.Schema.{Schema}
use Rattle.sqlite.specs.Effect.{Database, IsDatabase}
use Rattle.sqlite_catalog.specs.Listing.{IsSound}
use Rattle.sqlite.specs.State.{State, HasCleanDisk, Executes}
use Rattle.sqlite.specs.Held.{Held, held_code, state}
use Rattle.sqlite.specs.declared.error.Error.{Error}
use Rattle.sqlite.specs.declared.error.Error.TheVariants.{SqliteFailure}
use Rattle.sqlite.specs.declared.error.ErrorCode.TheVariants.{OutOfMemory}
use Rattle.book_core.specs.History.{delta_of}
use Rattle.delta_wire.specs.Grammar.{delta_text}
use Rattle.history_keeper.specs.declared.keeper.KeepFault.{KeepFault}
use Rattle.history_keeper.specs.declared.keeper.KeepFault.TheVariants.{Memory, Disk, Shut}
use Rattle.sql_records.specs.Texts.{insert_text}
use Rattle.history_keeper.specs.declared.meta.Meta.{Meta}
use Rattle.history_keeper.specs.Keeping.{LeavesAllOrNone}
use Rattle.sql_records.specs.Layout.{our_schema, meta_tree, IsOurs, HasMeta, AreNumbers}
use Rattle.sql_records.specs.Rows.{shown, columns_of, HasRoom, in_order, history_of, entries_from, AreWhole}

abbrev pub entries_tree : ℕ
entries_tree = 1

-- the rows of the entries as a query shows them, in the order of their places
abbrev pub rows_in : Trees → List Row
rows_in db = in_order (map shown (db entries_tree))

abbrev pub history_in : Trees → List Entry
history_in db = history_of (db entries_tree)

-- the entries that an open reads, and none where some row is not the entry of its place
abbrev pub opened_in : Trees → Option (List Entry)
opened_in db = entries_from 0 (rows_in db)

-- the connection is open with no transaction, over records with so many entries
pub record IsAtRest (s : State) (count : ℕ) : Type 0 where
  pub is_open : IsTrue s.is_open
  pub autocommit : s.in_transaction ≡ false
  pub settled : s.committed ≡ s.now
  pub schema : IsOurs s.now.schema
  pub sound : IsDatabase s.now
  pub whole : AreWhole 0 (rows_in s.now.trees)
  pub counted : length (rows_in s.now.trees) ≡ count

-- in a transaction these were added to the records that a database holds, which have so many now, and nothing else was changed
pub record IsAdding (begun : Database) (s : State) (count : ℕ) (added : List Entry) : Type 0 where
  pub is_open : IsTrue s.is_open
  pub inside : s.in_transaction ≡ true
  pub schema : IsOurs s.now.schema
  pub sound : IsDatabase s.now
  pub whole : AreWhole 0 (rows_in s.now.trees)
  pub counted : length (rows_in s.now.trees) ≡ count
  pub history : history_in s.now.trees ≡ history_in begun.trees ++ added
  pub meta : s.now.trees meta_tree ≡ begun.trees meta_tree

-- a transaction that had added some entries, with which there were so many, has added these behind them
abbrev pub Adds : State → State → ℕ → List Entry → Type 0
Adds old new count entries = (begun : Database) (added : List Entry) → IsAdding begun old count added
    → IsAdding begun new (count + length entries) (added ++ entries)

-- the records are at rest, as they were when they had so many entries, and have these more
pub record HasMore (old new : State) (count : ℕ) (entries : List Entry) : Type 0 where
  pub rest : IsAtRest new (count + length entries)
  pub added : history_in new.now.trees ≡ history_in old.now.trees ++ entries

-- a connection that is open still shows what it showed, in a transaction only if it was in one
abbrev pub IsUndisturbed : State → State → Type 0
IsUndisturbed old new = IsTrue new.is_open → (new.now ≡ old.now) × (new.in_transaction ≡ old.in_transaction)

-- a connection that is open has committed nothing since
abbrev pub HasCommittedNothing : State → State → Type 0
HasCommittedNothing old new = IsTrue new.is_open → new.committed ≡ old.committed

-- the trees are those of our schema alone, of a site with these numbers and no entry
pub record IsNewIn (meta : Meta) (db : Trees) : Type 0 where
  pub sound : IsSound our_schema db
  pub meta_is : HasMeta meta db
  pub entries : db entries_tree ≡ []

-- the database of a site with these numbers and no entry
pub record IsNew (meta : Meta) (db : Database) : Type 0 where
  pub schema : db.schema ≡ our_schema
  pub trees : IsNewIn meta db.trees

-- the trees are those of the records of a site with these numbers, whatever its entries are
pub record IsSiteIn (meta : Meta) (db : Trees) : Type 0 where
  pub schema : Schema
  pub ours : IsOurs schema
  pub sound : IsSound schema db
  pub numbers : HasMeta meta db
  pub within : AreNumbers meta

-- what an open reads of a database that a stop may leave
abbrev pub MayLeaveIn : State → Option (List Entry) → Type 0
MayLeaveIn s left = (db : Trees) × s.may_leave db × (left ≡ opened_in db)

-- a database that a stop may leave is that of a site with these numbers, and an open reads these entries
pub record Finds (s : State) (meta : Meta) (entries : List Entry) : Type 0 where
  pub db : Trees
  pub left : s.may_leave db
  pub site : IsSiteIn meta db
  pub reads : opened_in db ≡ Some entries

-- a stop leaves nothing that it could not leave before
abbrev pub LeavesNoMore : State → State → Type 0
LeavesNoMore old new = (db : Trees) → new.may_leave db → old.may_leave db

-- each database that a stop may leave is that of a site with these numbers
abbrev pub LeavesSite : State → Meta → Type 0
LeavesSite s meta = (db : Trees) → s.may_leave db → IsSiteIn meta db

-- of each site of which this was before, it is so now
abbrev pub KeepsSite : State → State → Type 0
KeepsSite old new = (meta : Meta) → LeavesSite old meta → LeavesSite new meta

-- A call that adds entries to records which had so many, in a transaction of its own: all of them if it succeeds, and all or none after
-- a crash or an error. The site is as it was.
pub record Stores {T E : Type 0} (old new : State) (count : ℕ) (entries : List Entry) (result : Result T E) : Type 0 where
  pub clean : HasCleanDisk old
  pub more : OnOk result (HasMore old new count entries)
  pub crash : LeavesAllOrNone (history_in old.now.trees) entries (MayLeaveIn new)
  pub site : KeepsSite old new

-- each database that a stop may leave is one that it could leave before, or the new one
abbrev pub LeavesAsBeforeOrNew : Meta → State → State → Type 0
LeavesAsBeforeOrNew meta old new = (db : Trees) → new.may_leave db → old.may_leave db ⊎ IsNewIn meta db

-- what contracts see of the records
pub record RecordsView (S : Type 0) : Type 0 where
  pub conn : Held S
  pub failures : ℕ

-- the records of a connection, with so many failures
abbrev pub failing : {S : Type 0} → Held S → ℕ → RecordsView S
failing conn failures = record { conn = conn; failures = failures }

abbrev pub kept_code : {S : Type 0} → Coded S → Coded (RecordsView S)
kept_code {S} store = code_by (Held S × ℕ) (coded× (held_code store) coded_ℕ) (λ k. (k.conn, k.failures)) (λ p. record { conn = p.0; failures = p.1 })
    (λ _. refl)

module _ {S : Type 0} (g : Ghosts S) where
  abbrev pub kept_in : RecordsView S → List Entry
  kept_in k = history_in (state g k.conn).now.trees

  abbrev pub MayLeave : RecordsView S → Option (List Entry) → Type 0
  MayLeave k = MayLeaveIn (state g k.conn)

  abbrev pub IsOf : RecordsView S → Meta → Type 0
  IsOf k = LeavesSite (state g k.conn)

  abbrev pub IsTrusted : RecordsView S → Type 0
  IsTrusted k = HasCleanDisk (state g k.conn)

  -- unless it has failed, the connection is at rest
  abbrev pub IsUnbroken : Held S → ℕ → ℕ → Type 0
  IsUnbroken conn failures count = failures ≡ 0 → HasCleanDisk (state g conn) → IsAtRest (state g conn) count

-- more entries than any history has
abbrev pub most : ℕ
most = 2 ^ 61

-- why an entry is not known to be kept
module _ {S : Type 0} (g : Ghosts S) (old new : RecordsView S) (entry : Entry) where
  -- the INSERT of the entry at the end was answered with this error
  abbrev pub FailsToInsert : Error → Type 0
  FailsToInsert e = Executes insert_text (columns_of (length (kept_in g old)) entry) (state g old.conn) (state g new.conn) (Err e)

  -- nothing was done, or the INSERT was answered with want of memory; no room for the entry, or the INSERT failed for another cause
  abbrev pub IsKeepFault : KeepFault → Type 0
  IsKeepFault Memory = (new.conn ≡ old.conn) ⊎ FailsToInsert (SqliteFailure OutOfMemory)
  IsKeepFault Disk = ((¬ HasRoom entry (length (delta_text (delta_of entry)))) ⊎ (most ≤ length (kept_in g old)))
      ⊎ ((e : Error) × (e ≢ SqliteFailure OutOfMemory) × FailsToInsert e)
  IsKeepFault Shut = old.failures ≢ 0
