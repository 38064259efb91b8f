-- Why no new records are made. (Our own.)
use Rattle.std.specs.Prelude.{◌≡◌, ◌≢◌, ◌⊎◌, ℕ, List, [], ◌∷◌, Ok, Err, Bool, true, false, IsTrue}
use Rattle.sqlite.specs.Store.{Ghosts}
use Rattle.sqlite.specs.Order.{Row}
use Rattle.sqlite.specs.Schema.{Schema}
use Rattle.sqlite.specs.State.{HasCleanDisk, ExecutesInside}
use Rattle.sqlite.specs.Steps.{FailsToCommit}
use Rattle.sqlite.specs.Held.{Held, state}
use Rattle.sqlite.specs.declared.error.Error.{Error}
use Rattle.sqlite.specs.declared.error.Error.TheVariants.{SqliteFailure}
use Rattle.sqlite.specs.declared.error.ErrorCode.TheVariants.{OutOfMemory}
use Rattle.sql_records.specs.declared.fault.InitFault.{InitFault}
use Rattle.sql_records.specs.declared.fault.InitFault.TheVariants.{AlreadyThere, Memory, Disk}
use Rattle.history_keeper.specs.declared.meta.Meta.{Meta}
use Rattle.sql_records.specs.Texts.{meta_text, entries_text, meta_insert_text}
use Rattle.sql_records.specs.Layout.{no_schema, has_our_table, meta_of}

-- the statements of new records, each with its parameters
abbrev pub making : Meta → List (List ℕ × Row)
making meta = (meta_text, []) ∷ (entries_text, []) ∷ (meta_insert_text, meta_of meta) ∷ []

module _ {S : Type 0} (g : Ghosts S) where
  -- in a transaction each statement was run, in turn
  abbrev pub RunInTurn : List (List ℕ × Row) → Held S → Held S → Type 0
  RunInTurn [] before after = after ≡ before
  RunInTurn (first ∷ more) before after =
      (mid : Held S) × (count : ℕ) × ExecutesInside 0 first.0 first.1 (state g before) (state g mid) (Ok count) × RunInTurn more mid after

  -- in a transaction they were run, in turn, up to one that was answered with this error
  abbrev pub FailInTurn : List (List ℕ × Row) → Held S → Held S → Error → Type 0
  FailInTurn [] before after e = ⊥
  FailInTurn (first ∷ more) before after e =
      ExecutesInside 0 first.0 first.1 (state g before) (state g after) (Err e)
      ⊎ ((mid : Held S) × (count : ℕ) × ExecutesInside 0 first.0 first.1 (state g before) (state g mid) (Ok count) × FailInTurn more mid after e)

module _ {S : Type 0} (g : Ghosts S) (conn : Held S) (meta : Meta) where
  -- the transaction that makes new records was answered with this error, by a statement or by its commit
  pub record FailsToMake (e : Error) : Type 0 where
    pub after : Held S
    pub clean : HasCleanDisk (state g after)
    pub fails : FailInTurn g (making meta) (record conn { in_transaction = true }) after e
        ⊎ ((filled : Held S) × RunInTurn g (making meta) (record conn { in_transaction = true }) filled × FailsToCommit (state g filled) (state g after) e)

  -- why no new records were made
  abbrev pub IsInitFault : InitFault → Type 0
  IsInitFault AlreadyThere = IsTrue (has_our_table conn.schema)
  IsInitFault Memory = FailsToMake (SqliteFailure OutOfMemory)
  IsInitFault Disk = (conn.schema ≢ no_schema) ⊎ ((conn.in_transaction ≡ true) ⊎ ((e : Error) × (e ≢ SqliteFailure OutOfMemory) × FailsToMake e))

-- a database in which new records are begun
pub record IsVacant (schema : Schema) (in_transaction : Bool) : Type 0 where
  pub ours : has_our_table schema ≡ false
  pub empty : schema ≡ no_schema
  pub outside : in_transaction ≡ false

-- why none are begun
abbrev pub IsRefusal : Schema → Bool → InitFault → Type 0
IsRefusal schema in_transaction AlreadyThere = IsTrue (has_our_table schema)
IsRefusal schema in_transaction Disk = (has_our_table schema ≡ false) × ((schema ≢ no_schema) ⊎ (in_transaction ≡ true))
IsRefusal schema in_transaction Memory = ⊥
