-- What opening the records of a site comes to, and what making them does. (Our own.)
use Rattle.std.specs.Prelude.{◌≡◌, ◌≢◌, ◌↔◌, ℕ, List, Vec, [], Option, Some, true, false, IsTrue, Result, Err, IfOk, IfErr, OnOk, OnErr}
use Rattle.sqlite.specs.Store.{Ghosts}
use Rattle.sqlite.specs.State.{State, HasCleanDisk, IsUnchanged}
use Rattle.sqlite.specs.Held.{Held, state}
use Rattle.book_core.specs.declared.entry.Entry.{Entry}
use Rattle.sql_records.specs.declared.fault.InitFault.{InitFault}
use Rattle.sql_records.specs.declared.fault.InitFault.TheVariants as making
use Rattle.sql_records.specs.declared.fault.OpenFault.{OpenFault}
use Rattle.sql_records.specs.declared.fault.OpenFault.TheVariants.{Disk}
use Rattle.std.specs.declared.alloc.Global.{Global}
use Rattle.sql_records.specs.declared.lookup.FindFault.{FindFault}
use Rattle.sql_records.specs.declared.lookup.FindFault.TheVariants as asking
use Rattle.history_keeper.specs.declared.lookup.Found.{Found}
use Rattle.history_keeper.specs.declared.lookup.Listed.{Listed}
use Rattle.history_keeper.specs.declared.meta.Meta.{Meta}
use Rattle.sql_records.specs.Held.{IsAtRest, IsNew, IsOf, IsSiteIn, IsTrusted, IsUndisturbed, LeavesAsBeforeOrNew, LeavesSite, MayLeave, MayLeaveIn, RecordsView, kept_in, opened_in}
use Rattle.history_keeper.specs.Keeping.{LeavesOnly}
use Rattle.sql_records.specs.Layout.{AreNumbers, HasMeta, IsOurs, has_our_table, no_schema}
use Rattle.sql_records.specs.Making.{IsInitFault}
use Rattle.sql_records.specs.Opening.{IsForeignCause, IsOpenFault, Reads}
use Rattle.history_keeper.specs.Lookups.{found_in, listed_in}
use Rattle.sql_records.specs.Lookups.{IsListFault, IsQueryFault}

module _ {S : Type 0} (g : Ghosts S) (conn : Held S) where
  -- what the connection showed was read: these entries and these numbers, of a site that a stop leaves as it is; and nothing was changed
  pub record WasRead (records : RecordsView S) (entries : List Entry) (meta : Meta) : Type 0 where
    pub clean : HasCleanDisk (state g conn)
    pub unchanged : IsUnchanged (state g conn) (state g records.conn)
    pub same : (state g records.conn).now ≡ (state g conn).now
    pub autocommit : (state g records.conn).in_transaction ≡ false
    pub entries_are : entries ≡ kept_in g records
    pub found : opened_in (state g conn).now.trees ≡ Some entries
    pub holds : IsSiteIn meta (state g conn).now.trees
    pub meta_is : HasMeta meta (state g records.conn).now.trees
    pub given : (other : Meta) → HasMeta other (state g conn).now.trees → meta ≡ other
    pub site : IsOf g records meta
    pub leaves : LeavesOnly (kept_in g records) (MayLeave g records)

  -- the records of the connection, with the entries that they hold and the site's numbers
  pub record IsRecordsOf (records : RecordsView S) (entries : List Entry) (meta : Meta) : Type 0 where
    pub sound : records.failures ≡ 0
    pub limit : records.conn.step_limit ≡ conn.step_limit
    pub settled : conn.in_transaction ≡ false
    pub ours : IsOurs conn.schema
    pub numbers : AreNumbers meta
    pub read : IsTrusted g records → WasRead records entries meta

  -- it has none that could be opened: a transaction is open, or this is what they are found to be at fault in
  pub record CannotOpen (fault : OpenFault) : Type 0 where
    pub busy : conn.in_transaction ≡ true → fault ≡ Disk
    pub found : conn.in_transaction ≡ false
        → (after : Held S) × (HasCleanDisk (state g after) → HasCleanDisk (state g conn) × IsOpenFault (state g conn) (state g after) fault)
    pub foreign : ¬ IsOurs conn.schema → conn.in_transaction ≡ false → (after : Held S) × (HasCleanDisk (state g after) → IsForeignCause g conn fault)

-- the records of a site with no entry, which a stop leaves
pub record IsMade (s : State) (meta : Meta) : Type 0 where
  pub made : IsNew meta s.now
  pub rest : IsAtRest s 0
  pub leaves : LeavesOnly [] (MayLeaveIn s)
  pub site : LeavesSite s meta

-- What a call that makes them does: they are made, or this is why not. A stop leaves what it could leave before, or them.
pub record InitCall {S : Type 0} (g : Ghosts S) (old new : Held S) (meta : Meta) (result : Result (Unit {0}) InitFault) : Type 0 where
  pub there : (result ≡ Err making.AlreadyThere) ↔ IsTrue (has_our_table old.schema)
  pub other : has_our_table old.schema ≡ false → old.schema ≢ no_schema → (result ≡ Err making.Disk) × (new ≡ old)
  pub busy : has_our_table old.schema ≡ false → old.in_transaction ≡ true → (result ≡ Err making.Disk) × (new ≡ old)
  pub as_it_was : result ≡ Err making.AlreadyThere → new ≡ old
  pub made : HasCleanDisk (state g new) → OnOk result (IsMade (state g new) meta)
  pub crash : HasCleanDisk (state g new) → LeavesAsBeforeOrNew meta (state g old) (state g new)
  pub as_before : HasCleanDisk (state g new) → IsTrue (state g new).is_open → OnErr result ((state g new).committed ≡ (state g old).committed)
  pub fault : HasCleanDisk (state g new) → IfErr result (IsInitFault g old meta)
  pub limit : new.step_limit ≡ old.step_limit
  pub ended : old.in_transaction ≡ false → new.in_transaction ≡ false
  pub clean : HasCleanDisk (state g new) → HasCleanDisk (state g old)

-- ---- looking up

-- A question to records that have not failed is answered, which changes nothing; or it shuts them, for this fault, and undoes what was not
-- committed. Records that are shut answer `Shut` and are as they were.
pub record Asks {S T : Type 0} (g : Ghosts S) (old new : RecordsView S) (Tells : T → Type 0) (Fails : FindFault → Type 0) (result : Result T FindFault) :
    Type 0 where
  pub told : IfOk result (λ it. IsTrusted g new → Tells it)
  pub reads : Reads g old.conn new.conn result
  pub still : OnErr result (IsTrusted g new → IsUndisturbed (state g old.conn) (state g new.conn))
  pub failures : OnOk result ((old.failures ≡ 0) × (new.failures ≡ 0))
  pub fault : old.failures ≡ 0 → IfErr result (λ cause. IsTrusted g new → Fails cause)
  pub shut : old.failures ≢ 0 → (result ≡ Err asking.Shut) × (new ≡ old)
  pub named : old.failures ≡ 0 → result ≢ Err asking.Shut
  pub shuts : old.failures ≡ 0 → OnErr result (new.failures ≡ 1)

abbrev pub FindCall : {S : Type 0} → Ghosts S → RecordsView S → RecordsView S → ℕ → Result (Option Found) FindFault → Type 0
FindCall g old new number = Asks g old new (λ found. found ≡ found_in (kept_in g old) number) (IsQueryFault (state g old.conn) (state g new.conn))

abbrev pub ListCall : {S : Type 0} → Ghosts S → RecordsView S → RecordsView S → List ℕ → Result (Vec Listed Global) FindFault → Type 0
ListCall g old new event = Asks g old new (λ rows. rows.items ≡ listed_in (kept_in g old) event)
    (IsListFault (state g old.conn) (state g new.conn) (listed_in (kept_in g old) event))
