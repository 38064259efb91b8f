-- Why the records of a database are not opened, and what is told of it. (Our own.)
use Rattle.std.specs.Prelude.{◌≡◌, ◌⊎◌, ℕ, List, Option, true, false, MatchOption}
use Rattle.std.specs.Io.KnownBytes.{Keeps}
use Rattle.plain_words.specs.Writing.{AppendsFront}
use Rattle.operator_cli.specs.declared.status.Status.{Status}
use Rattle.operator_cli.specs.declared.status.Status.TheVariants.{Failed}
use Rattle.sqlite.specs.Store.{Ghosts}
use Rattle.sqlite.specs.State.{State, HasCleanDisk, IsUnchanged}
use Rattle.sqlite.specs.Held.{Held, state}
use Rattle.book_core.specs.declared.plan.ReplayFault.{ReplayFault}
use Rattle.book_core.specs.Legal.{IsLegal}
use Rattle.book_core.specs.Replay.{IsReplayFault}
use Rattle.sql_records.specs.declared.fault.OpenFault.{OpenFault}
use Rattle.sql_records.specs.declared.fault.OpenFault.TheVariants as opening
use Rattle.history_keeper.specs.declared.meta.Meta.{Meta}
use Rattle.sql_records.specs.Held.{IsOf, IsTrusted, LeavesSite, MayLeave, MayLeaveIn, RecordsView, history_in, kept_in}
use Rattle.sqlite.specs.Tree.{Trees}
use Rattle.book_core.specs.declared.entry.Entry.{Entry}
use Rattle.site_exchange.specs.Exchange.{zeros}
use Rattle.history_keeper.specs.Keeping.{Keeps as KeepsList, LeavesOnly}
use Rattle.history_keeper.specs.Meta.{office_of}
use Rattle.sql_records.specs.Layout.{HasMeta, IsOurs}
use Rattle.sql_records.specs.Opening.{IsForeignCause, IsOpenFault}
use Rattle.site_desk.specs.SiteView.{SiteView}
use Rattle.operator_cli.specs.declared.command_fault.CommandFault.{CommandFault}
use Rattle.operator_cli.specs.CommandReply.{of_open_fault, of_replay_fault, command_fault_line}

-- the book is that of the records in this database, which are a site's, as they are opened: with their history, which is legal, and nothing acknowledged
pub record IsBookOf {K : Type 0} (db : Trees) (book : SiteView K) : Type 0 where
  pub ours : (meta : Meta) × HasMeta meta db
  pub office : (meta : Meta) → HasMeta meta db → book.book.office ≡ office_of meta
  pub history : book.book.history ≡ history_in db
  pub legal : (meta : Meta) → HasMeta meta db → IsLegal (office_of meta) (history_in db)
  pub fresh : book.acked ≡ zeros
  pub unclosed : book.closed ≡ false

-- the database holds this history, and a stop leaves it and nothing else
abbrev pub HoldsOnly : State → List Entry → Type 0
HoldsOnly s h = KeepsList h (history_in s.now.trees) (MayLeaveIn s)

-- a command failed for one of these causes, and told which
abbrev pub FailsFor : (CommandFault → Type 0) → Option (List ℕ) → Option (List ℕ) → Status → Type 0
FailsFor P old_err new_err status = status ≡ Failed → (fault : CommandFault) × P fault × AppendsFront old_err new_err (command_fault_line fault)

module _ {S : Type 0} (g : Ghosts S) (conn : Held S) where
  -- the records are not opened for this cause: a transaction is open, or what they are found to be at fault in
  abbrev pub IsCause : OpenFault → Type 0
  IsCause cause = ((conn.in_transaction ≡ true) × (cause ≡ opening.Disk))
      ⊎ ((conn.in_transaction ≡ false)
      × ((after : Held S) × (HasCleanDisk (state g after) → HasCleanDisk (state g conn) × IsOpenFault (state g conn) (state g after) cause)))

  -- the opening was refused, and the fault tells its cause; where no transaction was open and the tables are not ours, the cause is what the select
  -- on `meta` showed, or what its error is told as
  pub record IsRefused (fault : CommandFault) : Type 0 where
    pub cause : OpenFault
    pub told : fault ≡ of_open_fault cause
    pub found : IsCause cause
    pub foreign : ¬ IsOurs conn.schema → conn.in_transaction ≡ false → (after : Held S) × (HasCleanDisk (state g after) → IsForeignCause g conn cause)

  -- the records were opened and are as they were, which a stop leaves, of the same site, but their history is not legal, or memory was wanted for it
  pub record IsIllegal (after : Held S) (fault : CommandFault) : Type 0 where
    pub cause : ReplayFault
    pub told : fault ≡ of_replay_fault cause
    pub same : HasCleanDisk (state g after) → (state g after).now ≡ (state g conn).now
    pub settled : HasCleanDisk (state g after) → (state g after).in_transaction ≡ (state g conn).in_transaction
    pub rests : HasCleanDisk (state g after) → LeavesOnly (history_in (state g conn).now.trees) (MayLeaveIn (state g after))
    pub ours : HasCleanDisk (state g after) → (meta : Meta) × HasMeta meta (state g conn).now.trees
    pub site : HasCleanDisk (state g after) → (meta : Meta) → HasMeta meta (state g conn).now.trees → LeavesSite (state g after) meta
    pub found : HasCleanDisk (state g after) → (meta : Meta) → HasMeta meta (state g conn).now.trees
        → IsReplayFault (office_of meta) (history_in (state g conn).now.trees) cause

  -- the records of this connection were opened, which changed nothing, and this is their book
  pub record IsOpened (first : SiteView (RecordsView S)) : Type 0 where
    pub unclosed : first.closed ≡ false
    pub sound : first.keeper.failures ≡ 0
    pub settled : conn.in_transaction ≡ false
    pub limit : first.keeper.conn.step_limit ≡ conn.step_limit
    pub book : IsTrusted g first.keeper → IsBookOf (state g conn).now.trees first
    pub kept : IsTrusted g first.keeper → kept_in g first.keeper ≡ history_in (state g conn).now.trees
    pub rests : IsTrusted g first.keeper → LeavesOnly (kept_in g first.keeper) (MayLeave g first.keeper)
    pub site : IsTrusted g first.keeper → (meta : Meta) → HasMeta meta (state g conn).now.trees → IsOf g first.keeper meta
    pub same : IsTrusted g first.keeper → (state g first.keeper.conn).now ≡ (state g conn).now
    pub unchanged : IsTrusted g first.keeper → IsUnchanged (state g conn) (state g first.keeper.conn)
    pub autocommit : IsTrusted g first.keeper → (state g first.keeper.conn).in_transaction ≡ false
    pub clean : IsTrusted g first.keeper → HasCleanDisk (state g conn)

  -- they were not opened, and the connection is gone; or they were, and came back as they were, since their history is not legal or memory
  -- was wanted for it
  abbrev pub CannotOpen : CommandFault → Option (Held S) → Type 0
  CannotOpen cause back = MatchOption back (IsRefused cause) (λ after. IsIllegal after cause)

  -- a connection that comes back showed the records of a site
  abbrev pub ShowedRecords : Held S → Type 0
  ShowedRecords after = HasCleanDisk (state g after) → (meta : Meta) × HasMeta meta (state g conn).now.trees

  -- a command wrote nothing, told at which place the history is not legal, or that memory was wanted to read it, and failed
  abbrev pub FailsAsIllegal : Held S → Option (List ℕ) → Option (List ℕ) → Option (List ℕ) → Option (List ℕ) → Status → Type 0
  FailsAsIllegal after old_out new_out old_err new_err status =
      (fault : CommandFault) × IsIllegal after fault × Keeps old_out new_out × AppendsFront old_err new_err (command_fault_line fault) × (status ≡ Failed)

  -- so does a command where that history is not legal
  abbrev pub FailsIfIllegal : Held S → Option (List ℕ) → Option (List ℕ) → Option (List ℕ) → Option (List ℕ) → Status → Type 0
  FailsIfIllegal after old_out new_out old_err new_err status =
      HasCleanDisk (state g after) → (meta : Meta) → HasMeta meta (state g conn).now.trees
      → (IsLegal (office_of meta) (history_in (state g conn).now.trees) → ⊥)
      → FailsAsIllegal after old_out new_out old_err new_err status

  -- a command has no connection to give back: its records were refused, it wrote nothing, and that is what it told
  pub record IsLost (old_out new_out old_err new_err : Option (List ℕ)) (status : Status) : Type 0 where
    pub fault : CommandFault
    pub refused : IsRefused fault
    pub silent : Keeps old_out new_out
    pub told : AppendsFront old_err new_err (command_fault_line fault)
    pub failed : status ≡ Failed
