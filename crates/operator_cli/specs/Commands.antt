-- What a command over the records of a site does: it opens them, makes one call and prints what came of it. (Our own.)
use Rattle.std.specs.Prelude.{◌≡◌, ◌≢◌, ◌⊎◌, ◌↔◌, ◌<◌, ◌≤◌, ⊤, ℕ, true, false, List, length, Option, Some, None, Result, Ok, Err, IfOk, IfSome, IsSome, Vec, if◌then◌else◌, nat_lt}
use Rattle.sqlite.specs.Store.{Ghosts}
use Rattle.sqlite.specs.Held.{Held}
use Rattle.book_core.specs.declared.plan.GrowFault.{GrowFault}
use Rattle.book_core.specs.declared.plan.GrowFault.TheVariants as grow
use Rattle.site_exchange.specs.declared.message.Message.{Message}
use Rattle.site_exchange.specs.declared.message.TakeFault.{TakeFault}
use Rattle.site_exchange.specs.declared.message.TakeFault.TheVariants as take
use Rattle.site_exchange.specs.Exchange.{next}
use Rattle.delta_wire.specs.declared.fault.WireFault.{WireFault}
use Rattle.delta_wire.specs.declared.fault.WireFault.TheVariants as wire
use Rattle.delta_wire.specs.Grammar.{most_bytes}
use Rattle.delta_wire.specs.Wire.{message_of}
use Rattle.history_keeper.specs.declared.meta.Meta.{Meta}
use Rattle.std.specs.declared.alloc.Global.{Global}
use Rattle.rights_lattice.specs.EventName.{IsEventName}
use Rattle.history_keeper.specs.declared.lookup.Found.{Found}
use Rattle.history_keeper.specs.declared.lookup.Listed.{Listed}
use Rattle.sql_records.specs.declared.lookup.FindFault.{FindFault}
use Rattle.sql_records.specs.Held.{RecordsView}
use Rattle.sql_records.specs.declared.fault.InitFault.{InitFault}
use Rattle.sql_records.specs.declared.fault.InitFault.TheVariants as making
use Rattle.sql_records.specs.declared.fault.MigrateFault.{MigrateFault}
use Rattle.sql_records.specs.declared.fault.MigrateFault.TheVariants as migrating
use Rattle.sql_records.specs.Migrating.{MigrateCall}
use Rattle.sql_records.specs.Opened.{FindCall, InitCall, ListCall}
use Rattle.site_desk.specs.declared.answer.SiteShare.{SiteShare}
use Rattle.site_desk.specs.declared.answer.Taken.{Taken}
use Rattle.site_desk.specs.declared.answer.Taken.TheVariants as taken
use Rattle.site_desk.specs.declared.fault.LookUpFault.{LookUpFault}
use Rattle.site_desk.specs.declared.fault.LookUpFault.TheVariants as look_up
use Rattle.site_desk.specs.declared.fault.NextFault.{NextFault}
use Rattle.site_desk.specs.declared.fault.NextFault.TheVariants as next_fault
use Rattle.site_desk.specs.Answers.{is_peer}
use Rattle.site_desk.specs.Calls.{GrowCall, Keeping, TakeCall}
use Rattle.site_desk.specs.Moments.{Events, Shares}
use Rattle.site_desk.specs.SiteView.{SiteView, site_of}
use Rattle.operator_cli.specs.declared.outcome.Outcome.{Outcome}
use Rattle.operator_cli.specs.declared.outcome.Outcome.TheVariants.{Tells, Sends, Shows, Lists, Knows, Splits, SiteStatusIs, Fails}
use Rattle.operator_cli.specs.declared.command_fault.CommandFault.{CommandFault}
use Rattle.operator_cli.specs.declared.command_fault.CommandFault.TheVariants as fault
use Rattle.operator_cli.specs.declared.told.CommandReply.{CommandReply}
use Rattle.operator_cli.specs.declared.told.CommandReply.TheVariants.{Made, AlreadyThere, Migrated, Joined, NothingNew, Acked, NoSite, Nothing, NotFound, Unknown, TooLong, Unread, NotTaken, Grown, NotGrown}
use Rattle.operator_cli.specs.Opened.{CannotOpen, IsOpened}
use Rattle.operator_cli.specs.Printed.{site_status_in}
use Rattle.operator_cli.specs.CommandReply.{of_find_fault}

module _ {S : Type 0} (g : Ghosts S) (conn : Held S) where
  -- the records were opened, one call led from their book to another and to this outcome, and its connection came back
  pub record Called (Calls : SiteView (RecordsView S) → SiteView (RecordsView S) → Outcome → Type 0) (outcome : Outcome) (after : Held S) : Type 0 where
    pub first : SiteView (RecordsView S)
    pub last : SiteView (RecordsView S)
    pub opened : IsOpened g conn first
    pub call : Calls first last outcome
    pub back : last.keeper.conn ≡ after

  -- what a command comes to: the fault for which the records were not opened, or what one call made of them
  abbrev pub CameTo : (SiteView (RecordsView S) → SiteView (RecordsView S) → Outcome → Type 0) → Option (Held S) → Outcome → Type 0
  CameTo Calls back outcome =
      ((cause : CommandFault) × (outcome ≡ Fails cause) × CannotOpen g conn cause back) ⊎ ((after : Held S) × (back ≡ Some after) × Called Calls outcome after)

-- ---- more sites

abbrev pub outcome_of_grow : Result (Unit {0}) GrowFault → Outcome
outcome_of_grow (Ok _) = Tells Grown
outcome_of_grow (Err grow.NotMore) = Tells (NotGrown grow.NotMore)
outcome_of_grow (Err grow.Full) = Tells (NotGrown grow.Full)
outcome_of_grow (Err grow.Memory) = Fails fault.Memory
outcome_of_grow (Err grow.Store) = Fails fault.Store
outcome_of_grow (Err grow.Closed) = Fails fault.Store

abbrev pub Grows : {K : Type 0} → Keeping K → ℕ → SiteView K → SiteView K → Outcome → Type 0
Grows k sites old new outcome = (called : Result (Unit {0}) GrowFault) × GrowCall k old new sites called × (outcome ≡ outcome_of_grow called)

-- ---- a message to a peer

-- the message that is due to a peer, or why there is none; nothing is changed
pub record NextCall {K : Type 0} (old new : SiteView K) (to : ℕ) (result : Result (Option Message) NextFault) : Type 0 where
  pub message : IfOk result (λ message. message ≡ next old.book.office.me (site_of old) to)
  pub closed : (result ≡ Err next_fault.Closed) ↔ (old.closed ≡ true)
  pub no_site : (result ≡ Err next_fault.NoSite) ↔ ((old.closed ≡ false) × (is_peer old.book.office old.book.history to ≡ false))
  pub memory : result ≡ Err next_fault.Memory → IsSome (next old.book.office.me (site_of old) to)
  pub same : new ≡ old

abbrev pub outcome_of_next : Result (Option Message) NextFault → Outcome
outcome_of_next (Ok None) = Tells Nothing
outcome_of_next (Ok (Some message)) = Sends message
outcome_of_next (Err next_fault.NoSite) = Tells NoSite
outcome_of_next (Err next_fault.Closed) = Fails fault.Store
outcome_of_next (Err next_fault.Memory) = Fails fault.Memory

abbrev pub Exports : {K : Type 0} → ℕ → SiteView K → SiteView K → Outcome → Type 0
Exports to old new outcome = (called : Result (Option Message) NextFault) × NextCall old new to called × (outcome ≡ outcome_of_next called)

-- ---- a message from a peer

abbrev pub read_as : Result Message WireFault → Result Message CommandReply
read_as (Ok message) = Ok message
read_as (Err cause) = Err (Unread cause)

-- what the bytes of an input are read as
abbrev pub input_of : List ℕ → Result Message CommandReply
input_of bytes = if nat_lt most_bytes (length bytes) then Err TooLong else read_as (message_of bytes)

-- the input is so long, or all of it was read
abbrev pub IsInputRead : List ℕ → Option (List ℕ) → Type 0
IsInputRead input None = most_bytes < length input
IsInputRead input (Some bytes) = (bytes ≡ input) × (length input ≤ most_bytes)

-- why an input is no message
abbrev pub IsUnread : CommandReply → Type 0
IsUnread TooLong = ⊤
IsUnread (Unread cause) = cause ≢ wire.Memory
IsUnread _ = ⊥

-- a message was read, or it is told why there is none, or memory was wanted or the reader failed
abbrev pub IsRead : Option (List ℕ) → Result Message Outcome → Type 0
IsRead input (Ok message) = IfSome input (λ bytes. input_of bytes ≡ Ok message)
IsRead input (Err (Tells told)) = IsUnread told × IfSome input (λ bytes. input_of bytes ≡ Err told)
IsRead input (Err (Fails cause)) = (cause ≡ fault.Memory) ⊎ (cause ≡ fault.Read)
IsRead input (Err _) = ⊥

abbrev pub outcome_of_take : Result Taken TakeFault → Outcome
outcome_of_take (Ok (taken.Joined ack)) = Tells Joined
outcome_of_take (Ok (taken.NothingNew ack)) = Tells NothingNew
outcome_of_take (Ok taken.Acked) = Tells Acked
outcome_of_take (Err take.Memory) = Fails fault.Memory
outcome_of_take (Err take.Store) = Fails fault.Store
outcome_of_take (Err take.Closed) = Fails fault.Store
outcome_of_take (Err cause) = Tells (NotTaken cause)

-- no message was read, and nothing was changed; or one was, and the book took it
abbrev pub Imports : {K : Type 0} → Keeping K → Option (List ℕ) → SiteView K → SiteView K → Outcome → Type 0
Imports k input old new outcome =
    (IsRead input (Err outcome) × (new ≡ old))
    ⊎ ((message : Message) × (called : Result Taken TakeFault) × IsRead input (Ok message) × TakeCall k old new message called
    × (outcome ≡ outcome_of_take called))

-- ---- a reply that is kept

abbrev pub outcome_of_find : Result (Option Found) FindFault → Outcome
outcome_of_find (Ok None) = Tells NotFound
outcome_of_find (Ok (Some found)) = Shows found
outcome_of_find (Err cause) = Fails (of_find_fault cause)

abbrev pub Finds : {S : Type 0} → Ghosts S → ℕ → SiteView (RecordsView S) → SiteView (RecordsView S) → Outcome → Type 0
Finds g number old new outcome = (called : Result (Option Found) FindFault) × FindCall g old.keeper new.keeper number called
    × (outcome ≡ outcome_of_find called)

-- ---- the requests that name an event

abbrev pub outcome_of_list : Result (Vec Listed Global) FindFault → Outcome
outcome_of_list (Ok rows) = Lists rows
outcome_of_list (Err cause) = Fails (of_find_fault cause)

-- a word that is no event name is in no request, and nothing was looked up; or the requests that name the event were
abbrev pub ListsOf : {S : Type 0} → Ghosts S → List ℕ → SiteView (RecordsView S) → SiteView (RecordsView S) → Outcome → Type 0
ListsOf g name old new outcome =
    ((¬ IsEventName name) × (new.keeper ≡ old.keeper) × (outcome ≡ Tells NotFound))
    ⊎ ((called : Result (Vec Listed Global) FindFault) × ListCall g old.keeper new.keeper name called × (outcome ≡ outcome_of_list called))

-- ---- the events that are known

abbrev pub of_look_up_fault : LookUpFault → CommandFault
of_look_up_fault look_up.Closed = fault.Store
of_look_up_fault look_up.Memory = fault.Memory

abbrev pub outcome_of_events : Result (Vec (List ℕ) Global) LookUpFault → Outcome
outcome_of_events (Ok events) = Knows events
outcome_of_events (Err cause) = Fails (of_look_up_fault cause)

abbrev pub EventsOf : {K : Type 0} → SiteView K → SiteView K → Outcome → Type 0
EventsOf old new outcome = (called : Result (Vec (List ℕ) Global) LookUpFault) × Events called old × (new ≡ old) × (outcome ≡ outcome_of_events called)

-- ---- the shares of an event

abbrev pub outcome_of_shares : Result (Option (Vec SiteShare Global)) LookUpFault → Outcome
outcome_of_shares (Ok None) = Tells Unknown
outcome_of_shares (Ok (Some rows)) = Splits rows
outcome_of_shares (Err cause) = Fails (of_look_up_fault cause)

-- a word that is no event name is not known; or the site was asked for the shares
abbrev pub SharesOf : {K : Type 0} → List ℕ → SiteView K → SiteView K → Outcome → Type 0
SharesOf name old new outcome =
    ((¬ IsEventName name) × (new ≡ old) × (outcome ≡ Tells Unknown))
    ⊎ ((called : Result (Option (Vec SiteShare Global)) LookUpFault) × Shares name called old × (new ≡ old) × (outcome ≡ outcome_of_shares called))

-- ---- how long the history is

abbrev pub HasSiteStatus : {K : Type 0} → SiteView K → SiteView K → Outcome → Type 0
HasSiteStatus old new outcome = (new ≡ old) × (outcome ≡ SiteStatusIs (site_status_in old.book.office old.book.history))

-- ---- new records

abbrev pub outcome_of_init : Result (Unit {0}) InitFault → Outcome
outcome_of_init (Ok _) = Tells Made
outcome_of_init (Err making.AlreadyThere) = Tells AlreadyThere
outcome_of_init (Err making.Memory) = Fails fault.Memory
outcome_of_init (Err making.Disk) = Fails fault.Disk

-- there is no such site, and nothing was changed; or there is, and its records are made or not
abbrev pub Inits : {S : Type 0} → Ghosts S → Meta → Held S → Held S → Outcome → Type 0
Inits g meta old new outcome =
    ((meta.sites ≤ meta.me) × (new ≡ old) × (outcome ≡ Tells NoSite))
    ⊎ ((called : Result (Unit {0}) InitFault) × (meta.me < meta.sites) × InitCall g old new meta called × (outcome ≡ outcome_of_init called))

-- ---- records of the first schema

abbrev pub outcome_of_migrate : Result (Unit {0}) MigrateFault → Outcome
outcome_of_migrate (Ok _) = Tells Migrated
outcome_of_migrate (Err migrating.Nothing) = Tells Nothing
outcome_of_migrate (Err migrating.NotOurs) = Fails fault.NotOurs
outcome_of_migrate (Err (migrating.OtherSchema version)) = Fails (fault.OtherSchema version)
outcome_of_migrate (Err (migrating.Damaged place)) = Fails (fault.Damaged place)
outcome_of_migrate (Err migrating.Memory) = Fails fault.Memory
outcome_of_migrate (Err migrating.Disk) = Fails fault.Disk

abbrev pub Migrates : {S : Type 0} → Ghosts S → Held S → Held S → Outcome → Type 0
Migrates g old new outcome = (called : Result (Unit {0}) MigrateFault) × MigrateCall g old new called × (outcome ≡ outcome_of_migrate called)
