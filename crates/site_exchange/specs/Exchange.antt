-- The message that is due to a peer, and what a site does with a message.
-- Delta-intervals and their acknowledgements are those of Almeida et al., JPDC 2018; messages, checks and verdicts
-- are our own.
use Rattle.std.specs.Prelude.{◌≡◌, ℕ, not, ◌||◌, ◌==◌, if◌then◌else◌, nat_le, nat_lt, List, length, get_or, replicate, Option, Some, None, Result, MatchResult}
use Rattle.rights_lattice.specs.Sums.{max_sites}
use Rattle.book_core.specs.declared.entry.Entry.{Entry}
use Rattle.book_core.specs.declared.entry.Entry.TheVariants.{Joined}
use Rattle.book_core.specs.declared.plan.JoinFault.{JoinFault}
use Rattle.book_core.specs.declared.plan.JoinFault.TheVariants as join_fault
use Rattle.book_core.specs.Decision.{SiteConfig, office_after}
use Rattle.book_core.specs.History.{interval}
use Rattle.book_core.specs.Joining as join
use Rattle.site_exchange.specs.declared.message.Message.{Message}
use Rattle.site_exchange.specs.declared.message.Message.TheVariants.{Delta, Ack}
use Rattle.site_exchange.specs.declared.message.CheckFault.{CheckFault}
use Rattle.site_exchange.specs.declared.message.CheckFault.TheVariants as check_fault
use Rattle.site_exchange.specs.declared.message.TakeFault.{TakeFault}
use Rattle.site_exchange.specs.declared.message.TakeFault.TheVariants as fault

-- what a site holds: its history, and what each peer has acknowledged of it
pub record SitePart : Type 0 where
  pub history : List Entry
  pub acked : List ℕ

-- of no peer
abbrev pub zeros : List ℕ
zeros = replicate max_sites 0

-- the message to a peer, with what the peer has not acknowledged; none where it has all
abbrev pub next : ℕ → SitePart → ℕ → Option Message
next me site to =
    let a = get_or site.acked to 0 in
    if a == length site.history then None
    else Some (Delta me to (length site.history) (interval site.history a (length site.history)))

-- the acknowledgement of a delta
abbrev pub ack_for : Message → Option Message
ack_for (Delta by to upto delta) = Some (Ack to by upto)
ack_for (Ack by to upto) = None

abbrev pub receiver : Message → ℕ
receiver (Delta by to upto delta) = to
receiver (Ack by to upto) = to

-- the message is for this site, from another of the sites that it counts
abbrev pub addressed : SiteConfig → ℕ → ℕ → Option CheckFault
addressed office by to =
    if not (to == office.me) || (by == office.me) then Some check_fault.NotForMe
    else if nat_le office.sites by then Some check_fault.UnknownSite
    else None

abbrev pub or_stray : Option CheckFault → ℕ → ℕ → Option CheckFault
or_stray (Some fault) upto len = Some fault
or_stray None upto len = if nat_lt len upto then Some (check_fault.StrayAck len) else None

-- why a message is not looked at, if it isn't
abbrev pub check : SiteConfig → List Entry → Message → Option CheckFault
check office h (Delta by to upto delta) = addressed (office_after office h) by to
check office h (Ack by to upto) = or_stray (addressed (office_after office h) by to) upto (length h)

-- what a check comes to: nothing, or why the message is not looked at
abbrev pub ChecksTo : {T : Type 0} → Option CheckFault → Result T CheckFault → Type 0
ChecksTo due came = MatchResult came (λ _. due ≡ None) (λ fault. due ≡ Some fault)

-- what a site does with a message
pub data Verdict : Type 0 where
  Joins : Verdict
  NothingNew : Verdict
  Acks : Verdict
  Refuses : (fault : TakeFault) → Verdict

abbrev pub unchecked : CheckFault → TakeFault
unchecked check_fault.NotForMe = fault.NotForMe
unchecked check_fault.UnknownSite = fault.UnknownSite
unchecked (check_fault.StrayAck len) = fault.StrayAck len

abbrev pub unjoined : JoinFault → TakeFault
unjoined join_fault.UnknownSite = fault.UnknownSite
unjoined (join_fault.ForeignRow mark) = fault.ForeignRow mark
unjoined join_fault.Full = fault.Full
unjoined join_fault.Memory = fault.Memory

abbrev pub verdict_of : join.JoinDecision → Verdict
verdict_of join.Joins = Joins
verdict_of join.NothingNew = NothingNew
verdict_of (join.Refuses fault) = Refuses (unjoined fault)

abbrev pub verdict_if : Option CheckFault → SiteConfig → List Entry → Message → Verdict
verdict_if (Some fault) office h message = Refuses (unchecked fault)
verdict_if None office h (Delta by to upto delta) = verdict_of (join.join_decision office h by delta)
verdict_if None office h (Ack by to upto) = Acks

abbrev pub verdict : SiteConfig → List Entry → Message → Verdict
verdict office h message = verdict_if (check office h message) office h message

abbrev pub taken_if : Verdict → Message → Option Entry
taken_if Joins (Delta by to upto delta) = Some (Joined by delta)
taken_if _ _ = None

-- the entry that taking the message adds, if any
abbrev pub entry_of_take : SiteConfig → List Entry → Message → Option Entry
entry_of_take office h message = taken_if (verdict office h message) message

-- the message is a delta
abbrev pub IsDeltaMessage : Message → Type 0
IsDeltaMessage (Delta by to upto delta) = Unit {0}
IsDeltaMessage (Ack by to upto) = ⊥
