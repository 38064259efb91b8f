-- What a site's book answers over its keeper, and why it does not. (Our own.)
use Rattle.std.specs.Prelude.{◌≡◌, ℕ, Bool, true, false, not, ◌&&◌, ◌==◌, nat_lt, List, Option, Some, None, IsSome}
use Rattle.book_core.specs.declared.entry.Entry.{Entry}
use Rattle.book_core.specs.Decision as decided
use Rattle.book_core.specs.declared.plan.GrowFault.{GrowFault}
use Rattle.book_core.specs.declared.plan.GrowFault.TheVariants as grow_fault
use Rattle.book_core.specs.Decision.{Decision, SiteConfig, sites_of}
use Rattle.book_core.specs.Growing as grow
use Rattle.book_core.specs.Growing.{GrowDecision}
use Rattle.book_core.specs.Plans.{IsFresh}
use Rattle.site_exchange.specs.declared.message.Message.{Message}
use Rattle.site_exchange.specs.declared.message.TakeFault.{TakeFault}
use Rattle.site_exchange.specs.declared.message.TakeFault.TheVariants as take_fault
use Rattle.site_exchange.specs.Exchange as exchange
use Rattle.site_exchange.specs.Exchange.{Verdict}
use Rattle.site_desk.specs.declared.answer.Answer.{Answer}
use Rattle.site_desk.specs.declared.answer.Taken.{Taken}
use Rattle.site_desk.specs.declared.answer.Taken.TheVariants as taken
use Rattle.site_desk.specs.declared.fault.AskFault.{AskFault}
use Rattle.site_desk.specs.declared.fault.AskFault.TheVariants as ask_fault
use Rattle.site_desk.specs.declared.fault.NextFault.{NextFault}
use Rattle.site_desk.specs.declared.fault.NextFault.TheVariants as next_fault

-- the answer to a request is the decision: a kept reply where it stands, or a new one at the end
abbrev pub IsAnswer : Decision → ℕ → Answer → Type 0
IsAnswer (decided.Again place reply) len answer = answer ≡ record { reply = reply; place = place; fresh = false }
IsAnswer (decided.Fresh reply) len answer = answer ≡ record { reply = reply; place = len; fresh = true }
IsAnswer (decided.Reused place) len answer = ⊥
IsAnswer decided.Full len answer = ⊥

-- the book was closed, or was open and the fault is the decision, or memory or the store was refused to a fresh one;
-- the numbers are the keeper's failures before and after
abbrev pub IsAskFault : Bool → Decision → ℕ → ℕ → AskFault → Type 0
IsAskFault closed decision before after ask_fault.Closed = closed ≡ true
IsAskFault closed decision before after (ask_fault.Reused place) = (closed ≡ false) × (decision ≡ decided.Reused place)
IsAskFault closed decision before after ask_fault.Full = (closed ≡ false) × (decision ≡ decided.Full)
IsAskFault closed decision before after ask_fault.Memory = (closed ≡ false) × IsFresh decision
IsAskFault closed decision before after ask_fault.Store = (closed ≡ false) × IsFresh decision × (before ≡ 0) × (after ≡ 1)

-- what the book did is the verdict, and the acknowledgement is the one for the message
abbrev pub IsTaken : Verdict → Option Message → Taken → Type 0
IsTaken verdict ack (taken.Joined given) = (verdict ≡ exchange.Joins) × (ack ≡ Some given)
IsTaken verdict ack (taken.NothingNew given) = (verdict ≡ exchange.NothingNew) × (ack ≡ Some given)
IsTaken verdict ack taken.Acked = verdict ≡ exchange.Acks

-- the acknowledgement that is to be sent back, if any
abbrev pub ack_of : Taken → Option Message
ack_of (taken.Joined ack) = Some ack
ack_of (taken.NothingNew ack) = Some ack
ack_of taken.Acked = None

-- as of a request: the fault is the verdict, or memory was refused where it is wanted, or the store to a delta that is joined
abbrev pub IsTakeFault : Bool → Verdict → Type 0 → ℕ → ℕ → TakeFault → Type 0
IsTakeFault closed verdict Wants before after take_fault.Closed = closed ≡ true
IsTakeFault closed verdict Wants before after take_fault.Memory = (closed ≡ false) × Wants
IsTakeFault closed verdict Wants before after take_fault.Store = (closed ≡ false) × (verdict ≡ exchange.Joins) × (before ≡ 0) × (after ≡ 1)
IsTakeFault closed verdict Wants before after fault = (closed ≡ false) × (verdict ≡ exchange.Refuses fault)

-- as of a request: the fault is the decision on the count of sites, or memory or the store was refused to a growth
abbrev pub IsGrowFault : Bool → GrowDecision → ℕ → ℕ → GrowFault → Type 0
IsGrowFault closed decision before after grow_fault.Closed = closed ≡ true
IsGrowFault closed decision before after grow_fault.NotMore = (closed ≡ false) × (decision ≡ grow.NotMore)
IsGrowFault closed decision before after grow_fault.Full = (closed ≡ false) × (decision ≡ grow.Full)
IsGrowFault closed decision before after grow_fault.Memory = (closed ≡ false) × (decision ≡ grow.Grows)
IsGrowFault closed decision before after grow_fault.Store = (closed ≡ false) × (decision ≡ grow.Grows) × (before ≡ 0) × (after ≡ 1)

-- why no message is given to a site that is a peer or not, where this one is due
abbrev pub IsNextFault : Bool → Bool → Option Message → NextFault → Type 0
IsNextFault closed peer due next_fault.Closed = closed ≡ true
IsNextFault closed peer due next_fault.NoSite = (closed ≡ false) × (peer ≡ false)
IsNextFault closed peer due next_fault.Memory = (closed ≡ false) × (peer ≡ true) × IsSome due

-- the site is another one of those that the book counts so far
abbrev pub is_peer : SiteConfig → List Entry → ℕ → Bool
is_peer office history to = nat_lt to (sites_of office history) && not (to == office.me)
