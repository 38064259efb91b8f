-- What a plan is, and why there is none. (Our own.)
use Rattle.std.specs.Prelude.{◌≡◌, ℕ, false}
use Rattle.request_ledger.specs.Requests.{is_done}
use Rattle.book_core.specs.declared.entry.Entry.{Entry}
use Rattle.book_core.specs.declared.entry.Entry.TheVariants.{Asked, Joined, Grown}
use Rattle.request_ledger.specs.declared.request.Request.{Request}
use Rattle.request_ledger.specs.declared.reply.Reply.{Reply}
use Rattle.book_core.specs.declared.plan.Plan.{Plan}
use Rattle.book_core.specs.declared.plan.Plan.TheVariants as plan
use Rattle.book_core.specs.declared.plan.PlanFault.{PlanFault}
use Rattle.book_core.specs.declared.plan.PlanFault.TheVariants as fault
use Rattle.book_core.specs.Decision.{Decision, Again, Reused, Full, Fresh, decision}
use Rattle.book_core.specs.declared.plan.JoinPlan.{JoinPlan}
use Rattle.book_core.specs.declared.plan.JoinPlan.TheVariants as join_plan
use Rattle.book_core.specs.declared.plan.JoinDecision.{JoinDecision}
use Rattle.book_core.specs.declared.plan.JoinFault.{JoinFault}
use Rattle.book_core.specs.declared.plan.JoinFault.TheVariants as join_fault
use Rattle.book_core.specs.declared.plan.GrowFault.{GrowFault}
use Rattle.book_core.specs.declared.plan.GrowFault.TheVariants as grow_fault
use Rattle.rights_lattice.specs.State.{State}
use Rattle.book_core.specs.Growing as grow
use Rattle.book_core.specs.Growing.{grow_decision}
use Rattle.book_core.specs.Joining as join
use Rattle.book_core.specs.Joining.{decision_told, join_decision}
use Rattle.book_core.specs.BookView.{BookView, HasRoomFor, KeepsRoom, MayFollow}

-- the entry is of this number and this request
abbrev pub IsEntryOf : ℕ → Request → Entry → Type 0
IsEntryOf number request (Asked n q reply delta) = (n ≡ number) × (q ≡ request)
IsEntryOf number request (Joined peer delta) = ⊥
IsEntryOf number request (Grown sites) = ⊥

-- the entry is of a request
abbrev pub IsAsked : Entry → Type 0
IsAsked (Asked number request reply delta) = Unit {0}
IsAsked (Joined peer delta) = ⊥
IsAsked (Grown sites) = ⊥

-- the entry is of a request that has this reply
abbrev pub HasReply : Entry → Reply → Type 0
HasReply (Asked number request reply delta) r = r ≡ reply
HasReply (Joined peer delta) r = ⊥
HasReply (Grown sites) r = ⊥

-- the entry may follow the book's history, and the book has room for it
pub record IsReady (book : BookView) (entry : Entry) : Type 0 where
  pub next : MayFollow book entry
  pub room : HasRoomFor book.room entry

-- the plan is the decision on the request
abbrev pub IsPlan : BookView → ℕ → Request → Plan → Type 0
IsPlan book number request (plan.Again place reply) = decision book.office book.history number request ≡ Again place reply
IsPlan book number request (plan.New entry) = IsEntryOf number request entry × IsReady book entry

-- the decision is a reply that is entered
abbrev pub IsFresh : Decision → Type 0
IsFresh (Again place reply) = ⊥
IsFresh (Reused place) = ⊥
IsFresh Full = ⊥
IsFresh (Fresh reply) = Unit {0}

-- the fault is the decision on the request, or memory was refused to a fresh one
abbrev pub IsFault : BookView → ℕ → Request → PlanFault → Type 0
IsFault book number request (fault.Reused place) = decision book.office book.history number request ≡ Reused place
IsFault book number request fault.Full = decision book.office book.history number request ≡ Full
IsFault book number request fault.Memory = IsFresh (decision book.office book.history number request)

-- where nothing is entered the book stays wholly as it is, its room too; for an entry no room is lost
abbrev pub LeavesRoom : Decision → BookView → BookView → Type 0
LeavesRoom (Fresh reply) old new = KeepsRoom old.room new.room
LeavesRoom _ old new = new ≡ old

-- a fresh reply that adds nothing to the state
abbrev pub IsFreshRefusal : Decision → Type 0
IsFreshRefusal (Fresh reply) = is_done reply ≡ false
IsFreshRefusal _ = ⊥

-- what a book tells of a delta is the decision on it
abbrev pub IsJoinDecision : BookView → ℕ → State → JoinDecision → Type 0
IsJoinDecision book peer delta told = decision_told told ≡ join_decision book.office book.history peer delta

-- the plan is the decision on the delta
abbrev pub IsJoinPlan : BookView → ℕ → State → JoinPlan → Type 0
IsJoinPlan book peer delta join_plan.NothingNew = join_decision book.office book.history peer delta ≡ join.NothingNew
IsJoinPlan book peer delta (join_plan.New entry) =
    (join_decision book.office book.history peer delta ≡ join.Joins) × (entry ≡ Joined peer delta) × IsReady book entry

-- where nothing is joined the book stays wholly as it is, its room too; for an entry no room is lost
abbrev pub LeavesJoinRoom : join.JoinDecision → BookView → BookView → Type 0
LeavesJoinRoom join.Joins old new = KeepsRoom old.room new.room
LeavesJoinRoom _ old new = new ≡ old

-- the fault is the decision on the delta, or memory was refused to one that is joined
abbrev pub IsJoinFault : BookView → ℕ → State → JoinFault → Type 0
IsJoinFault book peer delta join_fault.Memory = join_decision book.office book.history peer delta ≡ join.Joins
IsJoinFault book peer delta fault = join_decision book.office book.history peer delta ≡ join.Refuses fault

-- the plan is the decision on the count of sites
pub record IsGrowPlan (book : BookView) (sites : ℕ) (entry : Entry) : Type 0 where
  pub grows : grow_decision book.office book.history sites ≡ grow.Grows
  pub is_growth : entry ≡ Grown sites
  pub ready : IsReady book entry

-- where nothing grows the book stays wholly as it is, its room too; for an entry no room is lost
abbrev pub LeavesGrowRoom : grow.GrowDecision → BookView → BookView → Type 0
LeavesGrowRoom grow.Grows old new = KeepsRoom old.room new.room
LeavesGrowRoom _ old new = new ≡ old

-- the fault is the decision on the count, or memory was refused to a growth
abbrev pub IsGrowFault : BookView → ℕ → GrowFault → Type 0
IsGrowFault book sites grow_fault.NotMore = grow_decision book.office book.history sites ≡ grow.NotMore
IsGrowFault book sites grow_fault.Full = grow_decision book.office book.history sites ≡ grow.Full
IsGrowFault book sites grow_fault.Memory = grow_decision book.office book.history sites ≡ grow.Grows
IsGrowFault book sites _ = ⊥
