-- What each step is answered. (Our own.)
use Rattle.std.specs.Prelude.{◌≡◌, ℕ, ◌⊎◌, true, if◌then◌else◌, nat_lt, List, [], ◌∷◌, length, slice_get, Option, Some, None, Result, Ok, Err, IfErr, IfOk, IsOk, IsSome, IsSomeAnd, OnErr, OnOk}
use Rattle.book_core.specs.declared.plan.PlanFault.TheVariants as fault
use Rattle.book_core.specs.declared.plan.GrowFault.TheVariants as grow_fault
use Rattle.book_core.specs.Decision as decided
use Rattle.book_core.specs.declared.entry.Entry.{Entry}
use Rattle.book_core.specs.Decision.{SiteConfig, decision}
use Rattle.book_core.specs.Growing as growing
use Rattle.book_core.specs.Growing.{grow_decision}
use Rattle.book_core.specs.Plans.{IsFresh}
use Rattle.site_exchange.specs.declared.message.Message.{Message}
use Rattle.site_exchange.specs.Exchange as exchange
use Rattle.site_exchange.specs.Exchange.{Verdict, next, receiver, verdict}
use Rattle.site_exchange.specs.Taking.{MayTake, ack_due}
use Rattle.world_steps.specs.declared.step.Input.{Input}
use Rattle.world_steps.specs.declared.step.Input.TheVariants as input
use Rattle.world_steps.specs.declared.step.Step.{Step}
use Rattle.world_steps.specs.declared.step.Step.TheVariants.{Ask, Send, Deliver, Restart, Stop, Grow}
use Rattle.world_steps.specs.declared.step.Outcome.{Outcome}
use Rattle.world_steps.specs.declared.step.Outcome.TheVariants.{Answered, Refused, Sent, NothingToSend, Joined, NothingNew, Acked, NotTaken, Restarted, Stopped, Grown, NotGrown}
use Rattle.world_steps.specs.declared.step.WorldFault.{WorldFault}
use Rattle.world_steps.specs.declared.step.WorldFault.TheVariants.{NoSite, NoMessage, Memory}
use Rattle.world_steps.specs.World.{World, count, office_at, site_numbered, history_at, is_there, are_peers, judged, after}

abbrev pub answered : decided.Decision → Outcome
answered (decided.Again place reply) = Answered reply
answered (decided.Reused place) = Refused (fault.Reused place)
answered decided.Full = Refused fault.Full
answered (decided.Fresh reply) = Answered reply

-- the message that is due, if any, gets this index
abbrev pub sent_as : Option Message → ℕ → Outcome
sent_as None index = NothingToSend
sent_as (Some message) index = Sent index

-- the acknowledgement, if one is due, gets this index
abbrev pub taken_as : Verdict → ℕ → Outcome
taken_as exchange.Joins index = Joined index
taken_as exchange.NothingNew index = NothingNew index
taken_as exchange.Acks index = Acked
taken_as (exchange.Refuses fault) index = NotTaken fault

abbrev pub grown_as : growing.GrowDecision → Outcome
grown_as growing.Grows = Grown
grown_as growing.NotMore = NotGrown grow_fault.NotMore
grown_as growing.Full = NotGrown grow_fault.Full

abbrev pub delivered_as : World → Option Message → Result Outcome WorldFault
delivered_as w None = Err NoMessage
delivered_as w (Some message) = Ok (taken_as (judged w message) (length w.sent))

-- what a step is answered in a world, want of memory aside
abbrev pub outcome : World → Step → Result Outcome WorldFault
outcome w (Ask i number request) = if nat_lt i (count w) then Ok (answered (decision (office_at w i) (history_at w i) number request)) else Err NoSite
outcome w (Send i j) = if are_peers w i j then Ok (sent_as (next i (site_numbered w i) j) (length w.sent)) else Err NoSite
outcome w (Deliver index) = delivered_as w (slice_get w.sent index)
outcome w (Restart i) = if nat_lt i (count w) then Ok Restarted else Err NoSite
outcome w (Stop i in_hand stored) = if nat_lt i (count w) then (if is_there w.sent in_hand then Ok Stopped else Err NoMessage) else Err NoSite
outcome w (Grow i sites) = if nat_lt i (count w) then Ok (grown_as (grow_decision (office_at w i) (history_at w i) sites)) else Err NoSite

-- what each step of a list is answered
abbrev pub outcomes : List Step → World → List (Result Outcome WorldFault)
outcomes [] w = []
outcomes (step ∷ steps) w = outcome w step ∷ outcomes steps (after w step)

-- a step that gets this fault is due it; want of memory is told of a step alone that is not refused
abbrev pub IsDue : World → Step → WorldFault → Type 0
IsDue w step Memory = IsOk (outcome w step)
IsDue w step NoSite = outcome w step ≡ Err NoSite
IsDue w step NoMessage = outcome w step ≡ Err NoMessage

-- Storing what an input adds may want memory where it is a request that is new, a delta that the site joins, or a
-- growth.
abbrev pub MayStore : SiteConfig → List Entry → List Message → Input → Type 0
MayStore office h sent (input.Request number request) = IsFresh (decision office h number request)
MayStore office h sent (input.Take index) = IsSomeAnd (slice_get sent index) (λ message. verdict office h message ≡ exchange.Joins)
MayStore office h sent (input.Grow sites) = grow_decision office h sites ≡ growing.Grows

-- Making the step may want memory: a kept number and a full history want none, nor does a send where nothing is due,
-- a delivery where no acknowledgement is due and that raises no acknowledged number, starting anew, a stop that
-- stores nothing, or a count of sites that is not taken.
abbrev pub MayWantMemory : World → Step → Type 0
MayWantMemory w (Ask i number request) = IsFresh (decision (office_at w i) (history_at w i) number request)
MayWantMemory w (Send i j) = IsSome (next i (site_numbered w i) j)
MayWantMemory w (Deliver index) =
    IsSomeAnd (slice_get w.sent index) (λ message. IsSome (ack_due (judged w message) message)
    ⊎ MayTake (judged w message) (site_numbered w (receiver message)) message)
MayWantMemory w (Restart i) = ⊥
MayWantMemory w (Stop i in_hand stored) = (stored ≡ true) × MayStore (office_at w i) (history_at w i) w.sent in_hand
MayWantMemory w (Grow i sites) = grow_decision (office_at w i) (history_at w i) sites ≡ growing.Grows

-- what making a step comes to: its answer, and the world after it, or a fault that is due it, and no change
pub record MakesStep (old : World) (step : Step) (new : World) (came : Result Outcome WorldFault) : Type 0 where
  pub outcome : IfOk came (λ o. outcome old step ≡ Ok o)
  pub fault : IfErr came (IsDue old step)
  pub memory : came ≡ Err Memory → MayWantMemory old step
  pub made : OnOk came (new ≡ after old step)
  pub unchanged : OnErr came (new ≡ old)
