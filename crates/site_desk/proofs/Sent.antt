-- What a site sends, by what it was asked.
use Rattle.std.proofs.Common.{◌≡◌, ℕ, Bool, true, false, List, length, get_or, Option, Some, None, refl, sym, subst, Result, Ok, Err}
use Rattle.std.specs.Prelude.{IfOk, IfSome, if◌then◌else◌, ◌==◌}
use Rattle.rights_lattice.specs.State.{State}
use Rattle.book_core.specs.declared.entry.Entry.{Entry}
use Rattle.book_core.specs.Decision.{SiteConfig}
use Rattle.book_core.specs.History.{interval}
use Rattle.book_core.specs.Joining as join
use Rattle.site_exchange.specs.declared.message.Message.{Message}
use Rattle.site_exchange.specs.declared.message.Message.TheVariants.{Delta, Ack}
use Rattle.site_exchange.specs.declared.message.CheckFault.{CheckFault}
use Rattle.site_exchange.specs.declared.message.TakeFault.{TakeFault}
use Rattle.site_exchange.specs.Exchange.{SitePart, Acks, ack_for, check, next, receiver, verdict, verdict_if, verdict_of}
use Rattle.site_desk.specs.declared.answer.Taken.{Taken}
use Rattle.site_desk.specs.declared.answer.Taken.TheVariants.{Joined, NothingNew, Acked}
use Rattle.site_desk.specs.declared.fault.NextFault.{NextFault}
use Rattle.site_desk.specs.Answers.{IsTaken, ack_of}

-- only an acknowledgement acknowledges
acks_of : (d : join.JoinDecision) → verdict_of d ≡ Acks → ⊥
acks_of join.Joins e = cc
acks_of join.NothingNew e = cc
acks_of (join.Refuses fault) e = cc

-- what is taken as an acknowledgement is acknowledged by nothing
pub none_sent : (o : Option CheckFault) (office : SiteConfig) (h : List Entry) (m : Message) → verdict_if o office h m ≡ Acks → None ≡ ack_for m
none_sent (Some fault) office h m e = cc
none_sent None office h (Delta by to upto delta) e = absurd (acks_of (join.join_decision office h by delta) e)
none_sent None office h (Ack by to upto) e = refl

pub ack_taken : (result : Result Taken TakeFault) (office : SiteConfig) (h : List Entry) (m : Message)
    → IfOk result (IsTaken (verdict office h m) (ack_for m)) → IfOk result (λ t. ack_of t ≡ ack_for m)
ack_taken (Ok (Joined ack)) office h m is = sym is.1
ack_taken (Ok (NothingNew ack)) office h m is = sym is.1
ack_taken (Ok Acked) office h m is = none_sent (check office h m) office h m is
ack_taken (Err fault) office h m is = tt

next_if : (has_all : Bool) (me to upto : ℕ) (delta : State) → IfSome (if has_all then None else Some (Delta me to upto delta)) (λ m. receiver m ≡ to)
next_if true me to upto delta = tt
next_if false me to upto delta = refl

pub next_sent : (result : Result (Option Message) NextFault) (me : ℕ) (site : SitePart) (to : ℕ) → IfOk result (λ message. message ≡ next me site to)
    → IfOk result (λ message. IfSome message (λ m. receiver m ≡ to))
next_sent (Ok message) me site to is =
    subst (λ (sent : Option Message). IfSome sent (λ m. receiver m ≡ to)) (sym is)
    (next_if (get_or site.acked to 0 == length site.history) me to (length site.history)
    (interval site.history (get_or site.acked to 0) (length site.history)))
next_sent (Err fault) me site to is = tt
