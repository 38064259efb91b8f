-- How many sites a site counts, as it goes on. For callers.
use Rattle.std.proofs.Common.{◌≡◌, ℕ, List, Some, refl}
use Rattle.request_ledger.specs.declared.request.Request.{Request}
use Rattle.rights_lattice.specs.State.{State}
use Rattle.book_core.specs.declared.entry.Entry.{Entry}
use Rattle.book_core.specs.declared.entry.Entry.TheVariants.{Asked, Joined, Grown}
use Rattle.book_core.specs.Decision.{Decision, Again, Reused, Full, Fresh, SiteConfig, decision, delta_for, entry_if, entry_of_ask, sites_of}
use Rattle.book_core.specs.Joining as join
use Rattle.book_core.specs.Joining.{entry_of_join, join_decision, joined_if}
use Rattle.book_core.specs.Plans.{IsEntryOf}
use Rattle.book_core.proofs.Histories.{sites_of-push}
use Rattle.site_exchange.specs.declared.message.Message.{Message}
use Rattle.site_exchange.specs.declared.message.Message.TheVariants.{Delta, Ack}
use Rattle.site_exchange.specs.Exchange.{Verdict, Joins, NothingNew, Acks, Refuses, taken_if as entry_of_verdict, entry_of_take, verdict}
use Rattle.site_exchange.specs.Taking.{extended}

pub count_joined : (office : SiteConfig) (h : List Entry) (peer : ℕ) (delta : State)
    → sites_of office (extended (Some (Joined peer delta)) h) ≡ sites_of office h
count_joined office h peer delta = sites_of-push office h (Joined peer delta)

-- of an entry of a request
pub count_entry : (office : SiteConfig) (h : List Entry) (number : ℕ) (request : Request) (entry : Entry) → IsEntryOf number request entry
    → sites_of office (extended (Some entry) h) ≡ sites_of office h
count_entry office h number request (Asked n q reply delta) is = sites_of-push office h (Asked n q reply delta)
count_entry office h number request (Joined peer delta) is = absurd is
count_entry office h number request (Grown sites) is = absurd is

count_decided : (d : Decision) (office : SiteConfig) (h : List Entry) (number : ℕ) (request : Request)
    → sites_of office (extended (entry_if d office h number request) h) ≡ sites_of office h
count_decided (Again place reply) office h number request = refl
count_decided (Fresh reply) office h number request = sites_of-push office h (Asked number request reply (delta_for office h request reply))
count_decided (Reused place) office h number request = refl
count_decided Full office h number request = refl

-- neither a request nor a message changes the count of sites
pub count_asked : (office : SiteConfig) (h : List Entry) (number : ℕ) (request : Request)
    → sites_of office (extended (entry_of_ask office h number request) h) ≡ sites_of office h
count_asked office h number request = count_decided (decision office h number request) office h number request

count_join_decided : (d : join.JoinDecision) (office : SiteConfig) (h : List Entry) (peer : ℕ) (delta : State)
    → sites_of office (extended (joined_if d peer delta) h) ≡ sites_of office h
count_join_decided join.Joins office h peer delta = count_joined office h peer delta
count_join_decided join.NothingNew office h peer delta = refl
count_join_decided (join.Refuses fault) office h peer delta = refl

pub count_of_join : (office : SiteConfig) (h : List Entry) (peer : ℕ) (delta : State)
    → sites_of office (extended (entry_of_join office h peer delta) h) ≡ sites_of office h
count_of_join office h peer delta = count_join_decided (join_decision office h peer delta) office h peer delta

count_judged : (v : Verdict) (office : SiteConfig) (h : List Entry) (m : Message) → sites_of office (extended (entry_of_verdict v m) h) ≡ sites_of office h
count_judged Joins office h (Delta by to upto delta) = count_joined office h by delta
count_judged Joins office h (Ack by to upto) = refl
count_judged NothingNew office h m = refl
count_judged Acks office h m = refl
count_judged (Refuses fault) office h m = refl

pub count_taken : (office : SiteConfig) (h : List Entry) (m : Message) → sites_of office (extended (entry_of_take office h m) h) ≡ sites_of office h
count_taken office h m = count_judged (verdict office h m) office h m
