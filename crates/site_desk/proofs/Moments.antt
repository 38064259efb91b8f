-- What a call at a desk answers, by the book that it found.
use Rattle.std.proofs.Common.{◌≡◌, ◌⊎◌, inl, inr, ℕ, Bool, true, false, List, Option, Result, Ok, Err, length, refl, ap, subst, sym, ◌∙◌}
use Rattle.std.specs.Prelude.{IfOk, IsSome, ◌↔◌}
use Rattle.rights_lattice.specs.State.{AtOrBelow, knows}
use Rattle.rights_lattice.proofs.SpotLaws.{within_at_or_below}
use Rattle.rights_lattice.proofs.StateLaws.{upper}
use Rattle.request_ledger.specs.declared.request.Request.{Request}
use Rattle.book_core.specs.declared.entry.Entry.{Entry}
use Rattle.book_core.specs.declared.entry.Entry.TheVariants.{Joined}
use Rattle.book_core.specs.Decision.{Decision, SiteConfig}
use Rattle.book_core.specs.History.{state_of}
use Rattle.book_core.proofs.Histories.{state_of-push}
use Rattle.site_exchange.specs.declared.message.Message.{Message}
use Rattle.site_exchange.specs.declared.message.Message.TheVariants.{Ack, Delta}
use Rattle.site_exchange.specs.declared.message.TakeFault.{TakeFault}
use Rattle.site_exchange.specs.declared.message.TakeFault.TheVariants as take_fault
use Rattle.site_exchange.specs.Exchange as exchange
use Rattle.site_exchange.specs.Exchange.{SitePart, Verdict, ack_for, check, next, verdict}
use Rattle.site_exchange.specs.Taking.{MayTake, site_after}
use Rattle.site_exchange.proofs.Verdicts.{verdict_nothing}
use Rattle.site_desk.specs.declared.answer.Answer.{Answer}
use Rattle.site_desk.specs.declared.answer.Seen.{Seen}
use Rattle.site_desk.specs.declared.answer.Taken.{Taken}
use Rattle.site_desk.specs.declared.answer.Taken.TheVariants as taken
use Rattle.site_desk.specs.declared.fault.AskFault.{AskFault}
use Rattle.site_desk.specs.declared.fault.AskFault.TheVariants as ask_fault
use Rattle.site_desk.specs.declared.fault.LookFault.{LookFault}
use Rattle.site_desk.specs.declared.fault.LookFault.TheVariants as look_fault
use Rattle.site_desk.specs.declared.fault.NextFault.{NextFault}
use Rattle.site_desk.specs.declared.fault.NextFault.TheVariants as next_fault
use Rattle.site_desk.specs.declared.receipt.Receipt.{Receipt}
use Rattle.site_desk.specs.Answers.{IsAskFault, IsTaken, IsTakeFault, is_peer}
use Rattle.site_desk.specs.Looks.{IsSeenAt}
use Rattle.site_desk.specs.Calls.{AskCall, Keeping, TakeCall, answer_in}
use Rattle.site_desk.specs.Finish.{StandsIn, receipt_of}
use Rattle.site_desk.specs.Moments.{AtOneMoment, HasDelta, HoldsDelta, HoldsReceipt, IsAtDesk, Looks, Replies, Sends, Takes}
use Rattle.site_desk.specs.SiteView.{SiteView, decision_in, site_of, verdict_in}
use Rattle.site_desk.proofs.Receipts.{stands_then}
use Rattle.site_desk.proofs.Sent.{none_sent}

apart : {T E : Type 0} (x : T) (e : E) → ◌≡◌ {A = Result T E} (Ok x) (Err e) → ⊥
apart x e h = cc

-- a closed book answers nothing
pub open_if_ok : {T E : Type 0} (x : T) (shut : E) (closed : Bool) → ((◌≡◌ {A = Result T E} (Ok x) (Err shut)) ↔ (closed ≡ true)) → closed ≡ false
open_if_ok x shut true both = absurd (apart x shut (both.1 refl))
open_if_ok x shut false both = refl

-- and an open one nothing where the test fails
tested_if_ok : {T E : Type 0} (x : T) (none : E) (closed test : Bool) → closed ≡ false
    → ((◌≡◌ {A = Result T E} (Ok x) (Err none)) ↔ ((closed ≡ false) × (test ≡ false))) → test ≡ true
tested_if_ok x none closed true is both = refl
tested_if_ok x none closed false is both = absurd (apart x none (both.1 (is, refl)))

-- a keeper that refused has failed once
ask_failed : (closed : Bool) (decision : Decision) (before after : ℕ) (fault : AskFault) → IsAskFault closed decision before after fault
    → IsAskFault closed decision before 1 fault
ask_failed closed decision before after ask_fault.Closed is = is
ask_failed closed decision before after (ask_fault.Reused place) is = is
ask_failed closed decision before after ask_fault.Full is = is
ask_failed closed decision before after ask_fault.Memory is = is
ask_failed closed decision before after ask_fault.Store is = (is.0, is.1, is.2, refl)

take_failed : (closed : Bool) (verdict : Verdict) (Wants : Type 0) (before after : ℕ) (fault : TakeFault)
    → IsTakeFault closed verdict Wants before after fault → IsTakeFault closed verdict Wants before 1 fault
take_failed closed verdict Wants before after take_fault.NotForMe is = is
take_failed closed verdict Wants before after take_fault.UnknownSite is = is
take_failed closed verdict Wants before after (take_fault.StrayAck len) is = is
take_failed closed verdict Wants before after (take_fault.ForeignRow mark) is = is
take_failed closed verdict Wants before after take_fault.Full is = is
take_failed closed verdict Wants before after take_fault.Memory is = is
take_failed closed verdict Wants before after take_fault.Closed is = is
take_failed closed verdict Wants before after take_fault.Store is = (is.0, is.1, is.2, refl)

pub replies : {K : Type 0} {k : Keeping K} (old new : SiteView K) (number : ℕ) (request : Request) (result : Result (Answer × Receipt) AskFault)
    → AskCall k old new number request (answer_in result) → Replies k.failed number request result old
replies old new number request (Ok given) is = (open_if_ok given.0 ask_fault.Closed old.closed is.call.shut, is.answer)
replies {K} {k} old new number request (Err refused) is = ask_failed old.closed (decision_in old.book number request) (k.failed old.keeper)
    (k.failed new.keeper) refused is.fault

pub takes : {K : Type 0} {k : Keeping K} (old new : SiteView K) (message : Message) (result : Result Taken TakeFault) → TakeCall k old new message result
    → Takes k.failed message result old
takes old new message (Ok given) is = (open_if_ok given take_fault.Closed old.closed is.call.shut, is.taken)
takes {K} {k} old new message (Err refused) is =
    take_failed old.closed (verdict_in old.book message) (MayTake (verdict_in old.book message) (site_of old) message) (k.failed old.keeper)
    (k.failed new.keeper) refused is.fault

pub looks : {K : Type 0} (s : SiteView K) (event : List ℕ) (result : Result Seen LookFault)
    → ((result ≡ Err look_fault.Closed) ↔ (s.closed ≡ true))
    → ((result ≡ Err look_fault.Unknown) ↔ ((s.closed ≡ false) × (knows (state_of s.book.history).names event ≡ false)))
    → IfOk result (λ seen. seen.at ≡ length s.book.history) → IfOk result (IsSeenAt s.book.office s.book.history event) → Looks event result s
looks s event (Ok seen) closed unknown at shown =
    let is = open_if_ok seen look_fault.Closed s.closed closed in
    (is, tested_if_ok seen look_fault.Unknown s.closed (knows (state_of s.book.history).names event) is unknown, at, shown)
looks s event (Err look_fault.Closed) closed unknown at shown = closed.0 refl
looks s event (Err look_fault.Unknown) closed unknown at shown = unknown.0 refl

abbrev Given : Type 0
Given = Result (Option Message) NextFault

-- where memory was wanting, the site is open and the other one is a peer
no_memory : (closed peer : Bool) → ((◌≡◌ {A = Given} (Err next_fault.Memory) (Err next_fault.Closed)) ↔ (closed ≡ true))
    → ((◌≡◌ {A = Given} (Err next_fault.Memory) (Err next_fault.NoSite)) ↔ ((closed ≡ false) × (peer ≡ false))) → (closed ≡ false) × (peer ≡ true)
no_memory true peer shut none = absurd (let is = shut.1 refl in cc)
no_memory false true shut none = (refl, refl)
no_memory false false shut none = absurd (let is = none.1 (refl, refl) in cc)

pub sends : {K : Type 0} (s : SiteView K) (to : ℕ) (result : Result (Option Message) NextFault)
    → ((result ≡ Err next_fault.Closed) ↔ (s.closed ≡ true))
    → ((result ≡ Err next_fault.NoSite) ↔ ((s.closed ≡ false) × (is_peer s.book.office s.book.history to ≡ false)))
    → (result ≡ Err next_fault.Memory → IsSome (next s.book.office.me (site_of s) to))
    → IfOk result (λ message. message ≡ next s.book.office.me (site_of s) to) → Sends to result s
sends s to (Ok message) closed none memory due =
    let is = open_if_ok message next_fault.Closed s.closed closed in
    (is, tested_if_ok message next_fault.NoSite s.closed (is_peer s.book.office s.book.history to) is none, due)
sends s to (Err next_fault.Closed) closed none memory due = closed.0 refl
sends s to (Err next_fault.NoSite) closed none memory due = none.0 refl
sends s to (Err next_fault.Memory) closed none memory due =
    let both = no_memory s.closed (is_peer s.book.office s.book.history to) closed none in
    (both.0, both.1, memory refl)

-- what is joined is in the history, and what holds nothing new was
has_joined : (message : Message) (site : SitePart) → HasDelta message (site_after exchange.Joins message site).history
has_joined (Delta by to upto delta) site = subst (AtOrBelow delta) (sym (state_of-push site.history (Joined by delta))) (upper (state_of site.history) delta).1
has_joined (Ack by to upto) site = tt

has_nothing_new : (office : SiteConfig) (message : Message) (history : List Entry) → verdict office history message ≡ exchange.NothingNew
    → HasDelta message history
has_nothing_new office (Delta by to upto delta) history is = within_at_or_below delta (state_of history) (verdict_nothing office history by to upto delta is)
has_nothing_new office (Ack by to upto) history is = tt

has_acked : (office : SiteConfig) (message : Message) (site : SitePart) → verdict office site.history message ≡ exchange.Acks
    → HasDelta message (site_after exchange.Acks message site).history
has_acked office (Delta by to upto delta) site is = absurd
    (let none = none_sent (check office site.history (Delta by to upto delta)) office site.history (Delta by to upto delta) is in cc)
has_acked office (Ack by to upto) site is = tt

has_delta : (given : Taken) (office : SiteConfig) (message : Message) (old new : SitePart)
    → IsTaken (verdict office old.history message) (ack_for message) given → new ≡ site_after (verdict office old.history message) message old
    → HasDelta message new.history
has_delta given office message old new is now = subst (λ (s : SitePart). HasDelta message s.history) (sym now) (by_answer given is)
  where
    by_answer : (given : Taken) → IsTaken (verdict office old.history message) (ack_for message) given
        → HasDelta message (site_after (verdict office old.history message) message old).history
    by_answer (taken.Joined ack) is = subst (λ (v : Verdict). HasDelta message (site_after v message old).history) (sym is.0) (has_joined message old)
    by_answer (taken.NothingNew ack) is = subst (λ (v : Verdict). HasDelta message (site_after v message old).history) (sym is.0)
        (has_nothing_new office message old.history is.0)
    by_answer taken.Acked is = subst (λ (v : Verdict). HasDelta message (site_after v message old).history) (sym is) (has_acked office message old is)

-- a book that was open and whose store did not fail is open
pub still_open : {T E : Type 0} (x : T) (fault : E) (old new : Bool) → old ≡ false
    → ((new ≡ true) ↔ ((old ≡ true) ⊎ (◌≡◌ {A = Result T E} (Ok x) (Err fault)))) → new ≡ false
still_open {T} {E} x fault old false is both = refl
still_open {T} {E} x fault old true is both = absurd (by_cause (both.0 refl))
  where
    by_cause : (old ≡ true) ⊎ (◌≡◌ {A = Result T E} (Ok x) (Err fault)) → ⊥
    by_cause (inl shut) = let both : true ≡ false = sym shut ∙ is in cc
    by_cause (inr failed) = apart x fault failed

pub held : {K : Type 0} {k : Keeping K} {office : SiteConfig} {began : List Entry} {InStep : SiteView K → Type 0} (old new : SiteView K)
    (message : Message) (result : Result Taken TakeFault)
    → TakeCall k old new message result → IsAtDesk office began InStep new → IfOk result (λ _. AtOneMoment office began InStep (HoldsDelta message))
held old new message (Ok given) is stays = record {
  site = new;
  at_desk = stays;
  holds = (
    still_open given take_fault.Store old.closed new.closed (open_if_ok given take_fault.Closed old.closed is.call.shut) is.call.closes,
    has_delta given old.book.office message (site_of old) (site_of new) is.taken is.call.made,
  );
}
held old new message (Err fault) is stays = tt

-- what was answered stands in the book as it was then
pub stands : {K : Type 0} {k : Keeping K} {office : SiteConfig} {began : List Entry} {InStep : SiteView K → Type 0} (old new : SiteView K) (number : ℕ)
    (request : Request) (result : Result (Answer × Receipt) AskFault)
    → AskCall k old new number request (answer_in result) → IfOk result (λ r. r.1 ≡ receipt_of number request r.0) → IsAtDesk office began InStep new
    → IfOk result (λ r. AtOneMoment office began InStep (HoldsReceipt r.1))
stands old new number request (Ok given) is receipt stays = record {
  site = new;
  at_desk = stays;
  holds = (
    still_open given.0 ask_fault.Store old.closed new.closed (open_if_ok given.0 ask_fault.Closed old.closed is.call.shut) is.call.closes,
    subst (StandsIn new.book.history) (sym receipt)
        (stands_then (decision_in old.book number request) old.book.office old.book.history new.book.history number request given.0 refl is.answer
        (ap (λ (s : SitePart). s.history) is.call.made)),
  );
}
stands old new number request (Err fault) is receipt stays = tt

-- a store that failed has closed the book
pub shut : {K T E : Type 0} {office : SiteConfig} {began : List Entry} {InStep : SiteView K → Type 0} (old new : SiteView K) (result : Result T E) (store : E)
    → ((new.closed ≡ true) ↔ ((old.closed ≡ true) ⊎ (result ≡ Err store))) → IsAtDesk office began InStep new → result ≡ Err store
    → AtOneMoment office began InStep (λ s. s.closed ≡ true)
shut old new result store closes stays failed = record { site = new; at_desk = stays; holds = closes.1 (inr failed) }
