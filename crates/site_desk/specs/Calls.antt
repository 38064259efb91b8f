-- What a call of a site's book makes of the site. (Our own; what is stored before it is answered: a write-ahead log.)
use Rattle.std.specs.Prelude.{◌≡◌, ◌≢◌, ◌⊎◌, ◌↔◌, ℕ, true, false, List, Vec, length, map, Option, Some, Result, Ok, Err, IfOk, IfErr, OnOk, OnErr}
use Rattle.request_ledger.specs.declared.request.Request.{Request}
use Rattle.book_core.specs.declared.entry.Entry.{Entry}
use Rattle.book_core.specs.declared.entry.Entry.TheVariants.{Grown}
use Rattle.book_core.specs.declared.plan.GrowFault.{GrowFault}
use Rattle.book_core.specs.declared.plan.GrowFault.TheVariants as grow
use Rattle.site_exchange.specs.declared.message.Message.{Message}
use Rattle.site_exchange.specs.declared.message.TakeFault.{TakeFault}
use Rattle.site_exchange.specs.declared.message.TakeFault.TheVariants as take
use Rattle.site_exchange.specs.Exchange.{Joins, NothingNew, SitePart, ack_for, entry_of_take}
use Rattle.site_exchange.specs.Taking.{MayTake, site_after, with_entry}
use Rattle.history_keeper.specs.declared.keeper.Keeper.{Ghosts}
use Rattle.history_keeper.specs.declared.meta.Meta.{Meta}
use Rattle.history_keeper.specs.Keeping.{LeavesEither, LeavesOnly}
use Rattle.site_desk.specs.declared.answer.Answer.{Answer}
use Rattle.site_desk.specs.declared.answer.Taken.{Taken}
use Rattle.site_desk.specs.declared.fault.AskFault.{AskFault}
use Rattle.site_desk.specs.declared.fault.AskFault.TheVariants as ask
use Rattle.site_desk.specs.declared.receipt.Receipt.{Receipt}
use Rattle.site_desk.specs.Answers.{IsAnswer, IsAskFault, IsGrowFault, IsTakeFault, IsTaken}
use Rattle.site_desk.specs.Batch.{AreAnswered, IsAskAllFault, LeavesAsked, fresh_in}
use Rattle.site_desk.specs.SiteView.{SiteView, decision_in, entry_in, grow_decision_in, growth_in, site_of, verdict_in}

-- what a keeper shows: the ghost members of its trait
abbrev pub Keeping : Type 0 → Type 1
Keeping K = Ghosts K

-- A call that may add an entry: it made what is due, or it left the site as it was and, where the store failed, closed. Of an open site
-- a crash leaves the history and nothing else; of one whose store failed, the history with the entry or without.
pub record SiteCall {K T F : Type 0} (k : Keeping K) (old new : SiteView K) (entry : Option Entry) (due : SitePart) (closed store : F)
    (result : Result T F) : Type 0 where
  pub office : new.book.office ≡ old.book.office
  pub made : OnOk result (site_of new ≡ due)
  pub unchanged : OnErr result (site_of new ≡ site_of old)
  pub shut : (result ≡ Err closed) ↔ (old.closed ≡ true)
  pub closes : (new.closed ≡ true) ↔ ((old.closed ≡ true) ⊎ (result ≡ Err store))
  pub untouched : IfErr result (λ fault. fault ≢ store → new.keeper ≡ old.keeper)
  pub stored : new.closed ≡ false → k.is_trusted new.keeper → new.book.history ≡ k.kept new.keeper
  pub rests : new.closed ≡ false → k.is_trusted new.keeper → LeavesOnly new.book.history (k.may_leave new.keeper)
  pub stopped : result ≡ Err store → k.is_trusted new.keeper → LeavesEither old.book.history entry (k.may_leave new.keeper)
  pub site : k.is_trusted new.keeper → (meta : Meta) → k.is_of old.keeper meta → k.is_of new.keeper meta
  pub trusted : k.is_trusted new.keeper → k.is_trusted old.keeper

-- a request: the decision on it is answered; a kept reply and a refusal change nothing
pub record AskCall {K : Type 0} (k : Keeping K) (old new : SiteView K) (number : ℕ) (request : Request) (result : Result Answer AskFault) : Type 0 where
  pub call : SiteCall k old new (entry_in old.book number request) (with_entry (entry_in old.book number request) (site_of old)) ask.Closed ask.Store result
  pub answer : IfOk result (IsAnswer (decision_in old.book number request) (length old.book.history))
  pub fault : IfErr result (IsAskFault old.closed (decision_in old.book number request) (k.failed old.keeper) (k.failed new.keeper))
  pub again : IfOk result (λ answer. answer.fresh ≡ false → new ≡ old)
  pub refused : IfErr result (λ fault. fault ≢ ask.Memory → fault ≢ ask.Store → new ≡ old)

-- the answer beside a receipt
abbrev pub answer_in : Result (Answer × Receipt) AskFault → Result Answer AskFault
answer_in (Ok given) = Ok given.0
answer_in (Err fault) = Err fault

-- several requests, one after another: each is answered by the history that those before it left, and all new entries are stored at once,
-- before any is answered; where nothing is new the keeper is left alone. Where the store failed nothing is entered, and a crash leaves the
-- history or all that they would have made of it.
pub record AskAllCall {K : Type 0} (k : Keeping K) (old new : SiteView K) (requests : List (ℕ × Request))
    (result : Result (List (Result Answer AskFault)) AskFault) : Type 0 where
  pub office : new.book.office ≡ old.book.office
  pub acked : new.acked ≡ old.acked
  pub answered : IfOk result (λ answers. AreAnswered old.book.office old.book.history requests answers new.book.history)
  pub unchanged : OnErr result (new.book.history ≡ old.book.history)
  pub fault : IfErr result (IsAskAllFault old.closed (k.failed old.keeper) (k.failed new.keeper))
  pub shut : (result ≡ Err ask.Closed) ↔ (old.closed ≡ true)
  pub closes : (new.closed ≡ true) ↔ ((old.closed ≡ true) ⊎ (result ≡ Err ask.Store))
  pub untouched : IfErr result (λ fault. fault ≢ ask.Store → new ≡ old)
  pub stored : new.closed ≡ false → k.is_trusted new.keeper → new.book.history ≡ k.kept new.keeper
  pub rests : new.closed ≡ false → k.is_trusted new.keeper → LeavesOnly new.book.history (k.may_leave new.keeper)
  pub still : IfOk result (λ answers. fresh_in answers ≡ 0 → new.keeper ≡ old.keeper)
  pub stopped : result ≡ Err ask.Store → LeavesAsked old.book.office old.book.history requests (k.is_trusted new.keeper) (k.may_leave new.keeper)
  pub site : k.is_trusted new.keeper → (meta : Meta) → k.is_of old.keeper meta → k.is_of new.keeper meta
  pub trusted : k.is_trusted new.keeper → k.is_trusted old.keeper

-- the answers as a list, and those beside receipts
abbrev pub listed : {A Z F : Type 0} → Result (Vec A Z) F → Result (List A) F
listed (Ok all) = Ok all.items
listed (Err fault) = Err fault

abbrev pub answers_in : {Z : Type 0} → Result (Vec (Result (Answer × Receipt) AskFault) Z) AskFault → Result (List (Result Answer AskFault)) AskFault
answers_in (Ok given) = Ok (map answer_in given.items)
answers_in (Err fault) = Err fault

-- how many of the answers beside receipts are fresh
abbrev pub fresh_given : List (Result (Answer × Receipt) AskFault) → ℕ
fresh_given given = fresh_in (map answer_in given)

-- a message: the verdict on it is answered, with the acknowledgement that is due; what brings nothing new and what is refused change nothing
pub record TakeCall {K : Type 0} (k : Keeping K) (old new : SiteView K) (message : Message) (result : Result Taken TakeFault) : Type 0 where
  pub call : SiteCall k old new (entry_of_take old.book.office old.book.history message) (site_after (verdict_in old.book message) message (site_of old))
      take.Closed take.Store result
  pub taken : IfOk result (IsTaken (verdict_in old.book message) (ack_for message))
  pub fault : IfErr result (IsTakeFault old.closed (verdict_in old.book message) (MayTake (verdict_in old.book message) (site_of old) message)
      (k.failed old.keeper) (k.failed new.keeper))
  pub still : verdict_in old.book message ≢ Joins → new.book ≡ old.book
  pub again : OnOk result (verdict_in old.book message ≢ Joins → new.keeper ≡ old.keeper)
  pub known : verdict_in old.book message ≡ NothingNew → new ≡ old
  pub refused : IfErr result (λ fault. fault ≢ take.Memory → fault ≢ take.Store → new ≡ old)

-- a growth: so many sites are counted from here on; a refusal changes nothing
pub record GrowCall {K : Type 0} (k : Keeping K) (old new : SiteView K) (sites : ℕ) (result : Result (Unit {0}) GrowFault) : Type 0 where
  pub call : SiteCall k old new (growth_in old.book sites) (with_entry (growth_in old.book sites) (site_of old)) grow.Closed grow.Store result
  pub growth : OnOk result (growth_in old.book sites ≡ Some (Grown sites))
  pub fault : IfErr result (IsGrowFault old.closed (grow_decision_in old.book sites) (k.failed old.keeper) (k.failed new.keeper))
  pub refused : IfErr result (λ fault. fault ≢ grow.Memory → fault ≢ grow.Store → new ≡ old)
