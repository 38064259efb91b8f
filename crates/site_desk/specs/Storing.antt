-- An entry is stored before it is entered, and a book is started from what is stored. (Our own: a write-ahead log.)
use Rattle.std.specs.Prelude.{◌≡◌, ◌≢◌, ℕ, false, List, Option, Result, Err, IfOk, IfErr, OnOk, OnErr, MatchResult}
use Rattle.request_ledger.specs.declared.request.Request.{Request}
use Rattle.book_core.specs.declared.entry.Entry.{Entry}
use Rattle.book_core.specs.BookView.{BookView}
use Rattle.site_exchange.specs.Exchange.{zeros}
use Rattle.site_exchange.specs.Taking.{extended}
use Rattle.history_keeper.specs.declared.keeper.KeepFault.{KeepFault}
use Rattle.history_keeper.specs.declared.meta.Meta.{Meta}
use Rattle.history_keeper.specs.Keeping.{Keeps, LeavesEither, LeavesOnly, LeavesWithOrWithout}
use Rattle.history_keeper.specs.Meta.{office_of}
use Rattle.site_desk.specs.declared.answer.Answer.{Answer}
use Rattle.site_desk.specs.declared.fault.AskFault.{AskFault}
use Rattle.site_desk.specs.declared.fault.AskFault.TheVariants as ask
use Rattle.site_desk.specs.Batch.{AreAnswered, IsAskAllFault, LeavesAsked, fresh_in}
use Rattle.site_desk.specs.Calls.{Keeping}
use Rattle.site_desk.specs.SiteView.{SiteView}

-- a start: the open book of these entries, over the keeper, with nothing acknowledged
pub record IsStarted {K : Type 0} (k : Keeping K) (keeper : K) (entries : List Entry) (meta : Meta) (site : SiteView K) : Type 0 where
  pub opened : site.closed ≡ false
  pub history : site.book.history ≡ entries
  pub office : site.book.office ≡ office_of meta
  pub acknowledged : site.acked ≡ zeros
  pub keeper_is : site.keeper ≡ keeper
  pub rests : k.is_trusted site.keeper → LeavesOnly site.book.history (k.may_leave site.keeper)

-- a keeper that has not failed stores this history, as far as it is to be trusted, and a crash leaves it
pub record IsStoredBy {K : Type 0} (k : Keeping K) (keeper : K) (history : List Entry) : Type 0 where
  pub sound : k.failed keeper ≡ 0
  pub same : k.is_trusted keeper → history ≡ k.kept keeper
  pub rests : k.is_trusted keeper → LeavesOnly history (k.may_leave keeper)

-- an entry was given to a keeper of the first history: it stores the second, or failed and a crash leaves the first with the entry or without
pub record Appends {K : Type 0} (k : Keeping K) (old new : K) (before after : List Entry) (entry : Entry) (result : Result (Unit {0}) KeepFault) : Type 0 where
  pub failed : MatchResult result (λ _. k.failed new ≡ 0) (λ _. k.failed new ≡ 1)
  pub kept : OnOk result (k.is_trusted new → Keeps after (k.kept new) (k.may_leave new))
  pub stopped : OnErr result (k.is_trusted new → LeavesWithOrWithout before entry (k.may_leave new))
  pub site : k.is_trusted new → (meta : Meta) → k.is_of old meta → k.is_of new meta
  pub trusted : k.is_trusted new → k.is_trusted old

-- at an open book an entry, if any, was stored and then entered, or the store failed and nothing was entered
pub record Enters {K T F : Type 0} (k : Keeping K) (book book_now : BookView) (keeper keeper_now : K) (entry : Option Entry) (store : F)
    (result : Result T F) : Type 0 where
  pub office : book_now.office ≡ book.office
  pub entered : OnOk result (book_now.history ≡ extended entry book.history)
  pub unchanged : OnErr result (book_now.history ≡ book.history)
  pub untouched : IfErr result (λ fault. fault ≢ store → keeper_now ≡ keeper)
  pub stored : OnOk result (IsStoredBy k keeper_now book_now.history)
  pub stopped : result ≡ Err store → k.is_trusted keeper_now → LeavesEither book.history entry (k.may_leave keeper_now)
  pub site : k.is_trusted keeper_now → (meta : Meta) → k.is_of keeper meta → k.is_of keeper_now meta
  pub trusted : k.is_trusted keeper_now → k.is_trusted keeper

-- at an open book several requests were answered in turn, and all that is new was stored at once; or nothing was entered
pub record EntersAll {K : Type 0} (k : Keeping K) (book book_now : BookView) (keeper keeper_now : K) (requests : List (ℕ × Request))
    (result : Result (List (Result Answer AskFault)) AskFault) : Type 0 where
  pub office : book_now.office ≡ book.office
  pub answered : IfOk result (λ answers. AreAnswered book.office book.history requests answers book_now.history)
  pub unchanged : OnErr result (book_now.history ≡ book.history)
  pub fault : IfErr result (IsAskAllFault false (k.failed keeper) (k.failed keeper_now))
  pub untouched : IfErr result (λ fault. fault ≢ ask.Store → (book_now ≡ book) × (keeper_now ≡ keeper))
  pub stored : OnOk result (IsStoredBy k keeper_now book_now.history)
  pub still : IfOk result (λ answers. fresh_in answers ≡ 0 → keeper_now ≡ keeper)
  pub stopped : result ≡ Err ask.Store → LeavesAsked book.office book.history requests (k.is_trusted keeper_now) (k.may_leave keeper_now)
  pub site : k.is_trusted keeper_now → (meta : Meta) → k.is_of keeper meta → k.is_of keeper_now meta
  pub trusted : k.is_trusted keeper_now → k.is_trusted keeper
