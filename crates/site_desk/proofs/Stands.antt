-- What is answered at a desk to several requests, by the site that they left.
use Rattle.std.proofs.Common.{◌≡◌, ℕ, zero, suc, true, false, ◌≤◌, List, [], ◌∷◌, ◌++◌, All, map, take, length, Some, slice_get, Result, Ok, Err, refl, ap, subst, sym, arith}
use Rattle.std.specs.Prelude.{IfOk, Vec}
use Rattle.std.specs.List.{AllZip}
use Rattle.std.proofs.lemmas.List.{take_all}
use Rattle.std.proofs.lemmas.List.Elements.{All-cons, All-nil}
use Rattle.request_ledger.specs.declared.request.Request.{Request}
use Rattle.book_core.specs.declared.entry.Entry.{Entry}
use Rattle.book_core.specs.Decision.{Decision, Again, Reused, Full, Fresh, SiteConfig, decision, entry_of_ask}
use Rattle.site_exchange.specs.Taking.{extended}
use Rattle.site_desk.specs.declared.answer.Answer.{Answer}
use Rattle.site_desk.specs.declared.fault.AskFault.{AskFault}
use Rattle.site_desk.specs.declared.fault.AskFault.TheVariants as ask_fault
use Rattle.site_desk.specs.declared.receipt.Receipt.{Receipt}
use Rattle.site_desk.specs.Answers.{IsAnswer, IsAskFault}
use Rattle.site_desk.specs.Batch.{AreAnswered}
use Rattle.site_desk.specs.Calls.{AskAllCall, Keeping, answer_in, answers_in}
use Rattle.site_desk.specs.Finish.{HasItsReceipt, StandsIn, receipt_of}
use Rattle.site_desk.specs.Moments.{AtOneMoment, IsAtDesk, StandsGiven}
use Rattle.site_desk.specs.SiteView.{SiteView}
use Rattle.site_desk.proofs.Batch.{answered_goes_on, answered_longer, answered_more, longer_by}
use Rattle.site_desk.proofs.Moments.{open_if_ok, still_open}
use Rattle.site_desk.proofs.Receipts.{stands_then}

module _ {K : Type 0} (office : SiteConfig) (began : List Entry) (InStep : SiteView K → Type 0) (site : SiteView K)
    (at_desk : IsAtDesk office began InStep site) (is_open : site.closed ≡ false) where
  -- what is answered stands in it
  pub stands_given : (h : List Entry) (requests : List (ℕ × Request)) (given : List (Result (Answer × Receipt) AskFault)) → AllZip HasItsReceipt requests given
      → AreAnswered site.book.office h requests (map answer_in given) site.book.history → All (StandsGiven office began InStep) given
  stands_given h [] [] receipts is = All-nil (StandsGiven office began InStep)
  stands_given h [] (g ∷ given) receipts is = absurd is
  stands_given h (r ∷ requests) [] receipts is = absurd is
  stands_given h (r ∷ requests) (Ok g ∷ given) receipts is =
      let mid = extended (entry_of_ask site.book.office h r.0 r.1) h in
      let then = stands_then (decision site.book.office h r.0 r.1) site.book.office h mid r.0 r.1 g.0 refl is.0 refl in
      let more = answered_more site.book.office mid site.book.history requests (map answer_in given) is.1 in
      All-cons (StandsGiven office began InStep) (Ok g) given
      (record {
        site = site;
        at_desk = at_desk;
        holds = (
          is_open,
          subst (StandsIn site.book.history) (sym receipts.0)
              (subst (λ x. StandsIn x (receipt_of r.0 r.1 g.0)) (sym more.1) (then.0, before mid more.0 g.0.place then.1)),
        );
      })
      (stands_given mid requests given receipts.1 is.1)
    where
      before : (xs ys : List Entry) (k : ℕ) {x : Entry} → slice_get xs k ≡ Some x → slice_get (xs ++ ys) k ≡ Some x
      before [] ys k found = cc
      before (e ∷ xs) ys zero found = found
      before (e ∷ xs) ys (suc k) found = before xs ys k found
  stands_given h (r ∷ requests) (Err fault ∷ given) receipts is = All-cons (StandsGiven office began InStep) (Err fault) given tt
      (stands_given h requests given receipts.1 is.1)

-- what a call at a desk answers, by the site that it found and the one that it left
open_after : {K Z : Type 0} {k : Keeping K} (old new : SiteView K) (requests : List (ℕ × Request)) (given : Vec (Result (Answer × Receipt) AskFault) Z)
    → AskAllCall k old new requests (answers_in (Ok given)) → new.closed ≡ false
open_after old new requests given is =
    let answers = map answer_in given.items in
    still_open answers ask_fault.Store old.closed new.closed (open_if_ok answers ask_fault.Closed old.closed is.shut) is.closes

answered_now : {K Z : Type 0} {k : Keeping K} (old new : SiteView K) (requests : List (ℕ × Request)) (given : Vec (Result (Answer × Receipt) AskFault) Z)
    → AskAllCall k old new requests (answers_in (Ok given))
    → AreAnswered new.book.office old.book.history requests (map answer_in given.items) new.book.history
answered_now old new requests given is = subst (λ o. AreAnswered o old.book.history requests (map answer_in given.items) new.book.history) (sym is.office)
    is.answered

pub stands_all : {K Z : Type 0} {k : Keeping K} {office : SiteConfig} {began : List Entry} {InStep : SiteView K → Type 0} (old new : SiteView K)
    (requests : List (ℕ × Request)) (result : Result (Vec (Result (Answer × Receipt) AskFault) Z) AskFault)
    → AskAllCall k old new requests (answers_in result) → IsAtDesk office began InStep new
    → IfOk result (λ given. AllZip HasItsReceipt requests given.items) → IfOk result (λ given. All (StandsGiven office began InStep) given.items)
stands_all {K} {Z} {k} {office} {began} {InStep} old new requests (Ok given) is stays receipts =
    stands_given office began InStep new stays (open_after old new requests given is) old.book.history requests given.items receipts
    (answered_now old new requests given is)
stands_all old new requests (Err fault) is stays receipts = tt
