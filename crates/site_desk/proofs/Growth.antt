-- One entry more.
use Rattle.std.proofs.Common.{◌≡◌, ℕ, ◌+◌, ◌≤◌, List, [], ◌∷◌, ◌++◌, drop, length, cond, refl, sym, ap, ◌∙◌, subst, arith, length-append, length-drop, Result, Ok, Err}
use Rattle.std.specs.Prelude.{IfOk, OnOk, OnErr}
use Rattle.std.specs.List.{count_by, sum_by}
use Rattle.std.proofs.lemmas.List.Sums.{count_by-le-length, sum_by-append}
use Rattle.std.proofs.lemmas.List.{drop-append-le}
use Rattle.request_ledger.specs.declared.request.Request.{Request}
use Rattle.book_core.specs.declared.entry.Entry.{Entry}
use Rattle.book_core.specs.declared.entry.Entry.TheVariants.{Joined}
use Rattle.book_core.specs.Decision.{Decision, Again, Reused, Full, Fresh, SiteConfig, decision, entry_if, entry_of_ask, sites_of}
use Rattle.book_core.proofs.Histories.{sites_of-push}
use Rattle.site_exchange.proofs.Counts.{count_asked}
use Rattle.site_exchange.specs.declared.message.Message.{Message}
use Rattle.site_exchange.specs.declared.message.Message.TheVariants.{Delta, Ack}
use Rattle.site_exchange.specs.Exchange.{SitePart, Verdict, Joins, NothingNew, Acks, Refuses}
use Rattle.site_exchange.specs.Taking.{extended, site_after}
use Rattle.site_desk.specs.declared.answer.Answer.{Answer}
use Rattle.site_desk.specs.declared.fault.AskFault.{AskFault}
use Rattle.site_desk.specs.Answers.{IsAnswer}
use Rattle.site_desk.specs.Count.{is_asked, asked_since, HasOneMoreIf}

-- what an answer says of the history after it
one_more : (d : Decision) (office : SiteConfig) (old new : List Entry) (number : ℕ) (request : Request) (a : Answer)
    → IsAnswer d (length old) a → new ≡ extended (entry_if d office old number request) old → HasOneMoreIf a.fresh a.place old new
one_more (Again place reply) office old new number request a is now = subst (λ (x : Answer). HasOneMoreIf x.fresh x.place old new) (sym is) now
one_more (Fresh reply) office old new number request a is now = subst (λ (x : Answer). HasOneMoreIf x.fresh x.place old new) (sym is) (_, now, refl, refl)
one_more (Reused place) office old new number request a is now = absurd is
one_more Full office old new number request a is now = absurd is

pub one_more_if_fresh : (result : Result Answer AskFault) (office : SiteConfig) (old new : List Entry) (number : ℕ) (request : Request)
    → IfOk result (IsAnswer (decision office old number request) (length old)) → OnOk result (new ≡ extended (entry_of_ask office old number request) old)
    → IfOk result (λ a. HasOneMoreIf a.fresh a.place old new)
one_more_if_fresh (Ok a) office old new number request is now = one_more (decision office old number request) office old new number request a is now
one_more_if_fresh (Err fault) office old new number request is now = tt

pub asked_since_push : (opening : ℕ) (es : List Entry) (e : Entry) → opening ≤ length es
    → asked_since opening (es ++ e ∷ []) ≡ asked_since opening es + cond (is_asked e) 1 0
asked_since_push opening es e within =
    ap (count_by is_asked) (drop-append-le opening es (e ∷ []) within) ∙ sum_by-append (λ x. cond (is_asked x) 1 0) (drop opening es) (e ∷ [])
    ∙ ap (λ n. asked_since opening es + n) (sum_by-one (λ x. cond (is_asked x) 1 0) e)
  where
    sum_by-one : (f : Entry → ℕ) (x : Entry) → sum_by f (x ∷ []) ≡ f x
    sum_by-one f x = grind (arith, sum_by-append)

-- no more requests stand from a place on than entries do
pub asked_since_below : (opening : ℕ) (es : List Entry) → opening ≤ length es → asked_since opening es + opening ≤ length es
asked_since_below opening es within = omega (arith, count_by-le-length is_asked (drop opening es), length-drop opening es)

-- a message adds no request
after_verdict : (v : Verdict) (m : Message) (old : SitePart) (opening : ℕ) → opening ≤ length old.history
    → (asked_since opening (site_after v m old).history ≡ asked_since opening old.history) × (opening ≤ length (site_after v m old).history)
after_verdict Joins (Delta by to upto delta) old opening within = (
  asked_since_push opening old.history (Joined by delta) within
      ∙ (let e : asked_since opening old.history + 0 ≡ asked_since opening old.history = omega arith in e),
  omega (arith, within, length-append old.history (Joined by delta ∷ [])),
)
after_verdict Joins (Ack by to upto) old opening within = (refl, within)
after_verdict NothingNew m old opening within = (refl, within)
after_verdict Acks (Ack by to upto) old opening within = (refl, within)
after_verdict Acks (Delta by to upto delta) old opening within = (refl, within)
after_verdict (Refuses fault) m old opening within = (refl, within)

pub taken : {A E : Type 0} (result : Result A E) (v : Verdict) (m : Message) (old new : SitePart) (opening : ℕ) → opening ≤ length old.history
    → OnOk result (new ≡ site_after v m old) → OnErr result (new ≡ old)
    → (asked_since opening new.history ≡ asked_since opening old.history) × (opening ≤ length new.history)
taken (Ok a) v m old new opening within is same = subst (λ (s : SitePart). (asked_since opening s.history ≡ asked_since opening old.history)
    × (opening ≤ length s.history)) (sym is) (after_verdict v m old opening within)
taken (Err e) v m old new opening within is same = subst (λ (s : SitePart). (asked_since opening s.history ≡ asked_since opening old.history)
    × (opening ≤ length s.history)) (sym same) (refl, within)

-- neither a request nor a message changes the count of sites
pub sites_asked : (result : Result Answer AskFault) (office : SiteConfig) (old new : List Entry) (number : ℕ) (request : Request)
    → OnOk result (new ≡ extended (entry_of_ask office old number request) old) → OnErr result (new ≡ old) → sites_of office new ≡ sites_of office old
sites_asked (Ok a) office old new number request now same = ap (sites_of office) now ∙ count_asked office old number request
sites_asked (Err fault) office old new number request now same = ap (sites_of office) same

sites_after_verdict : (v : Verdict) (m : Message) (old : SitePart) (office : SiteConfig)
    → sites_of office (site_after v m old).history ≡ sites_of office old.history
sites_after_verdict Joins (Delta by to upto delta) old office = sites_of-push office old.history (Joined by delta)
sites_after_verdict Joins (Ack by to upto) old office = refl
sites_after_verdict NothingNew m old office = refl
sites_after_verdict Acks (Ack by to upto) old office = refl
sites_after_verdict Acks (Delta by to upto delta) old office = refl
sites_after_verdict (Refuses fault) m old office = refl

pub sites_taken : {A E : Type 0} (result : Result A E) (v : Verdict) (m : Message) (old new : SitePart) (office : SiteConfig)
    → OnOk result (new ≡ site_after v m old) → OnErr result (new ≡ old) → sites_of office new.history ≡ sites_of office old.history
sites_taken (Ok a) v m old new office is same = ap (λ (s : SitePart). sites_of office s.history) is ∙ sites_after_verdict v m old office
sites_taken (Err e) v m old new office is same = ap (λ (s : SitePart). sites_of office s.history) same
