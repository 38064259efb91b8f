-- What several requests make of a history, and one request more behind them.
use Rattle.std.proofs.Common.{◌≡◌, inl, inr, ℕ, zero, suc, Bool, true, false, cond, ◌+◌, ◌<◌, ◌≤◌, get_or, Option, Some, None, arith, append-nil, length-append, List, [], ◌∷◌, ◌++◌, length, take, drop, Result, Ok, Err, refl, sym, subst, ap, ◌∙◌}
use Rattle.request_ledger.specs.declared.request.Request.{Request}
use Rattle.book_core.specs.declared.entry.Entry.{Entry}
use Rattle.book_core.specs.Decision.{SiteConfig, decision, entry_of_ask, sites_of}
use Rattle.site_exchange.specs.Taking.{extended}
use Rattle.site_desk.specs.declared.answer.Answer.{Answer}
use Rattle.site_desk.specs.declared.fault.AskFault.{AskFault}
use Rattle.site_desk.specs.Answers.{IsAnswer, IsAskFault}
use Rattle.site_desk.specs.Batch.{AreAnswered, LeavesAsked, fresh_in, is_fresh}
use Rattle.std.specs.Prelude.{IfOk, IfErr, OnOk, OnErr}
use Rattle.site_exchange.specs.Pendings.{ExchangeView, IsExchangeOf}
use Rattle.history_keeper.specs.Keeping.{LeavesAllOrNone}
use Rattle.site_desk.specs.Count.{HasOneMoreIf, asked_since}
use Rattle.site_desk.proofs.Growth.{asked_since_below, asked_since_push, one_more_if_fresh}
use Rattle.std.proofs.lemmas.List.Sums.{sum_by-cons}
use Rattle.site_exchange.proofs.Counts.{count_asked}
use Rattle.site_exchange.proofs.ExchangeLaws.{exchange_entered}
use Rattle.std.proofs.lemmas.List.{append_assoc, take-append-drop, take-append-le}
use Rattle.std.proofs.Math.Seq.{take-append_seam, take-suc}

pub answered_next : (office : SiteConfig) (old mid new : List Entry) (requests : List (ℕ × Request)) (answers : List (Result Answer AskFault))
    (r : ℕ × Request) (a : Result Answer AskFault)
    → AreAnswered office old requests answers mid → AreAnswered office mid (r ∷ []) (a ∷ []) new
    → AreAnswered office old (requests ++ r ∷ []) (answers ++ a ∷ []) new
answered_next office old mid new [] [] r a before next = subst (λ h. AreAnswered office h (r ∷ []) (a ∷ []) new) before next
answered_next office old mid new [] (b ∷ answers) r a before next = absurd before
answered_next office old mid new (q ∷ requests) [] r a before next = absurd before
answered_next office old mid new (q ∷ requests) (Ok b ∷ answers) r a before next
    = (before.0, answered_next office (extended (entry_of_ask office old q.0 q.1) old) mid new requests answers r a before.1 next)
answered_next office old mid new (q ∷ requests) (Err fault ∷ answers) r a before next
    = (before.0, answered_next office old mid new requests answers r a before.1 next)

more_by : (entry : Option Entry) (h : List Entry) → (more : List Entry) × (extended entry h ≡ h ++ more)
more_by None h = ([], sym (append-nil h))
more_by (Some entry) h = (entry ∷ [], refl)

pub longer_by : (entry : Option Entry) (h : List Entry) → length h ≤ length (extended entry h)
longer_by entry h = let first = more_by entry h in omega (arith, ap length first.1, length-append h first.0)

-- the history goes on by what was entered
pub answered_more : (office : SiteConfig) (old new : List Entry) (requests : List (ℕ × Request)) (answers : List (Result Answer AskFault))
    → AreAnswered office old requests answers new
    → (more : List Entry) × (new ≡ old ++ more)
answered_more office old new [] [] is = ([], is ∙ sym (append-nil old))
answered_more office old new [] (b ∷ answers) is = absurd is
answered_more office old new (q ∷ requests) [] is = absurd is
answered_more office old new (q ∷ requests) (Ok b ∷ answers) is =
    let entry = entry_of_ask office old q.0 q.1 in
    let first = more_by entry old in
    let rest = answered_more office (extended entry old) new requests answers is.1 in
    (first.0 ++ rest.0, rest.1 ∙ ap (λ h. h ++ rest.0) first.1 ∙ append_assoc old first.0 rest.0)
answered_more office old new (q ∷ requests) (Err fault ∷ answers) is = answered_more office old new requests answers is.1

pub answered_longer : (office : SiteConfig) (old new : List Entry) (requests : List (ℕ × Request)) (answers : List (Result Answer AskFault))
    → AreAnswered office old requests answers new → length old ≤ length new
answered_longer office old new requests answers is = let it = answered_more office old new requests answers is in omega
    (arith, ap length it.1, length-append old it.0)

-- and no request changes what is pending for a peer
pub exchange_answered : (office : SiteConfig) (old new : List Entry) (requests : List (ℕ × Request)) (answers : List (Result Answer AskFault))
    (e : ExchangeView) → AreAnswered office old requests answers new
    → IsExchangeOf office old e → IsExchangeOf office new e
exchange_answered office old new [] [] e is before = subst (λ h. IsExchangeOf office h e) (sym is) before
exchange_answered office old new [] (b ∷ answers) e is before = absurd is
exchange_answered office old new (q ∷ requests) [] e is before = absurd is
exchange_answered office old new (q ∷ requests) (Ok b ∷ answers) e is before =
    let entry = entry_of_ask office old q.0 q.1 in
    let came : Result Answer AskFault = Ok b in
    exchange_answered office (extended entry old) new requests answers e is.1
    (exchange_entered came office office entry old (extended entry old) e refl refl tt (count_asked office old q.0 q.1) before)
exchange_answered office old new (q ∷ requests) (Err fault ∷ answers) e is before = exchange_answered office old new requests answers e is.1 before

pub answered_goes_on : (office : SiteConfig) (old new : List Entry) (requests : List (ℕ × Request)) (answers : List (Result Answer AskFault))
    → AreAnswered office old requests answers new → take (length old) new ≡ old
answered_goes_on office old new requests answers is = let it = answered_more office old new requests answers is in rw it.1 (take-append_seam old it.0)

one_answered : (office : SiteConfig) (old new : List Entry) (r : ℕ × Request) (a : Result Answer AskFault)
    → IfOk a (IsAnswer (decision office old r.0 r.1) (length old)) → OnOk a (new ≡ extended (entry_of_ask office old r.0 r.1) old)
    → IfErr a (IsAskFault false (decision office old r.0 r.1) 0 0) → OnErr a (new ≡ old) → AreAnswered office old (r ∷ []) (a ∷ []) new
one_answered office old new r (Ok b) answer entered fault same = (answer, entered)
one_answered office old new r (Err f) answer entered fault same = (fault, same)

-- the k-th of the requests is answered, behind those before it
pub answered_at : (office now_office : SiteConfig) (old mid new : List Entry) (requests : List (ℕ × Request)) (k : ℕ) (r : ℕ × Request)
    (answers now : List (Result Answer AskFault)) (a : Result Answer AskFault)
    → k < length requests → r ≡ get_or requests k r → now_office ≡ office → now ≡ answers ++ a ∷ [] → AreAnswered office old (take k requests) answers mid
    → IfOk a (IsAnswer (decision now_office mid r.0 r.1) (length mid)) → OnOk a (new ≡ extended (entry_of_ask now_office mid r.0 r.1) mid)
    → IfErr a (IsAskFault false (decision now_office mid r.0 r.1) 0 0) → OnErr a (new ≡ mid) → AreAnswered office old (take (k + 1) requests) now new
answered_at office now_office old mid new requests k r answers now a within is same pushed before answer entered fault still =
    let one = subst (λ o. AreAnswered o mid (r ∷ []) (a ∷ []) new) same (one_answered now_office mid new r a answer entered fault still) in
    let e : k + 1 ≡ suc k = omega arith in
    let more : take (k + 1) requests ≡ take k requests ++ r ∷ [] = rw e (take-suc requests k r within ∙ ap (λ x. take k requests ++ x ∷ []) (sym is)) in
    rw (more, pushed) (answered_next office old mid new (take k requests) answers r a before one)

-- what was entered ahead is behind the first history, and is taken back to it
pub taken_back : (office : SiteConfig) (old mid : List Entry) (requests : List (ℕ × Request)) (answers : List (Result Answer AskFault)) (place : ℕ)
    → place ≡ length old → AreAnswered office old requests answers mid
    → take place mid ≡ old
taken_back office old mid requests answers place at is = rw at (answered_goes_on office old mid requests answers is)

pub as_many : (office : SiteConfig) (old new : List Entry) (requests : List (ℕ × Request)) (answers : List (Result Answer AskFault))
    → AreAnswered office old requests answers new → length answers ≡ length requests
as_many office old new [] [] is = refl
as_many office old new [] (b ∷ answers) is = absurd is
as_many office old new (q ∷ requests) [] is = absurd is
as_many office old new (q ∷ requests) (Ok b ∷ answers) is = ap suc (as_many office (extended (entry_of_ask office old q.0 q.1) old) new requests answers is.1)
as_many office old new (q ∷ requests) (Err fault ∷ answers) is = ap suc (as_many office old new requests answers is.1)

-- no request changes the count of sites
pub sites_answered : (office : SiteConfig) (old new : List Entry) (requests : List (ℕ × Request)) (answers : List (Result Answer AskFault))
    → AreAnswered office old requests answers new → sites_of office new ≡ sites_of office old
sites_answered office old new [] [] is = ap (sites_of office) is
sites_answered office old new [] (b ∷ answers) is = absurd is
sites_answered office old new (q ∷ requests) [] is = absurd is
sites_answered office old new (q ∷ requests) (Ok b ∷ answers) is =
    sites_answered office (extended (entry_of_ask office old q.0 q.1) old) new requests answers is.1 ∙ count_asked office old q.0 q.1
sites_answered office old new (q ∷ requests) (Err fault ∷ answers) is = sites_answered office old new requests answers is.1

pub sites_asked_all : (result : Result (List (Result Answer AskFault)) AskFault) (office : SiteConfig) (old new : List Entry) (requests : List (ℕ × Request))
    → IfOk result (λ answers. AreAnswered office old requests answers new) → OnErr result (new ≡ old) → sites_of office new ≡ sites_of office old
sites_asked_all (Ok answers) office old new requests is same = sites_answered office old new requests answers is
sites_asked_all (Err fault) office old new requests is same = ap (sites_of office) same

pub longer_asked_all : (result : Result (List (Result Answer AskFault)) AskFault) (office : SiteConfig) (old new : List Entry) (requests : List (ℕ × Request))
    → IfOk result (λ answers. AreAnswered office old requests answers new) → OnErr result (new ≡ old) → length old ≤ length new
longer_asked_all (Ok answers) office old new requests is same = answered_longer office old new requests answers is
longer_asked_all (Err fault) office old new requests is same = omega (arith, ap length same)

pub exchange_asked_all : (result : Result (List (Result Answer AskFault)) AskFault) (office now_office : SiteConfig) (old new : List Entry)
    (requests : List (ℕ × Request)) (e : ExchangeView) → now_office ≡ office
    → IfOk result (λ answers. AreAnswered office old requests answers new) → OnErr result (new ≡ old) → IsExchangeOf office old e
    → IsExchangeOf now_office new e
exchange_asked_all (Ok answers) office now_office old new requests e of is same before = subst (λ o. IsExchangeOf o new e) (sym of)
    (exchange_answered office old new requests answers e is before)
exchange_asked_all (Err fault) office now_office old new requests e of is same before = subst (λ o. IsExchangeOf o new e) (sym of)
    (subst (λ h. IsExchangeOf office h e) (sym same) before)

-- each fresh answer stands for one request more
asked_one : (fresh : Bool) (place opening : ℕ) (old new : List Entry) → opening ≤ length old → HasOneMoreIf fresh place old new
    → (asked_since opening new ≡ asked_since opening old + cond fresh 1 0) × (opening ≤ length new)
asked_one true place opening old new within is = (
  ap (asked_since opening) is.1 ∙ asked_since_push opening old is.0 within ∙ ap (λ b. asked_since opening old + cond b 1 0) is.2,
  omega (arith, ap length is.1, length-append old (is.0 ∷ [])),
)
asked_one false place opening old new within is = (
  ap (asked_since opening) is ∙ (let e : asked_since opening old ≡ asked_since opening old + 0 = omega arith in e),
  omega (arith, ap length is),
)

pub asked_answered : (office : SiteConfig) (opening : ℕ) (old new : List Entry) (requests : List (ℕ × Request)) (answers : List (Result Answer AskFault))
    → opening ≤ length old → AreAnswered office old requests answers new
    → asked_since opening new ≡ asked_since opening old + fresh_in answers
asked_answered office opening old new [] [] within is = ap (asked_since opening) is
    ∙ (let e : asked_since opening old ≡ asked_since opening old + 0 = omega arith in e)
asked_answered office opening old new [] (b ∷ answers) within is = absurd is
asked_answered office opening old new (q ∷ requests) [] within is = absurd is
asked_answered office opening old new (q ∷ requests) (Ok b ∷ answers) within is =
    let mid = extended (entry_of_ask office old q.0 q.1) old in
    let one = asked_one b.fresh b.place opening old mid within (one_more_if_fresh (Ok b) office old mid q.0 q.1 is.0 refl) in
    let rest = asked_answered office opening mid new requests answers one.1 is.1 in
    let first = sum_by-cons (λ a. cond (is_fresh a) 1 0) (Ok b) answers in
    omega (arith, rest, one.0, first)
asked_answered office opening old new (q ∷ requests) (Err fault ∷ answers) within is =
    let rest = asked_answered office opening old new requests answers within is.1 in
    let first = sum_by-cons (λ a. cond (is_fresh a) 1 0) (Err fault) answers in
    omega (arith, rest, first)

-- the total that is counted, once each fresh answer is counted too
pub counted_all : (office : SiteConfig) (opening total fresh : ℕ) (old new : List Entry) (requests : List (ℕ × Request))
    (answers given : List (Result Answer AskFault)) → opening ≤ length old → total ≡ asked_since opening old → given ≡ answers
    → fresh ≡ fresh_in given → AreAnswered office old requests answers new → (total + fresh ≡ asked_since opening new) × (opening ≤ length new)
    × (total + fresh + opening ≤ length new)
counted_all office opening total fresh old new requests answers given within counted same are is =
    let all = asked_answered office opening old new requests answers within is in
    let longer : opening ≤ length new = omega (arith, within, answered_longer office old new requests answers is) in
    let sum : total + fresh ≡ asked_since opening new = omega (arith, all, counted, are, ap fresh_in same) in
    (sum, longer, omega (arith, sum, asked_since_below opening new longer))

-- what goes on from a history goes on from its beginning
pub goes_on_from : (office : SiteConfig) (began old new : List Entry) (requests : List (ℕ × Request)) (answers : List (Result Answer AskFault))
    → length began ≤ length old → take (length began) old ≡ began → AreAnswered office old requests answers new
    → take (length began) new ≡ began
goes_on_from office began old new requests answers within goes_on is =
    let it = answered_more office old new requests answers is in
    rw it.1 (take-append-le (length began) old it.0 within ∙ goes_on)

-- where no answer is fresh the history stays
unchanged_one : (fresh : Bool) (place : ℕ) (old new : List Entry) → HasOneMoreIf fresh place old new → ◌≡◌ {A = ℕ} (cond fresh 1 0) 0 → new ≡ old
unchanged_one true place old new is none = absurd (omega (arith, none))
unchanged_one false place old new is none = is

pub none_fresh : (office : SiteConfig) (old new : List Entry) (requests : List (ℕ × Request)) (answers : List (Result Answer AskFault))
    → AreAnswered office old requests answers new → fresh_in answers ≡ 0 → new ≡ old
none_fresh office old new [] [] is none = is
none_fresh office old new [] (b ∷ answers) is none = absurd is
none_fresh office old new (q ∷ requests) [] is none = absurd is
none_fresh office old new (q ∷ requests) (Ok b ∷ answers) is none =
    let mid = extended (entry_of_ask office old q.0 q.1) old in
    let first = sum_by-cons (λ a. cond (is_fresh a) 1 0) (Ok b) answers in
    let here : ◌≡◌ {A = ℕ} (cond b.fresh 1 0) 0 = omega (arith, none, first) in
    let rest : fresh_in answers ≡ 0 = omega (arith, none, first) in
    none_fresh office mid new requests answers is.1 rest
    ∙ unchanged_one b.fresh b.place old mid (one_more_if_fresh (Ok b) office old mid q.0 q.1 is.0 refl) here
none_fresh office old new (q ∷ requests) (Err fault ∷ answers) is none =
    let first = sum_by-cons (λ a. cond (is_fresh a) 1 0) (Err fault) answers in
    let rest : fresh_in answers ≡ 0 = omega (arith, none, first) in
    none_fresh office old new requests answers is.1 rest

pub no_longer : (office : SiteConfig) (old mid : List Entry) (requests : List (ℕ × Request)) (answers : List (Result Answer AskFault)) (place : ℕ)
    → place ≡ length old → AreAnswered office old requests answers mid → fresh_in answers ≡ 0 → length mid ≤ place
no_longer office old mid requests answers place at is none = omega (arith, at, ap length (none_fresh office old mid requests answers is none))

-- the store has all of it or none, where it was called
pub leaves_asked : (office : SiteConfig) (old mid : List Entry) (requests : List (ℕ × Request)) (answers : List (Result Answer AskFault)) (place : ℕ)
    (is_trusted : Type 0) (may_leave : Option (List Entry) → Type 0) → place ≡ length old
    → AreAnswered office old requests answers mid → (length mid ≤ place → ⊥) → (is_trusted → LeavesAllOrNone (take place mid) (drop place mid) may_leave)
    → LeavesAsked office old requests is_trusted may_leave
leaves_asked office old mid requests answers place is_trusted may_leave at is called stopped = record {
  answers = answers;
  after = mid;
  answered = is;
  something_new = more_than_none (fresh_in answers) refl;
  leaves = λ trusted left h. elim (stopped trusted left h) [
    | inl none ↦ inl (none ∙ ap Some (taken_back office old mid requests answers place at is))
    | inr all ↦ inr (all ∙ ap Some (take-append-drop place mid))
  ];
}
  where
    more_than_none : (n : ℕ) → fresh_in answers ≡ n → 0 < n
    more_than_none zero none = absurd (called (no_longer office old mid requests answers place at is none))
    more_than_none (suc n) some = omega arith
