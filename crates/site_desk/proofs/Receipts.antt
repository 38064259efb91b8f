-- What is answered stands in the history then.
use Rattle.std.proofs.Common.{◌≡◌, ℕ, suc, ◌+◌, Bool, true, false, cond, ◌&&◌, List, [], ◌∷◌, ◌++◌, length, Option, Some, None, slice_get, refl, sym, ap, subst, ◌∙◌, arith}
use Rattle.std.specs.Prelude.{nat_eq}
use Rattle.std.specs.Option.{option_eq}
use Rattle.std.proofs.lemmas.Bool.{eqb-true, true≢false}
use Rattle.rights_lattice.specs.State.{State}
use Rattle.rights_lattice.specs.Cell.{same_event}
use Rattle.rights_lattice.proofs.SpotLaws.{same_event_is}
use Rattle.request_ledger.specs.declared.request.Request.{Request}
use Rattle.request_ledger.specs.declared.request.Request.TheVariants.{Announce, Release, Sell, Refund, Cede}
use Rattle.request_ledger.specs.declared.reply.Reply.{Reply}
use Rattle.request_ledger.specs.declared.reply.Kept.{Kept}
use Rattle.request_ledger.specs.Ledger.{kept_under}
use Rattle.request_ledger.specs.Requests.{same_request}
use Rattle.book_core.specs.declared.entry.Entry.{Entry}
use Rattle.book_core.specs.declared.entry.Entry.TheVariants.{Asked, Joined, Grown}
use Rattle.book_core.specs.Decision.{Decision, Again, Reused, Full, Fresh, SiteConfig, decision, decision_if, delta_for, entry_if, reply_to}
use Rattle.book_core.specs.History.{asked_from, kept}
use Rattle.site_exchange.specs.Taking.{extended}
use Rattle.site_desk.specs.declared.answer.Answer.{Answer}
use Rattle.site_desk.specs.Answers.{IsAnswer}
use Rattle.site_desk.specs.Finish.{StandsIn, receipt_of}

both : (a b : Bool) → (a && b) ≡ true → (a ≡ true) × (b ≡ true)
both true true is = (refl, refl)
both true false is = cc
both false b is = cc

same_part : (a b : Option ℕ) → option_eq nat_eq a b ≡ true → a ≡ b
same_part None None is = refl
same_part None (Some n) is = cc
same_part (Some n) None is = cc
same_part (Some n) (Some m) is = ap Some (eqb-true n m is)

-- the test is equality
is_request : (a b : Request) → same_request a b ≡ true → a ≡ b
is_request (Announce e) (Announce f) is = ap Announce (same_event_is e f is)
is_request (Release e n) (Release f m) is = let w = both (same_event e f) (nat_eq n m) is in λ i. Release (same_event_is e f w.0 i) (eqb-true n m w.1 i)
is_request (Sell e n) (Sell f m) is = let w = both (same_event e f) (nat_eq n m) is in λ i. Sell (same_event_is e f w.0 i) (eqb-true n m w.1 i)
is_request (Refund s p) (Refund t q) is = let w = both (nat_eq s t) (option_eq nat_eq p q) is in λ i. Refund (eqb-true s t w.0 i) (same_part p q w.1 i)
is_request (Cede e t n) (Cede f u m) is =
    let w = both (same_event e f && nat_eq t u) (nat_eq n m) is in
    let v = both (same_event e f) (nat_eq t u) w.0 in
    λ i. Cede (same_event_is e f v.0 i) (eqb-true t u v.1 i) (eqb-true n m w.1 i)
is_request _ _ is = absurd (true≢false (sym is))

-- the entry at this many places behind the first is what is kept under the number
abbrev IsThere : ℕ → List Entry → ℕ → Kept → Type 0
IsThere place h number k = (i : ℕ) × (k.place ≡ place + i) × (delta : State) × (slice_get h i ≡ Some (Asked number k.request k.reply delta))

behind : (place : ℕ) (h : List Entry) (entry : Entry) (number : ℕ) (k : Kept) → IsThere (place + 1) h number k → IsThere place (entry ∷ h) number k
behind place h entry number k is = (suc is.0, omega (arith, is.1), is.2, is.3)

there_if : (b : Bool) (place n : ℕ) (request : Request) (reply : Reply) (delta : State) (h : List Entry) (number : ℕ) (k : Kept) → nat_eq n number ≡ b
    → cond b (Some (record { place = place; request = request; reply = reply })) (kept_under (asked_from (place + 1) h) number) ≡ Some k
    → (kept_under (asked_from (place + 1) h) number ≡ Some k → IsThere (place + 1) h number k) → IsThere place (Asked n request reply delta ∷ h) number k
there_if true place n request reply delta h number k same is later =
    let first : record { place = place; request = request; reply = reply } ≡ k = cc in
    subst (IsThere place (Asked n request reply delta ∷ h) number) first
    (0, omega arith, delta, ap (λ m. Some (Asked m request reply delta)) (eqb-true n number same))
there_if false place n request reply delta h number k same is later = behind place h (Asked n request reply delta) number k (later is)

there : (place : ℕ) (h : List Entry) (number : ℕ) (k : Kept) → kept_under (asked_from place h) number ≡ Some k → IsThere place h number k
there place [] number k is = cc
there place (Joined peer delta ∷ h) number k is = behind place h (Joined peer delta) number k (there (place + 1) h number k is)
there place (Grown sites ∷ h) number k is = behind place h (Grown sites) number k (there (place + 1) h number k is)
there place (Asked n request reply delta ∷ h) number k is = there_if (nat_eq n number) place n request reply delta h number k refl is
    (there (place + 1) h number k)

-- a kept reply stands where it is kept
stands_again : (history : List Entry) (number : ℕ) (request : Request) (k : Kept) (a : Answer) → kept history number ≡ Some k
    → same_request k.request request ≡ true
    → a ≡ record { reply = k.reply; place = k.place; fresh = false } → StandsIn history (receipt_of number request a)
stands_again history number request k a found same is =
    let w = there 0 history number k found in
    let at : w.0 ≡ k.place = omega (arith, w.1) in
    subst (λ (x : Answer). StandsIn history (receipt_of number request x)) (sym is) (
      w.2,
      subst (λ p. slice_get history p ≡ Some (Asked number request k.reply w.2)) at
          (w.3 ∙ ap (λ r. Some (Asked number r k.reply w.2)) (is_request k.request request same)),
    )

last_of : (h : List Entry) (entry : Entry) → slice_get (h ++ entry ∷ []) (length h) ≡ Some entry
last_of [] entry = refl
last_of (e ∷ h) entry = last_of h entry

pub stands_then : (d : Decision) (office : SiteConfig) (old new : List Entry) (number : ℕ) (request : Request) (a : Answer)
    → decision office old number request ≡ d
    → IsAnswer d (length old) a → new ≡ extended (entry_if d office old number request) old → StandsIn new (receipt_of number request a)
stands_then (Fresh reply) office old new number request a what is now =
    let delta = delta_for office old request reply in
    subst (λ (x : Answer). StandsIn new (receipt_of number request x)) (sym is)
    (delta, ap (λ h. slice_get h (length old)) now ∙ last_of old (Asked number request reply delta))
stands_then (Again place reply) office old new number request a what is now = subst (λ h. StandsIn h (receipt_of number request a)) (sym now)
    (by_kept (kept old number) refl what)
  where
    by_same : (k : Kept) (b : Bool) → kept old number ≡ Some k → same_request k.request request ≡ b
        → cond b (Again k.place k.reply) (Reused k.place) ≡ Again place reply → StandsIn old (receipt_of number request a)
    by_same k true found same what =
        let where_kept : k.place ≡ place = cc in
        let as_kept : k.reply ≡ reply = cc in
        stands_again old number request k a found same (is ∙ λ i. record { reply = sym as_kept i; place = sym where_kept i; fresh = false })
    by_same k false found same what = cc

    by_room : (b : Bool) (reply' : Reply) → cond b Full (Fresh reply') ≡ Again place reply → StandsIn old (receipt_of number request a)
    by_room true reply' what = cc
    by_room false reply' what = cc

    by_kept : (o : Option Kept) → kept old number ≡ o → decision_if o office old request ≡ Again place reply → StandsIn old (receipt_of number request a)
    by_kept (Some k) found what = by_same k (same_request k.request request) found refl what
    by_kept None found what = by_room _ (reply_to office old request) what
stands_then (Reused place) office old new number request a what is now = absurd is
stands_then Full office old new number request a what is now = absurd is
