-- Where no refund names a part, a sale is given back with all of its seats, and once.
use Rattle.std.proofs.Common.{◌≡◌, ℕ, zero, suc, ◌+◌, ◌≤◌, ◌⊎◌, inl, inr, Bool, true, false, cond, ◌&&◌, List, [], ◌∷◌, Some, None, refl, sym, ap, ◌∙◌, arith, eq-eqb, ne_eqb}
use Rattle.std.specs.Prelude.{◌==◌, ◌||◌, nat_lt}
use Rattle.std.specs.List.{list_any, sum_by}
use Rattle.std.proofs.lemmas.List.Sums.{sum_by-cons}
use Rattle.std.proofs.lemmas.Bool.{le-ltb}
use Rattle.request_ledger.specs.declared.request.Request.{Request}
use Rattle.request_ledger.specs.declared.request.Request.TheVariants.{Refund}
use Rattle.request_ledger.specs.declared.reply.Reply.{Reply}
use Rattle.request_ledger.specs.declared.reply.Reply.TheVariants.{Done, Refunded, TooMany}
use Rattle.request_ledger.specs.declared.reply.Kept.{Kept}
use Rattle.request_ledger.specs.declared.reply.SaleState.{SaleState}
use Rattle.request_ledger.specs.Requests.{is_done}
use Rattle.request_ledger.specs.Ledger.{part_counted, rest_of}
use Rattle.book_core.specs.declared.entry.Entry.{Entry}
use Rattle.book_core.specs.declared.entry.Entry.TheVariants.{Asked, Joined, Grown}
use Rattle.book_core.specs.Decision.{SiteConfig, Refunding, change_of, refund_of, refund_reply, reply_to}
use Rattle.book_core.specs.History.{asked_from, kept, sale_of}
use Rattle.book_core.specs.WholeRefunds.{NamesNoPart, HasNoParts, is_refund_of, was_refunded, SalesAreRefundedWholeOnce}
use Rattle.book_core.proofs.Refunds.{sale_kept, sale_is}

abbrev refunds : ℕ → ℕ × Kept → Bool
refunds sale e = is_done e.1.reply && is_refund_of sale e.1.request

abbrev nothing : ℕ
nothing = 0

-- one entry counts all seats, or none
one : (sale seats n place : ℕ) (request : Request) (reply : Reply) → NamesNoPart request
    → ((refunds sale (n, record { place = place; request = request; reply = reply }) ≡ true)
    × (part_counted sale seats (n, record { place = place; request = request; reply = reply }) ≡ seats))
    ⊎ ((refunds sale (n, record { place = place; request = request; reply = reply }) ≡ false)
    × (part_counted sale seats (n, record { place = place; request = request; reply = reply }) ≡ 0))
one sale seats n place (Refund other None) reply whole = by_tests (is_done reply) (other == sale)
  where
    by_tests : (d s : Bool) → (((d && s) ≡ true) × (cond d (cond s seats 0) 0 ≡ seats)) ⊎ (((d && s) ≡ false) × (cond d (cond s seats 0) 0 ≡ 0))
    by_tests true true = inl (refl, refl)
    by_tests true false = inr (refl, refl)
    by_tests false s = inr (refl, refl)
one sale seats n place (Refund other (Some part)) reply whole = absurd whole
one sale seats n place request reply whole = by_test (is_done reply)
  where
    by_test : (d : Bool) → (((d && false) ≡ true) × (cond d nothing nothing ≡ seats)) ⊎ (((d && false) ≡ false) × (cond d nothing nothing ≡ nothing))
    by_test true = inr (refl, refl)
    by_test false = inr (refl, refl)

-- the entries of a history together count all seats or more, or none
abbrev All : ℕ → ℕ → ℕ → List Entry → Type 0
All sale seats place h =
    ((list_any (refunds sale) (asked_from place h) ≡ true) × (seats ≤ sum_by (part_counted sale seats) (asked_from place h)))
    ⊎ ((list_any (refunds sale) (asked_from place h) ≡ false) × (sum_by (part_counted sale seats) (asked_from place h) ≡ 0))

all : (sale seats place : ℕ) (h : List Entry) → HasNoParts h → All sale seats place h
all sale seats place [] whole = inr (refl, refl)
all sale seats place (Joined peer delta ∷ h) whole = all sale seats (place + 1) h (λ k n q r d found. whole (suc k) n q r d found)
all sale seats place (Grown sites ∷ h) whole = all sale seats (place + 1) h (λ k n q r d found. whole (suc k) n q r d found)
all sale seats place (Asked n q r d ∷ h) whole =
    by_rest (all sale seats (place + 1) h (λ k m p s e found. whole (suc k) m p s e found)) (one sale seats n place q r (whole zero n q r d refl))
  where
    sums : sum_by (part_counted sale seats) (asked_from place (Asked n q r d ∷ h)) ≡ part_counted sale seats
        (n, record { place = place; request = q; reply = r }) + sum_by (part_counted sale seats) (asked_from (place + 1) h)
    sums = sum_by-cons (part_counted sale seats) (n, record { place = place; request = q; reply = r }) (asked_from (place + 1) h)

    by_rest : All sale seats (place + 1) h
        → ((refunds sale (n, record { place = place; request = q; reply = r }) ≡ true)
        × (part_counted sale seats (n, record { place = place; request = q; reply = r }) ≡ seats))
        ⊎ ((refunds sale (n, record { place = place; request = q; reply = r }) ≡ false)
        × (part_counted sale seats (n, record { place = place; request = q; reply = r }) ≡ 0))
        → All sale seats place (Asked n q r d ∷ h)
    by_rest rest (inl here) = inl (ap (λ b. b || list_any (refunds sale) (asked_from (place + 1) h)) here.0, omega (arith, sums, here.1))
    by_rest (inl more) (inr here) = inl (ap (λ b. b || list_any (refunds sale) (asked_from (place + 1) h)) here.0 ∙ more.0, omega (arith, sums, here.1, more.1))
    by_rest (inr more) (inr here) = inr (ap (λ b. b || list_any (refunds sale) (asked_from (place + 1) h)) here.0 ∙ more.0, omega (arith, sums, here.1, more.1))

-- the decision and the amount, from what is left of the sale
decides : (office : SiteConfig) (h : List Entry) (number : ℕ) (sale : SaleState) → sale_of h number ≡ Some sale → 1 ≤ sale.seats
    → ((was_refunded h number ≡ true) × (sale.given_back ≡ sale.seats)) ⊎ ((was_refunded h number ≡ false) × (sale.given_back ≡ 0))
    → (reply_to office h (Refund number None) ≡ cond (was_refunded h number) Refunded Done)
    × (was_refunded h number ≡ false → change_of h (Refund number None) ≡ Some (record { kind = Refunding; event = sale.event; amount = sale.seats }))
decides office h number sale found least (inl all) =
    let spent : rest_of sale ≡ 0 = omega (arith, all.1) in (
      ap (λ o. refund_reply o None) found
          ∙ ap (λ b. cond b Refunded (cond (nat_lt (rest_of sale) (rest_of sale)) (TooMany (rest_of sale)) Done)) (eq-eqb (rest_of sale) 0 spent)
          ∙ sym (ap (λ b. cond b Refunded Done) all.0),
      λ other. let e : true ≡ false = sym all.0 ∙ other in cc,
    )
decides office h number sale found least (inr none) =
    let every : rest_of sale ≡ sale.seats = omega (arith, none.1) in
    let some : (rest_of sale ≡ 0) → ⊥ = λ e. omega (arith, e, every, least) in (
      ap (λ o. refund_reply o None) found
          ∙ ap (λ b. cond b Refunded (cond (nat_lt (rest_of sale) (rest_of sale)) (TooMany (rest_of sale)) Done)) (ne_eqb (rest_of sale) 0 some)
          ∙ ap (λ b. cond b (TooMany (rest_of sale)) Done) (le-ltb (rest_of sale) (rest_of sale) (omega arith)) ∙ sym (ap (λ b. cond b Refunded Done) none.0),
      λ other. ap (λ o. refund_of o None) found ∙ ap (λ n. Some (record { kind = Refunding; event = sale.event; amount = n })) every,
    )

pub refunded_whole_once : SalesAreRefundedWholeOnce
refunded_whole_once office h whole number sale found least =
    let kept_is = sale_kept h number (kept h number) sale found in
    let is = sale_is h number kept_is.0.request kept_is.0.reply sale kept_is.2 in
    decides office h number sale found least (elim (all number sale.seats 0 h whole) [
      | inl every ↦ inl (every.0, omega (arith, is.2, every.1))
      | inr none ↦ inr (none.0, omega (arith, is.2, none.1))
    ])
