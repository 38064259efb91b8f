-- Where no refund names a part, a history is legal exactly where it is with whole refunds.
use Rattle.std.proofs.Common.{◌≡◌, ℕ, zero, suc, ◌+◌, Bool, true, false, cond, List, [], ◌∷◌, take, Option, Some, None, refl, sym, ap, ◌∙◌}
use Rattle.std.specs.Prelude.{◌==◌, slice_get}
use Rattle.rights_lattice.specs.State.{State, bottom}
use Rattle.request_ledger.specs.declared.request.Request.{Request}
use Rattle.request_ledger.specs.declared.request.Request.TheVariants.{Announce, Release, Sell, Refund, Cede}
use Rattle.request_ledger.specs.declared.reply.Reply.{Reply}
use Rattle.request_ledger.specs.declared.reply.Kept.{Kept}
use Rattle.request_ledger.specs.declared.reply.SaleState.{SaleState}
use Rattle.request_ledger.specs.Requests.{is_done}
use Rattle.request_ledger.specs.Ledger.{kept_under, sale_in, sale_if_kept, given_back}
use Rattle.book_core.specs.declared.entry.Entry.{Entry}
use Rattle.book_core.specs.declared.entry.Entry.TheVariants.{Asked, Joined, Grown}
use Rattle.book_core.specs.Decision.{SiteConfig, Change, change_of, delta_for, marked, refund_of, refund_reply, reply_to}
use Rattle.book_core.specs.History.{asked, asked_from, kept, sale_of, state_of}
use Rattle.book_core.specs.Legal.{IsNext}
use Rattle.book_core.specs.WholeRefunds.{NamesNoPart, HasNoParts, SalesHaveSeats, IsNextWhole, LegalWithoutPartsIsWhole, was_refunded, whole_change, whole_delta, whole_reply}
use Rattle.book_core.proofs.Histories.{get_take}
use Rattle.book_core.proofs.Refunds.{sale_is, sale_kept}
use Rattle.book_core.proofs.WholeRefunds.{refunded_whole_once}

-- what is kept under a number stays kept
kept_later : (place k : ℕ) (h : List Entry) (number : ℕ) (e : Kept) → kept_under (asked_from place (take k h)) number ≡ Some e
    → kept_under (asked_from place h) number ≡ Some e
kept_later place zero h number e found = cc
kept_later place (suc k) [] number e found = cc
kept_later place (suc k) (Joined peer delta ∷ h) number e found = kept_later (place + 1) k h number e found
kept_later place (suc k) (Grown sites ∷ h) number e found = kept_later (place + 1) k h number e found
kept_later place (suc k) (Asked m request reply delta ∷ h) number e found = by_test (m == number) found (kept_later (place + 1) k h number e)
  where
    by_test : (b : Bool) → cond b (Some (record { place = place; request = request; reply = reply }))
        (kept_under (asked_from (place + 1) (take k h)) number) ≡ Some e
        → (kept_under (asked_from (place + 1) (take k h)) number ≡ Some e → kept_under (asked_from (place + 1) h) number ≡ Some e)
        → cond b (Some (record { place = place; request = request; reply = reply })) (kept_under (asked_from (place + 1) h) number) ≡ Some e
    by_test true here later = here
    by_test false here later = later here

-- the sales of the first entries have seats
seats_before : (h : List Entry) (k : ℕ) → SalesHaveSeats h → SalesHaveSeats (take k h)
seats_before h k seats number sale found =
    let before = sale_kept (take k h) number (kept (take k h) number) sale found in
    let is = sale_is (take k h) number before.0.request before.0.reply sale before.2 in
    seats number (record { event = sale.event; seats = sale.seats; given_back = given_back (asked h) number sale.seats }) (
    ap (λ o. sale_if_kept (asked h) number o) (kept_later 0 k h number before.0 before.1)
    ∙ ap (λ q. sale_in (asked h) number q before.0.reply) is.0
    ∙ ap (λ r. sale_in (asked h) number (Sell sale.event sale.seats) r) is.1)

module _ (office : SiteConfig) (h : List Entry) (whole : HasNoParts h) (seats : SalesHaveSeats h) (sale : ℕ) where
  same_reply : (o : Option SaleState) → sale_of h sale ≡ o → reply_to office h (Refund sale None) ≡ whole_reply (sale_of h sale) (was_refunded h sale)
  same_reply None e = ap (λ o. refund_reply o None) e ∙ sym (ap (λ o. whole_reply o (was_refunded h sale)) e)
  same_reply (Some s) e =
      (refunded_whole_once office h whole sale s e (seats sale s e)).0 ∙ sym (ap (λ o. whole_reply o (was_refunded h sale)) e)

  -- what is added where the reply is done
  abbrev added : Reply → Option Change → State
  added reply change = cond (is_done reply) (marked office.me (state_of h).cells change) bottom

  same_delta : (reply : Reply) (o : Option SaleState) → sale_of h sale ≡ o → reply ≡ whole_reply (sale_of h sale) (was_refunded h sale)
      → delta_for office h (Refund sale None) reply ≡ whole_delta office h sale reply
  same_delta reply None e answer = ap (λ o. added reply (refund_of o None)) e ∙ sym (ap (λ o. added reply (whole_change o)) e)
  same_delta reply (Some s) e answer = by_test (was_refunded h sale) refl
    where
      by_test : (b : Bool) → was_refunded h sale ≡ b → delta_for office h (Refund sale None) reply ≡ whole_delta office h sale reply
      by_test true is =
          let not_done : is_done reply ≡ false = ap is_done (answer ∙ ap (λ o. whole_reply o (was_refunded h sale)) e ∙ ap (λ b. whole_reply (Some s) b) is) in
          ap (λ b. cond b (marked office.me (state_of h).cells (change_of h (Refund sale None))) bottom) not_done
          ∙ sym (ap (λ b. cond b (marked office.me (state_of h).cells (whole_change (sale_of h sale))) bottom) not_done)
      by_test false is = ap (added reply) ((refunded_whole_once office h whole sale s e (seats sale s e)).1 is ∙ sym (ap whole_change e))

-- an entry that names no part is legal after such a history exactly where it is with whole refunds
next_alike : (office : SiteConfig) (h : List Entry) (entry : Entry) → HasNoParts h → SalesHaveSeats h
    → ((number : ℕ) (request : Request) (reply : Reply) (delta : State) → entry ≡ Asked number request reply delta → NamesNoPart request)
    → (IsNext office h entry → IsNextWhole office h entry) × (IsNextWhole office h entry → IsNext office h entry)
next_alike office h (Asked number (Refund sale None) reply delta) whole seats named =
    let answers = same_reply office h whole seats sale (sale_of h sale) refl in
    let adds = same_delta office h whole seats sale reply (sale_of h sale) refl in (
      λ next. record { room = next.room; new = next.new; answer = next.answer ∙ answers; change = next.change ∙ adds (next.answer ∙ answers) },
      λ next. record { room = next.room; new = next.new; answer = next.answer ∙ sym answers; change = next.change ∙ sym (adds next.answer) },
    )
next_alike office h (Asked number (Refund sale (Some part)) reply delta) whole seats named = absurd (named number (Refund sale (Some part)) reply delta refl)
next_alike office h (Asked number (Announce event) reply delta) whole seats named = (λ next. next, λ next. next)
next_alike office h (Asked number (Release event n) reply delta) whole seats named = (λ next. next, λ next. next)
next_alike office h (Asked number (Sell event n) reply delta) whole seats named = (λ next. next, λ next. next)
next_alike office h (Asked number (Cede event to n) reply delta) whole seats named = (λ next. next, λ next. next)
next_alike office h (Joined peer delta) whole seats named = (λ next. next, λ next. next)
next_alike office h (Grown sites) whole seats named = (λ next. next, λ next. next)

pub legal_is_whole : LegalWithoutPartsIsWhole
legal_is_whole office h whole seats
    = (λ legal k entry found. (alike k entry found).0 (legal k entry found), λ legal k entry found. (alike k entry found).1 (legal k entry found))
  where
    alike : (k : ℕ) (entry : Entry) → slice_get h k ≡ Some entry → (IsNext office (take k h) entry → IsNextWhole office (take k h) entry)
        × (IsNextWhole office (take k h) entry → IsNext office (take k h) entry)
    alike k entry found =
        next_alike office (take k h) entry
        (λ j number request reply delta there. whole j number request reply delta (get_take h k j (Asked number request reply delta) there).1)
        (seats_before h k seats)
        (λ number request reply delta is. whole k number request reply delta (found ∙ ap Some is))
