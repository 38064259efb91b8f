-- No site gives back more than it sold.
use Rattle.std.proofs.Common.{◌≡◌, ℕ, ◌+◌, ◌-◌, ◌≤◌, min, length, Bool, true, false, cond, ◌&&◌, List, [], ◌∷◌, ◌++◌, Option, Some, None, refl, sym, ap, ◌∙◌, subst, arith, eqb-true, eq-eqb, ltb-false, append-nil}
use Rattle.std.specs.Prelude.{◌==◌, nat_lt, unwrap_or}
use Rattle.std.specs.List.{sum_by}
use Rattle.std.proofs.lemmas.List.Sums.{sum_by-cons, sum_by_push, sum_by-append}
use Rattle.rights_lattice.specs.Cell.{same_event}
use Rattle.rights_lattice.specs.Cells.{value_at}
use Rattle.rights_lattice.specs.declared.cell.Cell.TheVariants.{Used, Back}
use Rattle.rights_lattice.specs.State.{State}
use Rattle.rights_lattice.proofs.RightsLaws.{cond_le}
use Rattle.rights_lattice.proofs.SpotLaws.{same_event_self}
use Rattle.request_ledger.specs.declared.request.Request.{Request}
use Rattle.request_ledger.specs.declared.request.Request.TheVariants.{Announce, Release, Sell, Refund, Cede}
use Rattle.request_ledger.specs.declared.reply.Reply.{Reply}
use Rattle.request_ledger.specs.declared.reply.Reply.TheVariants.{Done, Refunded, TooMany}
use Rattle.request_ledger.specs.declared.reply.Kept.{Kept}
use Rattle.request_ledger.specs.declared.reply.SaleState.{SaleState}
use Rattle.request_ledger.specs.Requests.{is_done}
use Rattle.book_core.specs.declared.entry.Entry.{Entry}
use Rattle.book_core.specs.declared.entry.Entry.TheVariants.{Asked, Joined, Grown}
use Rattle.request_ledger.specs.Ledger.{KeptByNumber, kept_under, sale_in, sale_if_kept, part_counted, given_back, rest_of, amount_back}
use Rattle.request_ledger.proofs.SumLaws.{parts}
use Rattle.book_core.specs.History.{state_of, asked, asked_from, kept, sale_of}
use Rattle.book_core.proofs.Kept.{asked-push}
use Rattle.book_core.specs.Decision.{SiteConfig, Releasing, Selling, Refunding, Ceding, refund_of, refund_reply}
use Rattle.book_core.specs.Legal.{IsNext, IsLegal}
use Rattle.book_core.specs.Operations.{operations, total}
use Rattle.book_core.proofs.Histories.{operations_push, legal_along}
use Rattle.book_core.proofs.Rows.{accepted, share, asked_total, legal_cells}

-- what an entry that sells for the event counts, by its number and seats
abbrev sale_part : (ℕ → ℕ → ℕ) → List ℕ → Entry → ℕ
sale_part r event (Asked number (Sell of seats) reply delta) = cond (same_event event of && is_done reply) (r number seats) 0
sale_part r event _ = 0

abbrev sales : (ℕ → ℕ → ℕ) → List ℕ → List Entry → ℕ
sales r event h = sum_by (sale_part r event) h

part_le : (r q : ℕ → ℕ → ℕ) (event : List ℕ) → ((m a : ℕ) → r m a ≤ q m a) → (entry : Entry) → sale_part r event entry ≤ sale_part q event entry
part_le r q event le (Asked number (Sell of seats) reply delta) = cond_le (same_event event of && is_done reply) (r number seats) (q number seats)
    (le number seats)
part_le r q event le _ = omega arith

sales_le : (r q : ℕ → ℕ → ℕ) (event : List ℕ) → ((m a : ℕ) → r m a ≤ q m a) → (h : List Entry) → sales r event h ≤ sales q event h
sales_le r q event le [] = omega arith
sales_le r q event le (entry ∷ h) =
    omega (arith, sum_by-cons (sale_part r event) entry h, sum_by-cons (sale_part q event) entry h, part_le r q event le entry, sales_le r q event le h)

-- a kept sale that counts less makes the sum less
sales_found : (r q : ℕ → ℕ → ℕ) (event : List ℕ) → ((m a : ℕ) → r m a ≤ q m a) → (sale seats amount : ℕ) (of : List ℕ) → r sale seats + amount ≤ q sale seats
    → (place : ℕ) (h : List Entry) (k : Kept) → kept_under (asked_from place h) sale ≡ Some k → k.request ≡ Sell of seats → k.reply ≡ Done
    → sales r event h + cond (same_event event of) amount 0 ≤ sales q event h
sales_found r q event le sale seats amount of less place [] k found asked done = cc
sales_found r q event le sale seats amount of less place (Joined peer delta ∷ h) k found asked done =
    omega (
      arith,
      sum_by-cons (sale_part r event) (Joined peer delta) h,
      sum_by-cons (sale_part q event) (Joined peer delta) h,
      sales_found r q event le sale seats amount of less (place + 1) h k found asked done,
    )
sales_found r q event le sale seats amount of less place (Grown sites ∷ h) k found asked done =
    omega (
      arith,
      sum_by-cons (sale_part r event) (Grown sites) h,
      sum_by-cons (sale_part q event) (Grown sites) h,
      sales_found r q event le sale seats amount of less (place + 1) h k found asked done,
    )
sales_found r q event le sale seats amount of less place (Asked m request reply delta ∷ h) k found asked done =
    omega (
      arith,
      sum_by-cons (sale_part r event) (Asked m request reply delta) h,
      sum_by-cons (sale_part q event) (Asked m request reply delta) h,
      by_test (m == sale) refl found (λ rest. sales_found r q event le sale seats amount of less (place + 1) h k rest asked done),
    )
  where
    lowered : (b : Bool) → cond (b && true) (r sale seats) 0 + cond b amount 0 ≤ cond (b && true) (q sale seats) 0
    lowered true = less
    lowered false = omega arith

    by_test : (b : Bool) → (m == sale) ≡ b
        → cond b (Some (record { place = place; request = request; reply = reply })) (kept_under (asked_from (place + 1) h) sale) ≡ Some k
        → (kept_under (asked_from (place + 1) h) sale ≡ Some k → sales r event h + cond (same_event event of) amount 0 ≤ sales q event h)
        → (sale_part r event (Asked m request reply delta) + sales r event h) + cond (same_event event of) amount 0 ≤ sale_part q event
        (Asked m request reply delta) + sales q event h
    by_test false e here more = omega (arith, part_le r q event le (Asked m request reply delta), more here)
    by_test true e here more =
        let number : m ≡ sale = eqb-true m sale e in
        let same : request ≡ Sell of seats = cc in
        let reply_done : reply ≡ Done = cc in
        let entry : Asked m request reply delta ≡ Asked sale (Sell of seats) Done delta = cc in
        let there : sale_part r event (Asked m request reply delta) + cond (same_event event of) amount 0 ≤ sale_part q event (Asked m request reply delta) =
        subst (λ (x : Entry). sale_part r event x + cond (same_event event of) amount 0 ≤ sale_part q event x) (sym entry) (lowered (same_event event of)) in
        omega (arith, there, sales_le r q event le h)

-- what is given back of a sale along a history, and what is not
abbrev given : List Entry → ℕ → ℕ → ℕ
given h sale seats = given_back (asked h) sale seats

abbrev kept_seats : List Entry → ℕ → ℕ → ℕ
kept_seats h number seats = seats - given h number seats

parts_push : (h : List Entry) (entry : Entry) (sale seats : ℕ)
    → parts (asked (h ++ entry ∷ [])) sale seats ≡ parts (asked h) sale seats + parts (asked_from (length h) (entry ∷ [])) sale seats
parts_push h entry sale seats =
    ap (λ (es : KeptByNumber). parts es sale seats) (asked-push h entry)
    ∙ sum_by-append (part_counted sale seats) (asked h) (asked_from (length h) (entry ∷ []))

-- what is given back grows
kept_less : (h : List Entry) (entry : Entry) (sale seats : ℕ) → kept_seats (h ++ entry ∷ []) sale seats ≤ kept_seats h sale seats
kept_less h entry sale seats = omega (arith, parts_push h entry sale seats)

whole_share : (b : Bool) (m : ℕ) → cond (b && true) m 0 ≡ cond b m 0
whole_share true m = refl
whole_share false m = refl

-- no share of a kind that it isn't
no_share : (b : Bool) (n : ℕ) → cond (b && false) n 0 ≡ 0
no_share true n = refl
no_share false n = refl

-- a refund that is done gives back no more than the rest
pub done_within : (part : Option ℕ) (sale : SaleState) → Done ≡ refund_reply (Some sale) part → amount_back part sale ≤ rest_of sale
done_within part sale d = by_rest (rest_of sale == 0) d
  where
    by_amount : (b : Bool) → nat_lt (rest_of sale) (amount_back part sale) ≡ b → Done ≡ cond b (TooMany (rest_of sale)) Done
        → amount_back part sale ≤ rest_of sale
    by_amount true q e = cc
    by_amount false q e = ltb-false (rest_of sale) (amount_back part sale) q

    by_rest : (b : Bool) → Done ≡ cond b Refunded (cond (nat_lt (rest_of sale) (amount_back part sale)) (TooMany (rest_of sale)) Done)
        → amount_back part sale ≤ rest_of sale
    by_rest true e = cc
    by_rest false e = by_amount (nat_lt (rest_of sale) (amount_back part sale)) refl e

-- what the amount of a refund that fits adds
fitting : (part : Option ℕ) (seats sum : ℕ) → unwrap_or part (seats - min seats sum) ≤ seats - min seats sum
    → (seats - min seats (sum + unwrap_or part seats)) + unwrap_or part (seats - min seats sum) ≤ seats - min seats sum
fitting None seats sum fits = omega arith
fitting (Some n) seats sum fits = omega arith

pub done_is : (r : Reply) → is_done r ≡ true → r ≡ Done
done_is Done d = refl
done_is r d = cc

-- the rest of a sale falls by the amount of a refund that is done
gives_back : (h : List Entry) (number sale : ℕ) (part : Option ℕ) (reply : Reply) (delta : State) (s : SaleState) → is_done reply ≡ true
    → s.given_back ≡ given h sale s.seats
    → amount_back part s ≤ rest_of s
    → kept_seats (h ++ Asked number (Refund sale part) reply delta ∷ []) sale s.seats + amount_back part s ≤ kept_seats h sale s.seats
gives_back h number sale part reply delta s d is within =
    let asked_for : parts (asked_from (length h) (Asked number (Refund sale part) reply delta ∷ [])) sale s.seats ≡ unwrap_or part s.seats =
    omega (arith, ap (λ b. cond b (cond (sale == sale) (unwrap_or part s.seats) 0) 0) d, ap (λ b. cond b (unwrap_or part s.seats) 0) (eq-eqb sale sale refl)) in
    omega (
      arith,
      fitting part s.seats (parts (asked h) sale s.seats) (subst (λ g. unwrap_or part (s.seats - g) ≤ s.seats - g) is within),
      parts_push h (Asked number (Refund sale part) reply delta) sale s.seats,
      asked_for,
      ap (λ g. unwrap_or part (s.seats - g)) is,
    )

-- what is given back, and what may still be, is no more than what was sold
abbrev Balanced : ℕ → List Entry → List ℕ → Type 0
Balanced me h event = total Refunding event (operations me h) + sales (kept_seats h) event h ≤ total Selling event (operations me h)

-- an entry whose share of the sums keeps them
balanced_push : (me : ℕ) (h : List Entry) (number : ℕ) (request : Request) (reply : Reply) (delta : State) (event : List ℕ) → Balanced me h event
    → sales (kept_seats (h ++ Asked number request reply delta ∷ [])) event h + sale_part (kept_seats (h ++ Asked number request reply delta ∷ [])) event
    (Asked number request reply delta) + share Refunding event (accepted h request reply)
    ≤ sales (kept_seats h) event h + share Selling event (accepted h request reply)
    → Balanced me (h ++ Asked number request reply delta ∷ []) event
balanced_push me h number request reply delta event before step =
    omega (
      arith,
      before,
      step,
      asked_total me h number request reply delta Refunding event,
      asked_total me h number request reply delta Selling event,
      sum_by_push (sale_part (kept_seats (h ++ Asked number request reply delta ∷ [])) event) h (Asked number request reply delta),
    )

-- a sale of the ledger was kept
pub sale_is : (h : List Entry) (number : ℕ) (request : Request) (reply : Reply) (sale : SaleState) → sale_in (asked h) number request reply ≡ Some sale
    → (request ≡ Sell sale.event sale.seats) × (reply ≡ Done) × (sale.given_back ≡ given h number sale.seats)
sale_is h number (Sell event seats) Done sale e =
    let same : record { event = event; seats = seats; given_back = given h number seats } ≡ sale = cc in
    (ap (λ (s : SaleState). Sell s.event s.seats) same, refl, subst (λ (s : SaleState). s.given_back ≡ given h number s.seats) same refl)
sale_is h number _ _ sale e = cc

pub sale_kept : (h : List Entry) (number : ℕ) (o : Option Kept) (sale : SaleState) → sale_if_kept (asked h) number o ≡ Some sale
    → (k : Kept) × (o ≡ Some k) × (sale_in (asked h) number k.request k.reply ≡ Some sale)
sale_kept h number None sale e = cc
sale_kept h number (Some k) sale e = (k, refl, e)

balanced_after : (office : SiteConfig) (h : List Entry) (entry : Entry) → ((event : List ℕ) → Balanced office.me h event) → IsNext office h entry
    → (event : List ℕ) → Balanced office.me (h ++ entry ∷ []) event
balanced_after office h (Joined peer delta) before next event =
    omega (
      arith,
      before event,
      ap (total Refunding event) (operations_push office.me h (Joined peer delta) ∙ append-nil (operations office.me h)),
      ap (total Selling event) (operations_push office.me h (Joined peer delta) ∙ append-nil (operations office.me h)),
      sum_by_push (sale_part (kept_seats (h ++ Joined peer delta ∷ [])) event) h (Joined peer delta),
      sales_le (kept_seats (h ++ Joined peer delta ∷ [])) (kept_seats h) event (kept_less h (Joined peer delta)) h,
    )
balanced_after office h (Grown sites) before next event =
    omega (
      arith,
      before event,
      ap (total Refunding event) (operations_push office.me h (Grown sites) ∙ append-nil (operations office.me h)),
      ap (total Selling event) (operations_push office.me h (Grown sites) ∙ append-nil (operations office.me h)),
      sum_by_push (sale_part (kept_seats (h ++ Grown sites ∷ [])) event) h (Grown sites),
      sales_le (kept_seats (h ++ Grown sites ∷ [])) (kept_seats h) event (kept_less h (Grown sites)) h,
    )
balanced_after office h (Asked number (Announce name) reply delta) before next event =
    balanced_push office.me h number (Announce name) reply delta event (before event)
    (omega (
      arith,
      sales_le (kept_seats (h ++ Asked number (Announce name) reply delta ∷ [])) (kept_seats h) event
          (kept_less h (Asked number (Announce name) reply delta)) h,
      by_test (is_done reply),
    ))
  where
    by_test : (b : Bool) → share Refunding event (cond b None None) ≤ share Selling event (cond b None None)
    by_test true = omega arith
    by_test false = omega arith
balanced_after office h (Asked number (Release of seats) reply delta) before next event =
    balanced_push office.me h number (Release of seats) reply delta event (before event)
    (omega (
      arith,
      sales_le (kept_seats (h ++ Asked number (Release of seats) reply delta ∷ [])) (kept_seats h) event
          (kept_less h (Asked number (Release of seats) reply delta)) h,
      by_test (is_done reply),
    ))
  where
    by_test : (b : Bool) → share Refunding event (cond b (Some (record { kind = Releasing; event = of; amount = seats })) None) ≤ 0
    by_test true = omega (arith, no_share (same_event event of) seats)
    by_test false = omega arith
balanced_after office h (Asked number (Cede of to seats) reply delta) before next event =
    balanced_push office.me h number (Cede of to seats) reply delta event (before event)
    (omega (
      arith,
      sales_le (kept_seats (h ++ Asked number (Cede of to seats) reply delta ∷ [])) (kept_seats h) event
          (kept_less h (Asked number (Cede of to seats) reply delta)) h,
      by_test (is_done reply),
    ))
  where
    by_test : (b : Bool) → share Refunding event (cond b (Some (record { kind = Ceding to; event = of; amount = seats })) None) ≤ 0
    by_test true = omega (arith, no_share (same_event event of) seats)
    by_test false = omega arith
balanced_after office h (Asked number (Sell of seats) reply delta) before next event =
    balanced_push office.me h number (Sell of seats) reply delta event (before event)
    (omega (
      arith,
      sales_le (kept_seats (h ++ Asked number (Sell of seats) reply delta ∷ [])) (kept_seats h) event
          (kept_less h (Asked number (Sell of seats) reply delta)) h,
      by_test (is_done reply),
    ))
  where
    by_test : (d : Bool) → cond (same_event event of && d) (kept_seats (h ++ Asked number (Sell of seats) reply delta ∷ []) number seats) 0 + share
        Refunding event (cond d (Some (record { kind = Selling; event = of; amount = seats })) None)
        ≤ share Selling event (cond d (Some (record { kind = Selling; event = of; amount = seats })) None)
    by_test true = omega (
      arith,
      no_share (same_event event of) seats,
      cond_le (same_event event of && true) (kept_seats (h ++ Asked number (Sell of seats) reply delta ∷ []) number seats) seats (omega arith),
    )
    by_test false = omega (arith, no_share (same_event event of) (kept_seats (h ++ Asked number (Sell of seats) reply delta ∷ []) number seats))
balanced_after office h (Asked number (Refund sale part) reply delta) before next event =
    balanced_push office.me h number (Refund sale part) reply delta event (before event) (by_test (is_done reply) refl)
  where
    of_sale : (o : Option SaleState) → sale_of h sale ≡ o → is_done reply ≡ true
        → sales (kept_seats (h ++ Asked number (Refund sale part) reply delta ∷ [])) event h + 0 + share Refunding event (refund_of o part) ≤ sales
        (kept_seats h) event h + share Selling event (refund_of o part)
    of_sale None e d = omega (
      arith,
      sales_le (kept_seats (h ++ Asked number (Refund sale part) reply delta ∷ [])) (kept_seats h) event
          (kept_less h (Asked number (Refund sale part) reply delta)) h,
    )
    of_sale (Some s) e d =
        let found = sale_kept h sale (kept h sale) s e in
        let is = sale_is h sale found.0.request found.0.reply s found.2 in
        let less : kept_seats (h ++ Asked number (Refund sale part) reply delta ∷ []) sale s.seats + amount_back part s ≤ kept_seats h sale s.seats =
        gives_back h number sale part reply delta s d is.2
        (done_within part s (sym (done_is reply d) ∙ next.answer ∙ ap (λ (x : Option SaleState). refund_reply x part) e)) in
        omega (
          arith,
          sales_found (kept_seats (h ++ Asked number (Refund sale part) reply delta ∷ [])) (kept_seats h) event
              (kept_less h (Asked number (Refund sale part) reply delta)) sale s.seats (amount_back part s) s.event less 0 h found.0 found.1 is.0 is.1,
          whole_share (same_event event s.event) (amount_back part s),
          no_share (same_event event s.event) (amount_back part s),
        )

    by_test : (d : Bool) → is_done reply ≡ d
        → sales (kept_seats (h ++ Asked number (Refund sale part) reply delta ∷ [])) event h + 0 + share Refunding event
        (cond d (refund_of (sale_of h sale) part) None)
        ≤ sales (kept_seats h) event h + share Selling event (cond d (refund_of (sale_of h sale) part) None)
    by_test true d = of_sale (sale_of h sale) refl d
    by_test false d = omega (
      arith,
      sales_le (kept_seats (h ++ Asked number (Refund sale part) reply delta ∷ [])) (kept_seats h) event
          (kept_less h (Asked number (Refund sale part) reply delta)) h,
    )

-- no site gives back more than it sold
pub legal_refunds : (office : SiteConfig) (h : List Entry) → IsLegal office h → (event : List ℕ)
    → total Refunding event (operations office.me h) ≤ total Selling event (operations office.me h)
legal_refunds office h legal event =
    let all : Balanced office.me h event = legal_along office (λ g. (event : List ℕ) → Balanced office.me g event) (λ e. omega arith)
    (balanced_after office) h legal event in
    omega (arith, all)

-- what is left of a sale fits beside what is given back: no more than what was sold
pub refund_fits : (office : SiteConfig) (h : List Entry) (number : ℕ) (sale : SaleState) → IsLegal office h → sale_of h number ≡ Some sale
    → value_at (state_of h).cells sale.event (Back office.me) + rest_of sale ≤ value_at (state_of h).cells sale.event (Used office.me)
refund_fits office h number sale legal found =
    let all : Balanced office.me h sale.event = legal_along office (λ g. (event : List ℕ) → Balanced office.me g event) (λ e. omega arith)
    (balanced_after office) h legal sale.event in
    let kept_is = sale_kept h number (kept h number) sale found in
    let is = sale_is h number kept_is.0.request kept_is.0.reply sale kept_is.2 in
    let one = sales_found (λ _ _. 0) (kept_seats h) sale.event (λ m a. omega arith) number sale.seats (rest_of sale) sale.event (omega (arith, is.2)) 0 h
    kept_is.0 kept_is.1 is.0 is.1 in
    omega (
      arith,
      all,
      ap (λ b. cond b (rest_of sale) 0) (same_event_self sale.event),
      one,
      legal_cells office h legal Selling tt sale.event,
      legal_cells office h legal Refunding tt sale.event,
    )
