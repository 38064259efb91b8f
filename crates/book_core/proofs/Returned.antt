-- What the ledger tells as given back of a sale is the sum of the amounts of its refunds.
use Rattle.std.proofs.Common.{◌≡◌, ℕ, ◌+◌, ◌-◌, ◌≤◌, min, ◌⊎◌, inl, inr, Bool, true, false, cond, List, [], ◌∷◌, ◌++◌, Option, Some, None, length, refl, sym, ap, ◌∙◌, subst, arith, eqb-true, append-nil, append_assoc}
use Rattle.std.specs.Prelude.{◌==◌, unwrap_or}
use Rattle.std.proofs.lemmas.List.Sums.{sum_by_push}
use Rattle.request_ledger.specs.declared.request.Request.{Request}
use Rattle.request_ledger.specs.declared.request.Request.TheVariants.{Sell, Refund}
use Rattle.request_ledger.specs.declared.reply.Reply.{Reply}
use Rattle.request_ledger.specs.declared.reply.Kept.{Kept}
use Rattle.request_ledger.specs.declared.reply.SaleState.{SaleState}
use Rattle.request_ledger.specs.Requests.{is_done}
use Rattle.request_ledger.specs.GivenBack.{seats_under, seats_if_kept, seats_in}
use Rattle.request_ledger.specs.Ledger.{KeptByNumber, part_asked, part_counted, given_back, rest_of, amount_back}
use Rattle.request_ledger.proofs.SumLaws.{Fits, one_more, parts, seats_or_new}
use Rattle.book_core.specs.declared.entry.Entry.{Entry}
use Rattle.book_core.specs.declared.entry.Entry.TheVariants.{Asked, Joined, Grown}
use Rattle.book_core.specs.Decision.{SiteConfig, refund_of, refund_reply, reply_to}
use Rattle.book_core.specs.History.{asked, kept, sale_of}
use Rattle.book_core.specs.Legal.{IsNext}
use Rattle.book_core.specs.Returned.{amount_of, returned_in, returned_by, returned_from, returned, SalesAreReturnedWithinTheirSeats}
use Rattle.book_core.proofs.Histories.{legal_along}
use Rattle.book_core.proofs.Kept.{asked-push}
use Rattle.book_core.proofs.Refunds.{sale_kept, sale_is, done_is, done_within}

returned_from-push : (sale : ℕ) (before h : List Entry) (entry : Entry)
    → returned_from sale before (h ++ entry ∷ []) ≡ returned_from sale before h + returned_by sale (before ++ h) entry
returned_from-push sale before [] entry = ap (λ g. returned_by sale g entry + 0) (sym (append-nil before)) ∙ omega arith
returned_from-push sale before (e ∷ h) entry =
    omega (
      arith,
      returned_from-push sale (before ++ e ∷ []) h entry,
      ap (λ g. returned_by sale g entry) (append_assoc before (e ∷ []) h),
    )

returned_push : (sale : ℕ) (h : List Entry) (entry : Entry) → returned sale (h ++ entry ∷ []) ≡ returned sale h + returned_by sale h entry
returned_push sale h entry = returned_from-push sale [] h entry

-- a request that gives nothing back of the sale
record GivesNothing (h : List Entry) (sale n : ℕ) (k : Kept) : Type 0 where
  amount : cond (is_done k.reply) (returned_in sale h k.request) 0 ≡ 0
  part : (seats : ℕ) → part_counted sale seats (n, k) ≡ 0

-- a request that gives a part of the sale back, or the rest
record Gives (h : List Entry) (sale n : ℕ) (k : Kept) : Type 0 where
  state : SaleState
  of : sale_of h sale ≡ Some state
  asks : Option ℕ
  amount : cond (is_done k.reply) (returned_in sale h k.request) 0 ≡ amount_back asks state
  within : amount_back asks state ≤ rest_of state
  part : (seats : ℕ) → part_counted sale seats (n, k) ≡ unwrap_or asks seats

abbrev nothing : ℕ
nothing = 0

zero_if : (b : Bool) (x : ℕ) → x ≡ 0 → cond b x 0 ≡ 0
zero_if true x e = e
zero_if false x e = refl

idle : (h : List Entry) (sale n place : ℕ) (q : Request) (r : Reply) → returned_in sale h q ≡ nothing → ((seats : ℕ) → part_asked sale seats q ≡ nothing)
    → GivesNothing h sale n (record { place = place; request = q; reply = r })
idle h sale n place q r amount part = record {
  amount = zero_if (is_done r) (returned_in sale h q) amount;
  part = λ seats. zero_if (is_done r) (part_asked sale seats q) (part seats);
}

gives : (office : SiteConfig) (h : List Entry) (sale n place : ℕ) (q : Request) (r : Reply) → r ≡ reply_to office h q
    → GivesNothing h sale n (record { place = place; request = q; reply = r }) ⊎ Gives h sale n (record { place = place; request = q; reply = r })
gives office h sale n place (Refund other part) r answer = by_sale (other == sale) refl
  where
    of_sale : (o : Option SaleState) → sale_of h other ≡ o → (other == sale) ≡ true → is_done r ≡ true
        → GivesNothing h sale n (record { place = place; request = Refund other part; reply = r })
        ⊎ Gives h sale n (record { place = place; request = Refund other part; reply = r })
    of_sale None f e d = let never : false ≡ true = sym (ap is_done (answer ∙ ap (λ o. refund_reply o part) f)) ∙ d in cc
    of_sale (Some s) f e d = inr (record {
      state = s;
      of = subst (λ m. sale_of h m ≡ Some s) (eqb-true other sale e) f;
      asks = part;
      amount = ap (λ b. cond b (returned_in sale h (Refund other part)) 0) d ∙ ap (λ b. cond b (amount_of (refund_of (sale_of h other) part)) 0) e
          ∙ ap (λ o. amount_of (refund_of o part)) f;
      within = done_within part s (sym (done_is r d) ∙ answer ∙ ap (λ o. refund_reply o part) f);
      part = λ seats. ap (λ b. cond b (cond (other == sale) (unwrap_or part seats) 0) 0) d ∙ ap (λ b. cond b (unwrap_or part seats) 0) e;
    })

    by_done : (d : Bool) → is_done r ≡ d → (other == sale) ≡ true
        → GivesNothing h sale n (record { place = place; request = Refund other part; reply = r })
        ⊎ Gives h sale n (record { place = place; request = Refund other part; reply = r })
    by_done true d e = of_sale (sale_of h other) refl e d
    by_done false d e = inl (record {
      amount = ap (λ b. cond b (returned_in sale h (Refund other part)) 0) d;
      part = λ seats. ap (λ b. cond b (part_asked sale seats (Refund other part)) 0) d;
    })

    by_sale : (e : Bool) → (other == sale) ≡ e
        → GivesNothing h sale n (record { place = place; request = Refund other part; reply = r })
        ⊎ Gives h sale n (record { place = place; request = Refund other part; reply = r })
    by_sale true e = by_done (is_done r) refl e
    by_sale false e = inl (idle h sale n place (Refund other part) r (ap (λ b. cond b (amount_of (refund_of (sale_of h other) part)) 0) e)
        (λ seats. ap (λ b. cond b (unwrap_or part seats) 0) e))
gives office h sale n place q r answer = inl (idle h sale n place q r refl (λ seats. refl))

-- of what is no sale nothing is given back; of a sale what its refunds gave back
abbrev Even : ℕ → KeptByNumber → ℕ → Option ℕ → Type 0
Even count es sale None = (count ≡ 0) × ((seats : ℕ) → parts es sale seats ≡ 0)
Even count es sale (Some seats) = count ≡ given_back es sale seats

abbrev AllEven : List Entry → Type 0
AllEven h = (sale : ℕ) → Even (returned sale h) (asked h) sale (seats_under (asked h) sale)

-- a request that gives nothing back
stays : (es : KeptByNumber) (sale n : ℕ) (k : Kept) (count : ℕ) → ((seats : ℕ) → part_counted sale seats (n, k) ≡ 0) → Even count es sale (seats_under es sale)
    → Even count (es ++ (n, k) ∷ []) sale (seats_under (es ++ (n, k) ∷ []) sale)
stays es sale n k count part before = elim (seats_or_new es n k sale) [
  | inl same ↦ subst (Even count (es ++ (n, k) ∷ []) sale) (sym same) (grow (seats_under es sale) before)
  | inr none ↦ let none_before : Even count es sale None = subst (Even count es sale) none before in of_none none_before (seats_under (es ++ (n, k) ∷ []) sale)
]
  where
    grow : (o : Option ℕ) → Even count es sale o → Even count (es ++ (n, k) ∷ []) sale o
    grow None b = (b.0, λ seats. omega (arith, sum_by_push (part_counted sale seats) es (n, k), b.1 seats, part seats))
    grow (Some seats) b = omega (arith, b, sum_by_push (part_counted sale seats) es (n, k), part seats)

    of_none : Even count es sale None → (o : Option ℕ) → Even count (es ++ (n, k) ∷ []) sale o
    of_none b None = (b.0, λ seats. omega (arith, sum_by_push (part_counted sale seats) es (n, k), b.1 seats, part seats))
    of_none b (Some seats) = omega (arith, b.0, sum_by_push (part_counted sale seats) es (n, k), b.1 seats, part seats)

-- a sale of the history has its seats, and what is given back of it
sale_seats : (h : List Entry) (sale : ℕ) (s : SaleState) → sale_of h sale ≡ Some s
    → (seats_under (asked h) sale ≡ Some s.seats) × (s.given_back ≡ given_back (asked h) sale s.seats)
sale_seats h sale s found =
    let kept_is = sale_kept h sale (kept h sale) s found in
    let is = sale_is h sale kept_is.0.request kept_is.0.reply s kept_is.2 in
    (ap seats_if_kept kept_is.1 ∙ ap (λ q. seats_in q kept_is.0.reply) is.0 ∙ ap (λ r. seats_in (Sell s.event s.seats) r) is.1, is.2)

-- a refund that gives a part or the rest back
raised : (h : List Entry) (sale n : ℕ) (k : Kept) (count : ℕ) (g : Gives h sale n k) → Even count (asked h) sale (seats_under (asked h) sale)
    → Even (count + amount_back g.asks g.state) (asked h ++ (n, k) ∷ []) sale (seats_under (asked h ++ (n, k) ∷ []) sale)
raised h sale n k count g before =
    let s = g.state in
    let is = sale_seats h sale s g.of in
    let so_far : count ≡ given_back (asked h) sale s.seats = subst (Even count (asked h) sale) is.0 before in
    let back : s.given_back ≡ count = is.1 ∙ sym so_far in
    let fits : Fits g.asks s.seats count = subst (Fits g.asks s.seats) back g.within in
    let after : count + amount_back g.asks s ≡ given_back (asked h ++ (n, k) ∷ []) sale s.seats =
    ap (λ m. count + unwrap_or g.asks (s.seats - m)) back
    ∙ one_more g.asks s.seats (parts (asked h) sale s.seats) count so_far fits
    ∙ ap (λ m. min s.seats (parts (asked h) sale s.seats + m)) (sym (g.part s.seats))
    ∙ ap (min s.seats) (sym (sum_by_push (part_counted sale s.seats) (asked h) (n, k))) in
    elim (seats_or_new (asked h) n k sale) [
      | inl same ↦ subst (Even (count + amount_back g.asks s) (asked h ++ (n, k) ∷ []) sale) (sym (same ∙ is.0)) after
      | inr none ↦ let never : Some s.seats ≡ None = sym is.0 ∙ none in cc
    ]

even_after : (office : SiteConfig) (h : List Entry) (entry : Entry) → AllEven h → IsNext office h entry → AllEven (h ++ entry ∷ [])
even_after office h (Joined peer delta) before next sale =
    let count : returned sale h ≡ returned sale (h ++ Joined peer delta ∷ []) = omega (arith, returned_push sale h (Joined peer delta)) in
    let kept_is : asked h ≡ asked (h ++ Joined peer delta ∷ []) = sym (asked-push h (Joined peer delta) ∙ append-nil (asked h)) in
    subst (λ (es : KeptByNumber). Even (returned sale (h ++ Joined peer delta ∷ [])) es sale (seats_under es sale)) kept_is
    (subst (λ m. Even m (asked h) sale (seats_under (asked h) sale)) count (before sale))
even_after office h (Grown sites) before next sale =
    let count : returned sale h ≡ returned sale (h ++ Grown sites ∷ []) = omega (arith, returned_push sale h (Grown sites)) in
    let kept_is : asked h ≡ asked (h ++ Grown sites ∷ []) = sym (asked-push h (Grown sites) ∙ append-nil (asked h)) in
    subst (λ (es : KeptByNumber). Even (returned sale (h ++ Grown sites ∷ [])) es sale (seats_under es sale)) kept_is
    (subst (λ m. Even m (asked h) sale (seats_under (asked h) sale)) count (before sale))
even_after office h (Asked n q r d) before next sale =
    let k : Kept = record { place = length h; request = q; reply = r } in
    subst (λ (es : KeptByNumber). Even (returned sale (h ++ Asked n q r d ∷ [])) es sale (seats_under es sale)) (sym (asked-push h (Asked n q r d)))
    (elim (gives office h sale n (length h) q r next.answer) [
      | inl none ↦ subst (λ m. Even m (asked h ++ (n, k) ∷ []) sale (seats_under (asked h ++ (n, k) ∷ []) sale))
          (sym (returned_push sale h (Asked n q r d) ∙ ap (λ m. returned sale h + m) none.amount ∙ omega arith))
          (stays (asked h) sale n k (returned sale h) none.part (before sale))
      | inr some ↦ subst (λ m. Even m (asked h ++ (n, k) ∷ []) sale (seats_under (asked h ++ (n, k) ∷ []) sale))
          (sym (returned_push sale h (Asked n q r d) ∙ ap (λ m. returned sale h + m) some.amount))
          (raised h sale n k (returned sale h) some (before sale))
    ])

pub sales_are_returned : SalesAreReturnedWithinTheirSeats
sales_are_returned office h legal number sale found =
    let is = sale_seats h number sale found in
    let all : AllEven h = legal_along office AllEven (λ s. (refl, λ seats. refl)) (even_after office) h legal in
    let one : returned number h ≡ given_back (asked h) number sale.seats = subst (Even (returned number h) (asked h) number) is.0 (all number) in
    (one ∙ sym is.1, omega (arith, one))
