-- The sums of what was given back, after one more entry.
use Rattle.std.proofs.Common.{◌≡◌, ℕ, ◌+◌, ◌-◌, ◌≤◌, min, Bool, true, false, cond, ◌⊎◌, inl, inr, List, [], ◌∷◌, ◌++◌, Option, Some, None, IsSome, IsSomeAnd, refl, sym, ap, subst, ◌∙◌, eqb-true, arith, rules}
use Rattle.std.specs.Prelude.{nat_eq, unwrap_or}
use Rattle.std.specs.List.{sum_by}
use Rattle.std.proofs.lemmas.List.Sums.{sum_by_push}
use Rattle.request_ledger.specs.declared.request.Request.{Request}
use Rattle.request_ledger.specs.declared.request.Request.TheVariants.{Sell, Refund}
use Rattle.request_ledger.specs.declared.reply.Reply.{Reply}
use Rattle.request_ledger.specs.declared.reply.Reply.TheVariants.{Done}
use Rattle.request_ledger.specs.declared.reply.Kept.{Kept}
use Rattle.request_ledger.specs.declared.ledger.DoneRefund.{DoneRefund}
use Rattle.request_ledger.specs.Ledger.{KeptByNumber, kept_under, given_back, part_asked, part_counted, sale_in, sale_if_kept, IsRefundable}
use Rattle.request_ledger.specs.GivenBack.{AreSums, seats_under, seats_if_kept, seats_in, sum_under, AreSumsWith, refund_with}
use Rattle.request_ledger.specs.Requests.{is_done}
use Rattle.request_ledger.proofs.KeptLaws.{or_else, kept_under-push}

-- what counts of a request with its reply
abbrev counted : ℕ → ℕ → Request → Reply → ℕ
counted sale seats q r = cond (is_done r) (part_asked sale seats q) 0

abbrev none : ℕ
none = 0

pub cond_both : {A : Type 0} (b : Bool) (x : A) → cond b x x ≡ x
cond_both true x = refl
cond_both false x = refl

no_refund : (q : Request) (r : Reply) (sale seats : ℕ) → refund_with q r ≡ None → counted sale seats q r ≡ none
no_refund (Refund other part) Done sale seats h = cc
no_refund (Refund other part) r sale seats h = refl
no_refund q r sale seats h = cond_both (is_done r) none

is_refund : (q : Request) (r : Reply) (refund : DoneRefund) (sale seats : ℕ) → refund_with q r ≡ Some refund
    → counted sale seats q r ≡ cond (nat_eq refund.sale sale) (unwrap_or refund.part seats) 0
is_refund (Refund s p) Done refund sale seats h =
    let same : record { sale = s; part = p } ≡ refund = cc in
    ap (λ (d : DoneRefund). cond (nat_eq d.sale sale) (unwrap_or d.part seats) 0) same
is_refund (Refund s p) r refund sale seats h = cc
is_refund q r refund sale seats h = cc

refund_sells_none : (q : Request) (r : Reply) (other : DoneRefund) → refund_with q r ≡ Some other → seats_in q r ≡ None
refund_sells_none (Sell event seats) r other h = cc
refund_sells_none q r other h = refl

-- what the parts add up to, without regard to the seats of the sale
abbrev pub parts : KeptByNumber → ℕ → ℕ → ℕ
parts es sale seats = sum_by (part_counted sale seats) es

parts_push : (es : KeptByNumber) (n : ℕ) (k : Kept) (sale seats : ℕ)
    → parts (es ++ (n, k) ∷ []) sale seats ≡ parts es sale seats + counted sale seats k.request k.reply
parts_push es n k sale seats = sum_by_push (part_counted sale seats) es (n, k)

seats_if_either : (o other : Option Kept) → (seats_if_kept (or_else o other) ≡ seats_if_kept o) ⊎ (seats_if_kept o ≡ None)
seats_if_either None other = inr refl
seats_if_either (Some k) other = inl refl

pub seats_or_new : (es : KeptByNumber) (n : ℕ) (k : Kept) (number : ℕ) → (seats_under (es ++ (n, k) ∷ []) number ≡ seats_under es number)
    ⊎ (seats_under es number ≡ None)
seats_or_new es n k number = elim (seats_if_either (kept_under es number) (cond (nat_eq n number) (Some k) None)) [
  | inl e ↦ inl (ap seats_if_kept (kept_under-push es n k number) ∙ e)
  | inr e ↦ inr e
]

seats_if_no_sale : (o : Option Kept) (b : Bool) (k : Kept) → seats_in k.request k.reply ≡ None
    → seats_if_kept (or_else o (cond b (Some k) None)) ≡ seats_if_kept o
seats_if_no_sale None true k h = h
seats_if_no_sale None false k h = refl
seats_if_no_sale (Some other) b k h = refl

-- an entry that gives nothing back
pub sums_stay : (es : KeptByNumber) (sums : List (ℕ × ℕ)) (n : ℕ) (k : Kept) → AreSums es sums → refund_with k.request k.reply ≡ None
    → AreSums (es ++ (n, k) ∷ []) sums
sums_stay es sums n k are nothing =
    let same : (q seats : ℕ) → given_back (es ++ (n, k) ∷ []) q seats ≡ given_back es q seats =
    λ q seats. omega (arith, parts_push es n k q seats, no_refund k.request k.reply q seats nothing) in
    record {
      of_sales = λ q seats h. elim (seats_or_new es n k q) [
        | inl e ↦ are.of_sales q seats (sym e ∙ h) ∙ sym (same q seats)
        | inr e ↦ are.no_sum q e ∙ sym (are.of_sales_only q seats e) ∙ sym (same q seats)
      ];
      no_sum = λ q h. elim (seats_or_new es n k q) [
        | inl e ↦ are.no_sum q (sym e ∙ h)
        | inr e ↦ are.no_sum q e
      ];
      of_sales_only = λ q seats h. same q seats ∙ elim (seats_or_new es n k q) [
        | inl e ↦ are.of_sales_only q seats (sym e ∙ h)
        | inr e ↦ are.of_sales_only q seats e
      ];
    }

one_raised : (b : Bool) (x y u v : ℕ) → (b ≡ true → x ≡ y) → (b ≡ false → u ≡ v) → cond b x u ≡ cond b y v
one_raised b x y u v here elsewhere = elim b as (λ c. b ≡ c → cond c x u ≡ cond c y v) [ true ↦ here | false ↦ elsewhere ] refl

-- the part, or the rest, of a sale of which so much is given back fits
abbrev pub Fits : Option ℕ → ℕ → ℕ → Type 0
Fits part seats given = unwrap_or part (seats - given) ≤ seats - given

-- what is given back with the part, or with the rest, too
abbrev pub with_part : Option ℕ → ℕ → ℕ → ℕ
with_part part seats given = given + unwrap_or part (seats - given)

-- what a part that fits adds to the sum it adds to what is given back, and a refund for the rest gives back all
pub one_more : (part : Option ℕ) (seats sum given : ℕ) → given ≡ min seats sum → Fits part seats given
    → with_part part seats given ≡ min seats (sum + unwrap_or part seats)
one_more None seats sum given is fits = omega arith
one_more (Some n) seats sum given is fits = omega arith

-- a sum that stands for so many seats, after a refund of a sale or of another
raised_by : (b : Bool) (seats sum asked : ℕ) → cond b (min seats (sum + asked)) (min seats sum) ≡ min seats (sum + cond b asked 0)
raised_by true seats sum asked = refl
raised_by false seats sum asked = omega arith

-- a refund that is done gives back its part of the sale, or the rest
pub sums_raised : (es : KeptByNumber) (sums raised : List (ℕ × ℕ)) (n : ℕ) (k : Kept) (refund : DoneRefund) (seats : ℕ) → AreSums es sums
    → refund_with k.request k.reply ≡ Some refund
    → seats_under es refund.sale ≡ Some seats → Fits refund.part seats (sum_under sums refund.sale)
    → ((q : ℕ) → sum_under raised q ≡ cond (nat_eq refund.sale q) (with_part refund.part seats (sum_under sums refund.sale)) (sum_under sums q))
    → AreSums (es ++ (n, k) ∷ []) raised
sums_raised es sums raised n k refund seats are is of fits at =
    let after = with_part refund.part seats (sum_under sums refund.sale) in
    let same : (q : ℕ) → seats_under (es ++ (n, k) ∷ []) q ≡ seats_under es q =
    λ q. ap seats_if_kept (kept_under-push es n k q) ∙ seats_if_no_sale (kept_under es q) (nat_eq n q) k (refund_sells_none k.request k.reply refund is) in
    let given : (q s : ℕ) → given_back (es ++ (n, k) ∷ []) q s ≡ cond (nat_eq refund.sale q) (min s (parts es q s + unwrap_or refund.part s))
    (given_back es q s) =
    λ q s. ap (min s) (parts_push es n k q s ∙ ap (λ m. parts es q s + m) (is_refund k.request k.reply refund q s is))
    ∙ sym (raised_by (nat_eq refund.sale q) s (parts es q s) (unwrap_or refund.part s)) in
    let here : (q : ℕ) → nat_eq refund.sale q ≡ true → seats_under es q ≡ Some seats =
    λ q t. ap (seats_under es) (sym (eqb-true refund.sale q t)) ∙ of in
    let reached : after ≡ min seats (parts es refund.sale seats + unwrap_or refund.part seats) =
    one_more refund.part seats (parts es refund.sale seats) (sum_under sums refund.sale) (are.of_sales refund.sale seats of) fits in
    record {
      of_sales = λ q s h. at q ∙ one_raised (nat_eq refund.sale q) after (min s (parts es q s + unwrap_or refund.part s)) (sum_under sums q) (given_back es q s)
          (λ t.
          let some : Some seats ≡ Some s = sym (here q t) ∙ sym (same q) ∙ h in
          let count : seats ≡ s = cc in
          reached ∙ ap (λ m. min seats (parts es m seats + unwrap_or refund.part seats)) (eqb-true refund.sale q t)
          ∙ ap (λ m. min m (parts es q m + unwrap_or refund.part m)) count)
          (λ f. are.of_sales q s (sym (same q) ∙ h))
          ∙ sym (given q s);
      no_sum = λ q h. at q ∙ one_raised (nat_eq refund.sale q) after 0 (sum_under sums q) 0
          (λ t. let e : Some seats ≡ None = sym (here q t) ∙ sym (same q) ∙ h in cc)
          (λ f. are.no_sum q (sym (same q) ∙ h))
          ∙ cond_both (nat_eq refund.sale q) none;
      of_sales_only = λ q s h. given q s ∙ one_raised (nat_eq refund.sale q) (min s (parts es q s + unwrap_or refund.part s)) 0 (given_back es q s) 0
          (λ t. let e : Some seats ≡ None = sym (here q t) ∙ sym (same q) ∙ h in cc)
          (λ f. are.of_sales_only q s (sym (same q) ∙ h))
          ∙ cond_both (nat_eq refund.sale q) none;
    }

pub sums_with_none : (es : KeptByNumber) (sums : List (ℕ × ℕ)) (q : Request) (r : Reply) → AreSums es sums → refund_with q r ≡ None → AreSumsWith es q r sums
sums_with_none es sums q r are nothing number place = sums_stay es sums number (record { place = place; request = q; reply = r }) are nothing

pub sums_with_refund : (es : KeptByNumber) (sums raised : List (ℕ × ℕ)) (q : Request) (r : Reply) (refund : DoneRefund) (seats : ℕ) → AreSums es sums
    → refund_with q r ≡ Some refund → seats_under es refund.sale ≡ Some seats
    → Fits refund.part seats (sum_under sums refund.sale)
    → ((n : ℕ) → sum_under raised n ≡ cond (nat_eq refund.sale n) (with_part refund.part seats (sum_under sums refund.sale)) (sum_under sums n))
    → AreSumsWith es q r raised
sums_with_refund es sums raised q r refund seats are is of fits at number place = sums_raised es sums raised number
    (record { place = place; request = q; reply = r }) refund seats are is of fits at

-- no more is given back of a sale than it has seats
pub sum_within : (es : KeptByNumber) (sums : List (ℕ × ℕ)) (sale seats : ℕ) → AreSums es sums → seats_under es sale ≡ Some seats → sum_under sums sale ≤ seats
sum_within es sums sale seats are of = omega (arith, are.of_sales sale seats of)

abbrev FitsSale : KeptByNumber → ℕ → Option ℕ → Option Kept → Type 0
FitsSale es sale part o = IsSomeAnd (sale_if_kept es sale o) (λ state. Fits part state.seats state.given_back)

-- the sale, from what is kept under its number
some_seats : (o : Option Kept) (es : KeptByNumber) (sale : ℕ) (part : Option ℕ) → FitsSale es sale part o → IsSome (seats_if_kept o)
some_seats None es sale part h = absurd h
some_seats (Some k) es sale part h = of_sale k.request k.reply h
  where
    of_sale : (q : Request) (r : Reply) → IsSomeAnd (sale_in es sale q r) (λ state. Fits part state.seats state.given_back) → IsSome (seats_in q r)
    of_sale (Sell event seats) Done h = search rules
    of_sale q r h = absurd h

-- and what is left of it
fits_seats : (o : Option Kept) (es : KeptByNumber) (sale seats : ℕ) (part : Option ℕ) → FitsSale es sale part o → seats_if_kept o ≡ Some seats
    → Fits part seats (given_back es sale seats)
fits_seats None es sale seats part h of = absurd h
fits_seats (Some k) es sale seats part h of = of_sale k.request k.reply h of
  where
    of_sale : (q : Request) (r : Reply) → IsSomeAnd (sale_in es sale q r) (λ state. Fits part state.seats state.given_back) → seats_in q r ≡ Some seats
        → Fits part seats (given_back es sale seats)
    of_sale (Sell event n) Done h of = let same : n ≡ seats = cc in subst (λ m. Fits part m (given_back es sale m)) same h
    of_sale q r h of = absurd h

refund_fits : (es : KeptByNumber) (q : Request) (r : Reply) (refund : DoneRefund) → refund_with q r ≡ Some refund → IsRefundable es q r
    → FitsSale es refund.sale refund.part (kept_under es refund.sale)
refund_fits es (Refund sale part) Done refund is fits =
    let same : record { sale = sale; part = part } ≡ refund = cc in
    subst (λ (d : DoneRefund). FitsSale es d.sale d.part (kept_under es d.sale)) same fits
refund_fits es q r refund is fits = cc

-- a refund that may be done is of a sale
pub refundable_is_sale : (es : KeptByNumber) (q : Request) (r : Reply) (refund : DoneRefund) → refund_with q r ≡ Some refund → IsRefundable es q r
    → IsSome (seats_under es refund.sale)
refundable_is_sale es q r refund is may = some_seats (kept_under es refund.sale) es refund.sale refund.part (refund_fits es q r refund is may)

-- and gives back no more than is left of it
pub refundable_fits : (es : KeptByNumber) (sums : List (ℕ × ℕ)) (q : Request) (r : Reply) (refund : DoneRefund) (seats : ℕ) → AreSums es sums
    → refund_with q r ≡ Some refund → IsRefundable es q r
    → seats_under es refund.sale ≡ Some seats → Fits refund.part seats (sum_under sums refund.sale)
refundable_fits es sums q r refund seats are is may of =
    subst (Fits refund.part seats) (sym (are.of_sales refund.sale seats of))
    (fits_seats (kept_under es refund.sale) es refund.sale seats refund.part (refund_fits es q r refund is may) of)
