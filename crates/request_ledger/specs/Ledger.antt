-- The ledger of a site: what was decided under each request number. (Our own.)
use Rattle.std.specs.Prelude.{ℕ, ◌-◌, ◌≤◌, ◌==◌, min, if◌then◌else◌, List, [], ◌∷◌, ◌++◌, Option, Some, None, IsSomeAnd, unwrap_or, refl}
use Rattle.std.specs.List.{sum_by}
use Rattle.std.specs.Coded.{Coded, code_by, coded_ℕ, coded_list, coded×}
use Rattle.request_ledger.specs.contracts.reply.Kept as kept
use Rattle.request_ledger.specs.declared.request.Request.{Request}
use Rattle.request_ledger.specs.declared.request.Request.TheVariants.{Sell, Refund}
use Rattle.request_ledger.specs.declared.reply.Reply.{Reply}
use Rattle.request_ledger.specs.declared.reply.Reply.TheVariants.{Done}
use Rattle.request_ledger.specs.declared.reply.Kept.{Kept}
use Rattle.request_ledger.specs.declared.reply.SaleState.{SaleState}
use Rattle.request_ledger.specs.Requests.{is_done}

-- the kept numbers, each with what is kept under it, in the order of keeping
abbrev pub KeptByNumber : Type 0
KeptByNumber = List (ℕ × Kept)

-- with one number more, and what is kept under it
abbrev pub with_kept : KeptByNumber → ℕ → ℕ → Request → Reply → KeptByNumber
with_kept es number place request reply = es ++ (number, record { place = place; request = request; reply = reply }) ∷ []

-- what is kept under a number
abbrev pub kept_under : KeptByNumber → ℕ → Option Kept
kept_under [] number = None
kept_under (e ∷ es) number = if e.0 == number then Some e.1 else kept_under es number

-- the seats that a request asks back of a sale of so many: the part that it names, or all of them
abbrev pub part_asked : ℕ → ℕ → Request → ℕ
part_asked sale seats (Refund other part) = if other == sale then unwrap_or part seats else 0
part_asked sale seats _ = 0

abbrev pub part_counted : ℕ → ℕ → ℕ × Kept → ℕ
part_counted sale seats e = if is_done e.1.reply then part_asked sale seats e.1.request else 0

-- the seats of a sale that refunds which were done gave back: the sum of their parts, and all seats once one asked for the rest;
-- never more than the sale has
abbrev pub given_back : KeptByNumber → ℕ → ℕ → ℕ
given_back es sale seats = min seats (sum_by (part_counted sale seats) es)

-- the seats of a sale that are not given back
abbrev pub rest_of : SaleState → ℕ
rest_of sale = sale.seats - sale.given_back

-- the seats that a refund of the sale gives back: the part that it names, or the rest
abbrev pub amount_back : Option ℕ → SaleState → ℕ
amount_back part sale = unwrap_or part (rest_of sale)

-- the sale under a number, where the request is a sale that was done
abbrev pub sale_in : KeptByNumber → ℕ → Request → Reply → Option SaleState
sale_in es number (Sell event seats) Done = Some (record { event = event; seats = seats; given_back = given_back es number seats })
sale_in es number _ _ = None

abbrev pub sale_if_kept : KeptByNumber → ℕ → Option Kept → Option SaleState
sale_if_kept es number None = None
sale_if_kept es number (Some k) = sale_in es number k.request k.reply

abbrev pub sale_under : KeptByNumber → ℕ → Option SaleState
sale_under es number = sale_if_kept es number (kept_under es number)

-- a refund that was done is of a sale that is kept, and gives back no more than is left of it
abbrev pub IsRefundable : KeptByNumber → Request → Reply → Type 0
IsRefundable es (Refund sale part) Done = IsSomeAnd (sale_under es sale) (λ state. amount_back part state ≤ rest_of state)
IsRefundable es _ _ = Unit {0}

-- what contracts see of a ledger: what is kept, and room for more
pub record LedgerView : Type 0 where
  pub entries : KeptByNumber
  pub room : ℕ

abbrev pub coded_ledger : Coded LedgerView
coded_ledger = code_by (KeptByNumber × ℕ) (coded× (coded_list (coded× coded_ℕ kept.the_row.coded)) coded_ℕ) (λ l. (l.entries, l.room))
    (λ p. record { entries = p.0; room = p.1 }) (λ _. refl)
