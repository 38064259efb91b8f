-- The sums of what was given back, by the sale's number, and what they have to be. (Our own.)
use Rattle.std.specs.Prelude.{ℕ, ◌≡◌, ◌==◌, nat_eq, if◌then◌else◌, List, Option, Some, None, unwrap_or}
use Rattle.std.specs.Map.{lookup}
use Rattle.request_ledger.specs.declared.request.Request.{Request}
use Rattle.request_ledger.specs.declared.request.Request.TheVariants.{Sell, Refund}
use Rattle.request_ledger.specs.declared.reply.Reply.{Reply}
use Rattle.request_ledger.specs.declared.reply.Reply.TheVariants.{Done}
use Rattle.request_ledger.specs.declared.reply.Kept.{Kept}
use Rattle.request_ledger.specs.declared.reply.SaleState.{SaleState}
use Rattle.request_ledger.specs.declared.ledger.DoneRefund.{DoneRefund}
use Rattle.request_ledger.specs.Ledger.{KeptByNumber, kept_under, given_back, with_kept}

-- the refund, where the request is one that was done
abbrev pub refund_with : Request → Reply → Option DoneRefund
refund_with (Refund sale part) Done = Some (record { sale = sale; part = part })
refund_with _ _ = None

-- the sale, where the request is one that was done
abbrev pub sale_with : Request → Reply → ℕ → Option SaleState
sale_with (Sell event seats) Done given = Some (record { event = event; seats = seats; given_back = given })
sale_with _ _ given = None

-- the seats of the request, where it is a sale that was done
abbrev pub seats_in : Request → Reply → Option ℕ
seats_in (Sell event seats) Done = Some seats
seats_in _ _ = None

abbrev pub seats_if_kept : Option Kept → Option ℕ
seats_if_kept None = None
seats_if_kept (Some k) = seats_in k.request k.reply

-- the seats of the sale under a number
abbrev pub seats_under : KeptByNumber → ℕ → Option ℕ
seats_under es number = seats_if_kept (kept_under es number)

-- the sum under a number, or 0
abbrev pub sum_under : List (ℕ × ℕ) → ℕ → ℕ
sum_under sums number = unwrap_or (lookup (nat_eq number) sums) 0

-- each sale's sum is what was given back of it, and of nothing else was anything given back
pub record AreSums (es : KeptByNumber) (sums : List (ℕ × ℕ)) : Type 0 where
  pub of_sales : (number seats : ℕ) → seats_under es number ≡ Some seats → sum_under sums number ≡ given_back es number seats
  pub no_sum : (number : ℕ) → seats_under es number ≡ None → sum_under sums number ≡ 0
  pub of_sales_only : (number seats : ℕ) → seats_under es number ≡ None → given_back es number seats ≡ 0

-- the same, once the request and its reply are kept too, under whichever number
abbrev pub AreSumsWith : KeptByNumber → Request → Reply → List (ℕ × ℕ) → Type 0
AreSumsWith es request reply sums = (number place : ℕ) → AreSums (with_kept es number place request reply) sums

-- the sum under this number is so many, and the others are as they were
abbrev pub IsSumSet : List (ℕ × ℕ) → ℕ → ℕ → List (ℕ × ℕ) → Type 0
IsSumSet old sale seats new = (number : ℕ) → sum_under new number ≡ (if sale == number then seats else sum_under old number)
