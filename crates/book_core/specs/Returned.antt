-- What refunds gave back of one sale, amount by amount. (Our own.)
use Rattle.std.specs.Prelude.{◌≡◌, ℕ, ◌+◌, ◌≤◌, ◌==◌, if◌then◌else◌, List, [], ◌∷◌, ◌++◌, Option, Some, None}
use Rattle.request_ledger.specs.declared.request.Request.{Request}
use Rattle.request_ledger.specs.declared.request.Request.TheVariants.{Refund}
use Rattle.request_ledger.specs.declared.reply.SaleState.{SaleState}
use Rattle.request_ledger.specs.Requests.{is_done}
use Rattle.book_core.specs.declared.entry.Entry.{Entry}
use Rattle.book_core.specs.declared.entry.Entry.TheVariants.{Asked, Joined, Grown}
use Rattle.book_core.specs.Decision.{SiteConfig, Change, change_of}
use Rattle.book_core.specs.History.{sale_of}
use Rattle.book_core.specs.Legal.{IsLegal}

abbrev pub amount_of : Option Change → ℕ
amount_of None = 0
amount_of (Some c) = c.amount

-- what a request that is done after these entries gives back of the sale
abbrev pub returned_in : ℕ → List Entry → Request → ℕ
returned_in sale before (Refund other part) = if other == sale then amount_of (change_of before (Refund other part)) else 0
returned_in sale before _ = 0

abbrev pub returned_by : ℕ → List Entry → Entry → ℕ
returned_by sale before (Asked number request reply delta) = if is_done reply then returned_in sale before request else 0
returned_by sale before (Joined peer delta) = 0
returned_by sale before (Grown sites) = 0

abbrev pub returned_from : ℕ → List Entry → List Entry → ℕ
returned_from sale before [] = 0
returned_from sale before (entry ∷ rest) = returned_by sale before entry + returned_from sale (before ++ entry ∷ []) rest

-- the amounts of the refunds of the sale that were done, added up
abbrev pub returned : ℕ → List Entry → ℕ
returned sale h = returned_from sale [] h

-- what the ledger tells as given back of a sale is what its refunds gave back, and no more than the sale has
abbrev pub SalesAreReturnedWithinTheirSeats : Type 0
SalesAreReturnedWithinTheirSeats = (office : SiteConfig) (h : List Entry) → IsLegal office h
    → (number : ℕ) (sale : SaleState) → sale_of h number ≡ Some sale → (returned number h ≡ sale.given_back) × (returned number h ≤ sale.seats)
