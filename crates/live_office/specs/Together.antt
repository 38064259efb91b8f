-- What a request comes to that one of the callers who wait may ask for all. (Our own.)
use Rattle.std.specs.Prelude.{◌≡◌, ℕ, Option, Some, None, Result, Ok, Err}
use Rattle.request_ledger.specs.declared.reply.Reply.{Reply}
use Rattle.request_ledger.specs.declared.request.Request.{Request}
use Rattle.site_desk.specs.declared.fault.AskFault.{AskFault}
use Rattle.site_desk.specs.declared.fault.AskFault.TheVariants as ask
use Rattle.site_desk.specs.declared.receipt.Receipt.{Receipt}
use Rattle.live_office.specs.Admissible.{Admissible, IsShut, telling}

abbrev pub receipt_at : ℕ → Request → Reply → ℕ → Receipt
receipt_at number request reply place = record { number = number; request = request; reply = reply; place = place }

-- what a receipt names stands in an admissible book; where there is none, the store failed, and one is closed
abbrev pub IsGiven : {K : Type 0} → Admissible K → Option Receipt → Type 0
IsGiven d (Some receipt) = (telling d).receipts receipt
IsGiven d None = IsShut d

-- A request is given its own receipt. Behind a failed store an admissible book is closed; every other refusal is that of an admissible
-- book.
abbrev pub IsAskedAs : {K : Type 0} → Admissible K → ℕ → Request → Result Receipt AskFault → Type 0
IsAskedAs d number request (Ok receipt) = (receipt.number ≡ number) × (receipt.request ≡ request) × ∥ (telling d).receipts receipt ∥₁
IsAskedAs d number request (Err ask.Store) = ∥ IsShut d ∥₁
IsAskedAs d number request (Err fault) = (telling d).refuses number request fault
