-- Histories whose refunds name no part of their sales: what a refund decides there, and which of them are legal. (Our own.)
use Rattle.std.specs.Prelude.{◌≡◌, ◌↔◌, ℕ, ◌<◌, ◌≤◌, Bool, false, ◌&&◌, ◌==◌, if◌then◌else◌, List, length, take, slice_get, Option, Some, None}
use Rattle.std.specs.List.{list_any}
use Rattle.rights_lattice.specs.State.{State, bottom}
use Rattle.request_ledger.specs.declared.request.Request.{Request}
use Rattle.request_ledger.specs.declared.request.Request.TheVariants.{Refund}
use Rattle.request_ledger.specs.declared.reply.Reply.{Reply}
use Rattle.request_ledger.specs.declared.reply.Reply.TheVariants.{Done, NoSale, Refunded}
use Rattle.request_ledger.specs.declared.reply.SaleState.{SaleState}
use Rattle.request_ledger.specs.Requests.{is_done}
use Rattle.book_core.specs.declared.entry.Entry.{Entry}
use Rattle.book_core.specs.declared.entry.Entry.TheVariants.{Asked}
use Rattle.book_core.specs.Decision.{SiteConfig, Change, Refunding, change_of, marked, reply_to}
use Rattle.book_core.specs.History.{asked, kept, sale_of, state_of}
use Rattle.book_core.specs.Legal.{IsNext, IsLegal}

-- the request is no refund that names a part
abbrev pub NamesNoPart : Request → Type 0
NamesNoPart (Refund sale (Some n)) = ⊥
NamesNoPart _ = Unit {0}

abbrev pub HasNoParts : List Entry → Type 0
HasNoParts h = (k number : ℕ) (request : Request) (reply : Reply) (delta : State) → slice_get h k ≡ Some (Asked number request reply delta)
    → NamesNoPart request

abbrev pub is_refund_of : ℕ → Request → Bool
is_refund_of sale (Refund other part) = other == sale
is_refund_of sale _ = false

-- a refund of the sale was done
abbrev pub was_refunded : List Entry → ℕ → Bool
was_refunded h sale = list_any (λ e. is_done e.1.reply && is_refund_of sale e.1.request) (asked h)

-- where no refund names a part, a sale is given back with all of its seats, and once
abbrev pub SalesAreRefundedWholeOnce : Type 0
SalesAreRefundedWholeOnce = (office : SiteConfig) (h : List Entry) → HasNoParts h
    → (number : ℕ) (sale : SaleState) → sale_of h number ≡ Some sale → 1 ≤ sale.seats
    → (reply_to office h (Refund number None) ≡ (if was_refunded h number then Refunded else Done))
    × (was_refunded h number ≡ false → change_of h (Refund number None) ≡ Some (record { kind = Refunding; event = sale.event; amount = sale.seats }))

-- ---- legality where each refund gives back all seats of its sale, once

-- the reply to a refund of this sale, which was refunded or not
abbrev pub whole_reply : Option SaleState → Bool → Reply
whole_reply None was = NoSale
whole_reply (Some sale) was = if was then Refunded else Done

-- all seats of the sale
abbrev pub whole_change : Option SaleState → Option Change
whole_change None = None
whole_change (Some sale) = Some (record { kind = Refunding; event = sale.event; amount = sale.seats })

abbrev pub whole_delta : SiteConfig → List Entry → ℕ → Reply → State
whole_delta office h sale reply = if is_done reply then marked office.me (state_of h).cells (whole_change (sale_of h sale)) else bottom

-- a refund under a new number within the limit, with the reply and the delta that are due where it gives back all seats or none
pub record IsNextWholeRefund (office : SiteConfig) (h : List Entry) (number sale : ℕ) (reply : Reply) (delta : State) : Type 0 where
  pub room : length h < office.limit
  pub new : kept h number ≡ None
  pub answer : reply ≡ whole_reply (sale_of h sale) (was_refunded h sale)
  pub change : delta ≡ whole_delta office h sale reply

-- the entry is legal after this history: of refunds only one that names no part and is whole, and of all else what is legal anyhow
abbrev pub IsNextWhole : SiteConfig → List Entry → Entry → Type 0
IsNextWhole office h (Asked number (Refund sale None) reply delta) = IsNextWholeRefund office h number sale reply delta
IsNextWhole office h (Asked number (Refund sale (Some part)) reply delta) = ⊥
IsNextWhole office h entry = IsNext office h entry

-- each entry is legal after those before it
abbrev pub IsLegalWhole : SiteConfig → List Entry → Type 0
IsLegalWhole office h = (k : ℕ) (entry : Entry) → slice_get h k ≡ Some entry → IsNextWhole office (take k h) entry

-- each sale is of one seat at least
abbrev pub SalesHaveSeats : List Entry → Type 0
SalesHaveSeats h = (number : ℕ) (sale : SaleState) → sale_of h number ≡ Some sale → 1 ≤ sale.seats

-- where no refund names a part, the two legalities are one
abbrev pub LegalWithoutPartsIsWhole : Type 0
LegalWithoutPartsIsWhole = (office : SiteConfig) (h : List Entry) → HasNoParts h → SalesHaveSeats h → (IsLegal office h ↔ IsLegalWhole office h)
