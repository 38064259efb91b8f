-- The decision on a request, and the delta of an accepted one. (The delta: JPDC 2018; the decision: our own.)
use Rattle.std.specs.Prelude.{◌≡◌, ℕ, ◌+◌, Bool, false, Option, Some, None, if◌then◌else◌, not, ◌==◌, nat_lt, nat_le, List, length}
use Rattle.std.specs.List.{fold}
use Rattle.rights_lattice.specs.declared.cell.Cell.{Cell}
use Rattle.rights_lattice.specs.declared.cell.Cell.TheVariants.{Gave, Used, Back}
use Rattle.rights_lattice.specs.Cells.{Cells, value_at, greatest_value}
use Rattle.rights_lattice.specs.State.{State, bottom, knows}
use Rattle.delta_mutators.specs.Marks.{mark_plus}
use Rattle.delta_mutators.specs.Items as items
use Rattle.delta_mutators.specs.declared.delta.Item.TheVariants as item
use Rattle.delta_mutators.specs.declared.delta.Item.{Item}
use Rattle.local_rights.specs.Rights.{left_of}
use Rattle.request_ledger.specs.declared.request.Request.{Request}
use Rattle.request_ledger.specs.declared.request.Request.TheVariants.{Announce, Release, Sell, Refund, Cede}
use Rattle.request_ledger.specs.declared.reply.Reply.{Reply}
use Rattle.request_ledger.specs.declared.reply.Reply.TheVariants.{Done, Known, Unknown, Short, CellFull, NoSale, Refunded, TooMany, ToSelf, NoSite}
use Rattle.request_ledger.specs.declared.reply.Kept.{Kept}
use Rattle.request_ledger.specs.declared.reply.SaleState.{SaleState}
use Rattle.request_ledger.specs.Requests.{is_done, same_request}
use Rattle.request_ledger.specs.Ledger.{rest_of, amount_back}
use Rattle.book_core.specs.declared.entry.Entry.{Entry}
use Rattle.book_core.specs.declared.entry.Entry.TheVariants.{Asked}
use Rattle.book_core.specs.History.{state_of, kept, sale_of, sites_after}

-- a site, the count of sites with which its history begins, and the greatest length of the history
pub record SiteConfig : Type 0 where
  pub me : ℕ
  pub sites : ℕ
  pub limit : ℕ

-- the office of site `me` of so many sites, under this limit
abbrev pub office_from : ℕ → ℕ → ℕ → SiteConfig
office_from me sites limit = record { me = me; sites = sites; limit = limit }

-- the count of sites after a history
abbrev pub sites_of : SiteConfig → List Entry → ℕ
sites_of office h = fold sites_after office.sites h

-- the same office, with the count of sites after a history
abbrev pub office_after : SiteConfig → List Entry → SiteConfig
office_after office h = record office { sites = sites_of office h }

-- what an accepted request adds to, and how much
pub data Kind : Type 0 where
  Releasing : Kind
  Selling : Kind
  Refunding : Kind
  Ceding : (to : ℕ) → Kind

pub record Change : Type 0 where
  pub kind : Kind
  pub event : List ℕ
  pub amount : ℕ

abbrev pub cell_of : ℕ → Kind → Cell
cell_of me Releasing = Gave me me
cell_of me Selling = Used me
cell_of me Refunding = Back me
cell_of me (Ceding to) = Gave me to

-- the amount of a refund is the part that it names, or what is left of its sale
abbrev pub refund_of : Option SaleState → Option ℕ → Option Change
refund_of None part = None
refund_of (Some sale) part = Some (record { kind = Refunding; event = sale.event; amount = amount_back part sale })

abbrev pub change_of : List Entry → Request → Option Change
change_of h (Announce event) = None
change_of h (Release event n) = Some (record { kind = Releasing; event = event; amount = n })
change_of h (Sell event n) = Some (record { kind = Selling; event = event; amount = n })
change_of h (Refund sale part) = refund_of (sale_of h sale) part
change_of h (Cede event to n) = Some (record { kind = Ceding to; event = event; amount = n })

-- the cell of a change at its old value plus the amount
abbrev pub marked : ℕ → Cells → Option Change → State
marked me X None = bottom
marked me X (Some c) = items.item_state (item.Cell (mark_plus X c.event (cell_of me c.kind) c.amount))

-- the state of an item, if there is one
abbrev pub state_of_item : Option Item → State
state_of_item None = bottom
state_of_item (Some i) = items.item_state i

-- what a request that is done adds to the state
abbrev pub addition_of : SiteConfig → List Entry → Request → State
addition_of office h (Announce event) = items.item_state (item.Name event)
addition_of office h request = marked office.me (state_of h).cells (change_of h request)

-- the delta of a request with its reply
abbrev pub delta_for : SiteConfig → List Entry → Request → Reply → State
delta_for office h request reply = if is_done reply then addition_of office h request else bottom

-- the cell has no room for the amount
abbrev pub is_full : Cells → List ℕ → Cell → ℕ → Bool
is_full X event cell n = nat_lt greatest_value (value_at X event cell + n)

abbrev pub refund_reply : Option SaleState → Option ℕ → Reply
refund_reply None part = NoSale
refund_reply (Some sale) part =
    if rest_of sale == 0 then Refunded
    else if nat_lt (rest_of sale) (amount_back part sale) then TooMany (rest_of sale)
    else Done

-- the rights that the site has left
abbrev pub own_left : SiteConfig → List Entry → List ℕ → ℕ
own_left office h event = left_of (state_of h).cells event office.me

-- the first reply that applies, for a new number and a history with room
abbrev pub reply_to : SiteConfig → List Entry → Request → Reply
reply_to office h (Announce event) = if knows (state_of h).names event then Known else Done
reply_to office h (Release event n) =
    if not (knows (state_of h).names event) then Unknown
    else if is_full (state_of h).cells event (Gave office.me office.me) n then CellFull
    else Done
reply_to office h (Sell event n) =
    if not (knows (state_of h).names event) then Unknown
    else if nat_lt (own_left office h event) n then Short (own_left office h event)
    else if is_full (state_of h).cells event (Used office.me) n then CellFull
    else Done
reply_to office h (Refund sale part) = refund_reply (sale_of h sale) part
reply_to office h (Cede event to n) =
    if not (knows (state_of h).names event) then Unknown
    else if to == office.me then ToSelf
    else if nat_le (sites_of office h) to then NoSite
    else if nat_lt (own_left office h event) n then Short (own_left office h event)
    else if is_full (state_of h).cells event (Gave office.me to) n then CellFull
    else Done

-- the reply that is due to the request, and the item that it adds: a refusal adds none
pub record Decides (office : SiteConfig) (h : List Entry) (request : Request) (came : Reply × Option Item) : Type 0 where
  pub reply : came.0 ≡ reply_to office h request
  pub item : state_of_item came.1 ≡ delta_for office h request came.0
  pub idle : is_done came.0 ≡ false → came.1 ≡ None

-- what is left where a request under a new number asks for more than that, and would be refused
abbrev pub left_if_short : Reply → Option ℕ
left_if_short (Short left) = Some left
left_if_short _ = None

abbrev pub shortage_if : Option Kept → SiteConfig → List Entry → Request → Option ℕ
shortage_if (Some k) office h request = None
shortage_if None office h request = left_if_short (reply_to office h request)

abbrev pub shortage : SiteConfig → List Entry → ℕ → Request → Option ℕ
shortage office h number request = shortage_if (kept h number) office h request

-- the answer to a request under its number
pub data Decision : Type 0 where
  Again : (place : ℕ) → (reply : Reply) → Decision
  Reused : (place : ℕ) → Decision
  Full : Decision
  Fresh : (reply : Reply) → Decision

abbrev pub decision_if : Option Kept → SiteConfig → List Entry → Request → Decision
decision_if (Some k) office h request = if same_request k.request request then Again k.place k.reply else Reused k.place
decision_if None office h request = if nat_le office.limit (length h) then Full else Fresh (reply_to office h request)

abbrev pub decision : SiteConfig → List Entry → ℕ → Request → Decision
decision office h number request = decision_if (kept h number) office h request

abbrev pub entry_if : Decision → SiteConfig → List Entry → ℕ → Request → Option Entry
entry_if (Fresh reply) office h number request = Some (Asked number request reply (delta_for office h request reply))
entry_if _ office h number request = None

-- the entry that asking adds, if any
abbrev pub entry_of_ask : SiteConfig → List Entry → ℕ → Request → Option Entry
entry_of_ask office h number request = entry_if (decision office h number request) office h number request
