-- What holds of every legal history, and of the tests by which a peer's delta is judged. (Our own.)
use Rattle.std.specs.Prelude.{◌≡◌, ◌↔◌, ℕ, ◌≤◌, List, length, slice_get, Some, None, IsTrue}
use Rattle.rights_lattice.specs.Cells.{RowAtOrBelow, marks_of}
use Rattle.rights_lattice.specs.RightsView.{IsWithin}
use Rattle.rights_lattice.specs.State.{State}
use Rattle.local_rights.specs.Rights.{HasRights}
use Rattle.request_ledger.specs.declared.request.Request.{Request}
use Rattle.request_ledger.specs.declared.reply.Reply.{Reply}
use Rattle.book_core.specs.declared.entry.Entry.{Entry}
use Rattle.book_core.specs.declared.entry.Entry.TheVariants.{Asked}
use Rattle.book_core.specs.Decision.{SiteConfig, Refunding, Selling}
use Rattle.book_core.specs.History.{state_of, kept}
use Rattle.book_core.specs.Joining.{IsPeer, foreign, is_of_sites}
use Rattle.book_core.specs.Legal.{IsLegal}
use Rattle.book_core.specs.Operations.{operations, total}

-- for no event are the site's own rights negative (SRDS 2015)
abbrev pub RightsNeverNegative : Type 0
RightsNeverNegative = (office : SiteConfig) (h : List Entry) → IsLegal office h → (event : List ℕ) → HasRights (state_of h).cells event office.me

-- an asked entry is what is kept under its number
abbrev pub EachReplyIsKept : Type 0
EachReplyIsKept = (office : SiteConfig) (h : List Entry) → IsLegal office h
    → (k number : ℕ) (request : Request) (reply : Reply) (delta : State) → slice_get h k ≡ Some (Asked number request reply delta)
    → kept h number ≡ Some (record { place = k; request = request; reply = reply })

-- two asked entries of one number are one entry
abbrev pub NumbersAreKeptOnce : Type 0
NumbersAreKeptOnce = (office : SiteConfig) (h : List Entry) → IsLegal office h
    → (j k number : ℕ) (p q : Request) (r s : Reply) (D E : State)
    → slice_get h j ≡ Some (Asked number p r D) → slice_get h k ≡ Some (Asked number q s E) → j ≡ k

-- no more is given back than was sold
abbrev pub RefundsAreWithinSales : Type 0
RefundsAreWithinSales = (office : SiteConfig) (h : List Entry) → IsLegal office h
    → (event : List ℕ) → total Refunding event (operations office.me h) ≤ total Selling event (operations office.me h)

-- the history is as long as its limit at most
abbrev pub HistoryIsWithinLimit : Type 0
HistoryIsWithinLimit = (office : SiteConfig) (h : List Entry) → IsLegal office h → length h ≤ office.limit

-- no mark of the own row is above the state exactly where the delta has no more on that row
abbrev pub RowTestIsTheOrder : Type 0
RowTestIsTheOrder = (site : ℕ) (D X : State) → (foreign site X.cells (marks_of D.cells) ≡ None) ↔ RowAtOrBelow site D.cells X.cells

-- the test of sites is that the peer is another site and that the cells name sites of the book
abbrev pub SitesTestIsTheRange : Type 0
SitesTestIsTheRange = (office : SiteConfig) (peer : ℕ) (delta : State)
    → IsTrue (is_of_sites office peer delta) ↔ (IsPeer office peer × IsWithin office.sites delta.cells)
