-- The sites of a world as the program holds them. (Our own.)
use Rattle.std.specs.Prelude.{◌≡◌, ℕ, ◌+◌, ◌-◌, List, [], ◌++◌, length, slice_get, Option, Some, Result, OnErr, OnOk}
use Rattle.book_core.specs.declared.entry.Entry.{Entry}
use Rattle.book_core.specs.BookView.{BookView}
use Rattle.book_core.specs.Decision.{office_from}
use Rattle.site_exchange.specs.Exchange as exchange
use Rattle.site_exchange.specs.Exchange.{SitePart, Verdict, zeros}
use Rattle.site_exchange.specs.Taking.{extended}
use Rattle.world_steps.specs.NodeView.{NodeView}
use Rattle.world_steps.specs.declared.node.Judged.{Judged}
use Rattle.world_steps.specs.declared.node.Judged.TheVariants as taken

-- a site's history, and what each peer has acknowledged of it
abbrev pub site_of : NodeView → SitePart
site_of node = record { history = node.book.history; acked = node.acked }

-- the greatest length of a site's history
abbrev pub limit_of : NodeView → ℕ
limit_of node = node.book.office.limit

-- the count of sites with which a site's history began
abbrev pub first_count_of : NodeView → ℕ
first_count_of node = node.book.office.sites

-- site i before any step, which counts so many sites
pub record IsOpened (sites limit i : ℕ) (node : NodeView) : Type 0 where
  pub office : node.book.office ≡ office_from i sites limit
  pub history : node.book.history ≡ []
  pub acked : node.acked ≡ zeros

-- the sites that are lacking of so many, at their places
pub record AreAdded (sites limit : ℕ) (old new : List NodeView) : Type 0 where
  pub more : List NodeView
  pub behind : new ≡ old ++ more
  pub lacking : length more ≡ sites - length old
  pub opened : (k : ℕ) (node : NodeView) → slice_get more k ≡ Some node → IsOpened sites limit (length old + k) node

-- the verdict that a site tells
abbrev pub verdict_told : Judged → Verdict
verdict_told taken.Joined = exchange.Joins
verdict_told taken.NothingNew = exchange.NothingNew
verdict_told taken.Acked = exchange.Acks
verdict_told (taken.Refused fault) = exchange.Refuses fault

-- the book got this entry, if any, or has the history that it had; its office is the same
pub record Stores {T F : Type 0} (entry : Option Entry) (old new : BookView) (came : Result T F) : Type 0 where
  pub office : new.office ≡ old.office
  pub stored : OnOk came (new.history ≡ extended entry old.history)
  pub unchanged : OnErr came (new.history ≡ old.history)

-- the site became this, or is what it was; its office is the same
pub record ChangesSite {T F : Type 0} (site : SitePart) (old new : NodeView) (came : Result T F) : Type 0 where
  pub office : new.book.office ≡ old.book.office
  pub changed : OnOk came (site_of new ≡ site)
  pub unchanged : OnErr came (site_of new ≡ site_of old)
