-- What a world of the program keeps. (Our own.)
use Rattle.std.specs.Prelude.{◌≡◌, ℕ, ◌+◌, ◌≤◌, List, map, Some, slice_get}
use Rattle.rights_lattice.specs.declared.cell.Cell.TheVariants.{Gave, Used, Back}
use Rattle.rights_lattice.specs.Cells.{Cells, value_at}
use Rattle.rights_lattice.specs.State.{Names, join_names, names_in_order}
use Rattle.local_rights.specs.declared.seat_totals.Totals.{Totals}
use Rattle.book_core.specs.History.{state_of}
use Rattle.book_core.specs.BookView.{BookView}
use Rattle.site_exchange.specs.declared.message.Message.{Message}
use Rattle.world_steps.specs.NodeView.{NodeView}
use Rattle.world_steps.specs.Nodes.{site_of, limit_of, first_count_of}
use Rattle.world_steps.specs.World.{World, IsReached}

-- the sites of the program and the messages that they sent, as a world
abbrev pub world_of : List NodeView → List Message → World
world_of nodes sent = record { limits = map limit_of nodes; counts = map first_count_of nodes; sites = map site_of nodes; sent = sent }

-- each book is of the site that its place names, and steps lead here
pub record IsKept (nodes : List NodeView) (sent : List Message) : Type 0 where
  pub places : (i : ℕ) (node : NodeView) → slice_get nodes i ≡ Some node → node.book.office.me ≡ i
  pub reached : IsReached (world_of nodes sent)

-- the rising list of a set of names becomes that of the set with these names
abbrev pub AddsNames : List (List ℕ) → List (List ℕ) → Names → Type 0
AddsNames old new names = (known : Names) → old ≡ names_in_order known → new ≡ names_in_order (join_names known names)

-- the sums with the own cells of a book added
abbrev pub with_own : Totals → BookView → List ℕ → Totals
with_own totals book event =
    let cells : Cells = (state_of book.history).cells in
    record {
      released = totals.released + value_at cells event (Gave book.office.me book.office.me);
      sold = totals.sold + value_at cells event (Used book.office.me);
      refunded = totals.refunded + value_at cells event (Back book.office.me);
    }

-- each of the sums is at most this
pub record AreAtMost (most : ℕ) (totals : Totals) : Type 0 where
  pub released : totals.released ≤ most
  pub sold : totals.sold ≤ most
  pub refunded : totals.refunded ≤ most
