-- What holds of every world that a list of steps leads to. (Versions of rows and the lost seats: our own; a
-- delta-interval that joins as the sender's whole state does: causal delta-merging, JPDC 2018.)
use Rattle.std.specs.Prelude.{◌≡◌, ◌≢◌, ℕ, ◌≤◌, ◌<◌, ◌+◌, List, length, Some, slice_get, get_or}
use Rattle.rights_lattice.specs.declared.cell.Cell.{Cell}
use Rattle.rights_lattice.specs.Cell.{owner_of}
use Rattle.rights_lattice.specs.Cells.{value_at}
use Rattle.rights_lattice.specs.State.{State, AtOrBelow, join}
use Rattle.rights_lattice.specs.Sums.{max_sites, sum_below}
use Rattle.local_rights.specs.Rights as rights
use Rattle.local_rights.specs.Rights.{IsPosition, gained, spent, released_in, sold_in, refunded_in}
use Rattle.book_core.specs.History.{state_of}
use Rattle.book_core.specs.Operations.{outstanding, released, sold, refunded, ceded, AreDistinct}
use Rattle.site_exchange.specs.declared.message.Message.{Message}
use Rattle.site_exchange.specs.declared.message.Message.TheVariants.{Delta, Ack}
use Rattle.site_exchange.specs.Exchange.{receiver}
use Rattle.world_steps.specs.declared.step.Step.{Step}
use Rattle.world_steps.specs.World.{World, count, count_at, history_at, site_numbered, state_at, run, begun, AreBegun, all_operations}

-- Over every list of requests, messages lost, repeated or reordered, growths, stops and restarts, of sites with any
-- limits, each counting at first so many of them, itself among them.
abbrev pub Always : (World → Type 0) → Type 0
Always Holds = (limits counts : List ℕ) → AreBegun limits counts → (steps : List Step) → Holds (run steps (begun limits counts))

-- The same, where each site has a number.
abbrev pub AlwaysNumbered : (World → Type 0) → Type 0
AlwaysNumbered Holds = (limits counts : List ℕ) → AreBegun limits counts → length limits ≤ max_sites → (steps : List Step)
    → Holds (run steps (begun limits counts))

-- The tickets outstanding over all sites never exceed the seats released.
abbrev pub NeverOversold : World → Type 0
NeverOversold w = (event : List ℕ) → outstanding event (all_operations w) ≤ released event (all_operations w)

-- No more is given back than was sold, so what is outstanding is a difference of numbers that is not cut off at 0.
abbrev pub RefundsWithinSales : World → Type 0
RefundsWithinSales w = (event : List ℕ) → refunded event (all_operations w) ≤ sold event (all_operations w)

-- x has no more than its owner on each row
abbrev pub RowsAtMost : State → (ℕ → State) → Type 0
RowsAtMost x own = (event : List ℕ) (cell : Cell) → value_at x.cells event cell ≤ value_at (own (owner_of cell)).cells event cell

abbrev pub own_state : World → ℕ → State
own_state w i = state_of (history_at w i)

-- On each row no view is above its owner's.
abbrev pub ViewsBelowOwners : World → Type 0
ViewsBelowOwners w = (i : ℕ) → RowsAtMost (own_state w i) (own_state w)

-- On each row no delta ever sent is above its owner's.
abbrev pub DeltasBelowOwners : World → Type 0
DeltasBelowOwners w = (k by to upto : ℕ) (delta : State)
    → slice_get w.sent k ≡ Some (Delta by to upto delta) → RowsAtMost delta (own_state w)

-- What i counts as acknowledged by j, j has.
abbrev pub AcknowledgedIsHeld : World → Type 0
AcknowledgedIsHeld w = (i j : ℕ) → AtOrBelow (state_at (history_at w i) (get_or (site_numbered w i).acked j 0)) (own_state w j)

-- What an acknowledgement ever sent from j to i tells, j has.
abbrev pub AcksAreTrue : World → Type 0
AcksAreTrue w = (k i j upto : ℕ)
    → slice_get w.sent k ≡ Some (Ack j i upto) → AtOrBelow (state_at (history_at w i) upto) (own_state w j)

-- Each view could have been: no site's rights are negative in it, for any event.
abbrev pub ViewsArePositions : World → Type 0
ViewsArePositions w = (i : ℕ) (event : List ℕ) → IsPosition (own_state w i).cells event

-- By each view no more is sold than released and given back.
abbrev pub ViewsNotOversold : World → Type 0
ViewsNotOversold w = (i : ℕ) (event : List ℕ)
    → sold_in (own_state w i).cells event ≤ released_in (own_state w i).cells event + refunded_in (own_state w i).cells event

-- Each row of a view is its owner's row as it was after some entry, or before the first.
abbrev pub RowsAreVersions : World → Type 0
RowsAreVersions w = (i k : ℕ) → (m : ℕ) × (m ≤ length (history_at w k))
    × ((event : List ℕ) (cell : Cell) → owner_of cell ≡ k → value_at (own_state w i).cells event cell ≡ value_at (state_at (history_at w k) m).cells event cell)

-- Joining a delta that was sent is joining the sender's state at the length that the message names.
abbrev pub JoinsAreCausal : World → Type 0
JoinsAreCausal w = (k by to upto : ℕ) (delta : State) → slice_get w.sent k ≡ Some (Delta by to upto delta)
    → (upto ≤ length (history_at w by)) × (join (own_state w to) delta ≡ join (own_state w to) (state_at (history_at w by) upto))

-- each site counts all of its history as acknowledged by each other
abbrev pub IsAllAcknowledged : World → Type 0
IsAllAcknowledged w = (i j : ℕ) → i < count w → j < count w → i ≢ j → get_or (site_numbered w i).acked j 0 ≡ length (history_at w i)

-- Then all sites know the same.
abbrev pub AgreeOnceAcknowledged : World → Type 0
AgreeOnceAcknowledged w = IsAllAcknowledged w → (i j : ℕ) → i < count w → j < count w → own_state w i ≡ own_state w j

-- No two accepted requests of the flat list have the same site and place.
abbrev pub OperationsAreDistinct : World → Type 0
OperationsAreDistinct w = AreDistinct (all_operations w)

-- Where each seat of an event is: numbers that add up, each given by a sum, so that nothing is cut off at 0.
pub record SeatsAddUp (w : World) (event : List ℕ) : Type 0 where
  -- sold and not given back
  pub outstanding : ℕ
  -- what a site may sell: its rights, by its own view
  pub sellable : ℕ → ℕ
  -- what a site ceded to another that has not learned of it
  pub under_way : ℕ → ℕ → ℕ
  pub kept_sales : outstanding + refunded event (all_operations w) ≡ sold event (all_operations w)
  pub own_rights : (i : ℕ) → sellable i + spent (own_state w i).cells event i ≡ gained (own_state w i).cells event i
  pub not_learned : (i j : ℕ) → under_way i j + rights.ceded_in (own_state w j).cells event i j ≡ ceded i j event (all_operations w)
  pub all_released : released event (all_operations w)
      ≡ outstanding + sum_below (count w) sellable + sum_below (count w) (λ i. sum_below (count w) (under_way i))

-- What was released is outstanding, or may be sold at some site, or was ceded and is not yet learned of.
abbrev pub NoSeatIsLost : World → Type 0
NoSeatIsLost w = (event : List ℕ) → SeatsAddUp w event

-- Each site that a site counts is there.
abbrev pub CountedAreThere : World → Type 0
CountedAreThere w = (i : ℕ) → count_at w i ≤ count w

-- The receiver of each message that was sent is there.
abbrev pub ReceiversAreThere : World → Type 0
ReceiversAreThere w = (k : ℕ) (message : Message) → slice_get w.sent k ≡ Some message → receiver message < count w

-- All of these, in one world.
pub record HoldsPromises (w : World) : Type 0 where
  pub never_oversold : NeverOversold w
  pub refunds_within_sales : RefundsWithinSales w
  pub no_seat_is_lost : NoSeatIsLost w
  pub operations_are_distinct : OperationsAreDistinct w
  pub views_below_owners : ViewsBelowOwners w
  pub deltas_below_owners : DeltasBelowOwners w
  pub rows_are_versions : RowsAreVersions w
  pub joins_are_causal : JoinsAreCausal w
  pub acknowledged_is_held : AcknowledgedIsHeld w
  pub acks_are_true : AcksAreTrue w
  pub agree_once_acknowledged : AgreeOnceAcknowledged w
  pub rights_not_negative : ViewsArePositions w
  pub views_not_oversold : ViewsNotOversold w
  pub counted_are_there : CountedAreThere w
  pub receivers_are_there : ReceiversAreThere w
