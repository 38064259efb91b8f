-- The seats that are open by a view. The counter's value: SRDS 2015 (Balegas et al.); that it is told of positions alone: our own.
use Rattle.std.specs.Prelude.{◌≡◌, ◌↔◌, ℕ, zero, suc, ◌+◌, ◌-◌, ◌≤◌, Bool, true, ◌&&◌, nat_le, if◌then◌else◌, List, Option, Some, None, pos, IfSome, IsSome}
use Rattle.rights_lattice.specs.Cells.{Cells}
use Rattle.rights_lattice.specs.RightsView.{IsWithin}
use Rattle.rights_lattice.specs.Sums.{max_sites}
use Rattle.local_rights.specs.declared.seat_totals.ViewTotals.{ViewTotals}
use Rattle.local_rights.specs.Rights.{gained, spent, IsPosition, released_in, sold_in, refunded_in, paper_value}

-- the test holds of 0 .. n - 1
abbrev pub all_below : ℕ → (ℕ → Bool) → Bool
all_below zero test = true
all_below (suc n) test = all_below n test && test n

-- whether no site's rights are negative
abbrev pub is_position : Cells → List ℕ → Bool
is_position X event = all_below max_sites (λ i. nat_le (spent X event i) (gained X event i))

-- what was created less what was consumed, where the view is a position
abbrev pub open_seats_in : Cells → List ℕ → Option ℕ
open_seats_in X event = if is_position X event then Some (released_in X event + refunded_in X event - sold_in X event) else None

-- what a view shows of an event
abbrev pub view_in : Cells → List ℕ → ViewTotals
view_in X event = record {
  released = released_in X event;
  sold = sold_in X event;
  refunded = refunded_in X event;
  open_seats = open_seats_in X event;
}

-- these seats are told where the view is a position, and where they are told they are the counter's value
pub record AreOpenSeats (X : Cells) (event : List ℕ) (seats : Option ℕ) : Type 0 where
  pub position : IsSome seats ↔ IsPosition X event
  pub value : IfSome seats (λ n. pos n ≡ paper_value X event)

-- over any count of sites, the open seats are the counter's value where the view is a position, and none where it is not
abbrev pub OpenSeatsAreTheCounters : Type 0
OpenSeatsAreTheCounters = (sites : ℕ) (X : Cells) (event : List ℕ) → sites ≤ max_sites → IsWithin sites X
    → (IsSome (open_seats_in X event) ↔ IsPosition X event) × IfSome (open_seats_in X event) (λ seats. pos seats ≡ paper_value X event)
