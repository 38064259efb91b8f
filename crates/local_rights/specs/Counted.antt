-- What contracts see of a state of rights in which one site's own are kept by event. Our own.
use Rattle.std.specs.Prelude.{◌≡◌, ℕ, ◌+◌, ◌≤◌, ◌<◌, if◌then◌else◌, List, Some, IsSome, refl}
use Rattle.std.specs.Coded.{Coded, code_by, coded_ℕ, coded×}
use Rattle.std.specs.Map.{lookup}
use Rattle.std.specs.Option.{unwrap_or}
use Rattle.rights_lattice.specs.Cell.{same_event}
use Rattle.rights_lattice.specs.Cells.{Cells, coded_cells, greatest_value, value_at}
use Rattle.rights_lattice.specs.Limits.{most_sites}
use Rattle.rights_lattice.specs.declared.cell.Cell.{Cell}
use Rattle.local_rights.specs.declared.effect.Effect.{Effect}
use Rattle.local_rights.specs.Effects.{left_after}
use Rattle.local_rights.specs.Rights.{gained, spent}

-- the site whose rights are kept, the values of the cells over a count of sites, and room for cells that are 0 now
pub record CountedView : Type 0 where
  pub me : ℕ
  pub sites : ℕ
  pub cells : Cells
  pub room : ℕ

abbrev pub coded_counted : Coded CountedView
coded_counted = code_by (((ℕ × ℕ) × Cells) × ℕ) (coded× (coded× (coded× coded_ℕ coded_ℕ) coded_cells) coded_ℕ) (λ c. (((c.me, c.sites), c.cells), c.room))
    (λ p. record { me = p.0.0.0; sites = p.0.0.1; cells = p.0.1; room = p.1 }) (λ _. refl)

-- the number that is kept for an event, 0 where there is none
abbrev pub left_in : List (List ℕ × ℕ) → List ℕ → ℕ
left_in kept event = unwrap_or (lookup (same_event event) kept) 0

-- a number is kept for the event
abbrev pub HasKept : List (List ℕ × ℕ) → List ℕ → Type 0
HasKept kept event = IsSome (lookup (same_event event) kept)

-- the number of the event is what is left once a cell of this effect has risen by so much, and those of other events are as they were
abbrev pub IsKeptAfter : List (List ℕ × ℕ) → List ℕ → Effect → ℕ → List (List ℕ × ℕ) → Type 0
IsKeptAfter old event effect more new = (name : List ℕ) → lookup (same_event name) new
    ≡ (if same_event event name then Some (left_after effect (left_in old event) more) else lookup (same_event name) old)

-- the kept numbers are what the site has left, and each event with a cell that is not 0 has one
pub record AreKept (kept : List (List ℕ × ℕ)) (sites me : ℕ) (X : Cells) : Type 0 where
  pub me_is_site : me < sites
  pub are_few : sites ≤ most_sites
  pub are_values : (event : List ℕ) (cell : Cell) → value_at X event cell ≤ greatest_value
  pub are_left : (event : List ℕ) → left_in kept event + spent X event me ≡ gained X event me
  pub are_all : (event : List ℕ) (cell : Cell) → 1 ≤ value_at X event cell → HasKept kept event
