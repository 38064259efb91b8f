-- Rising lists of marks and of names, as the state that they are. Our own.
use Rattle.std.specs.Prelude.{ℕ, ◌-◌, ◌≤◌, Bool, List, [], ◌∷◌, map}
use Rattle.std.specs.Ordering.{nat_cmp}
use Rattle.std.specs.Cmp.Lexicographic.{slice_cmp}
use Rattle.std.specs.FinMap as finite
use Rattle.std.specs.FinMap.{is_sorted}
use Rattle.rights_lattice.specs.Cells.{Key, key_cmp, Cells, Valued}
use Rattle.rights_lattice.specs.State.{Names}

-- no mark says 0
abbrev pub AreMarks : List Valued → Type 0
AreMarks [] = Unit {0}
AreMarks (m ∷ ms) = (1 ≤ m.value) × AreMarks ms

-- the marks by their keys, each value less one
abbrev pub keyed_marks : List Valued → List (Key × ℕ)
keyed_marks ms = map (λ m. ((m.event, m.cell), m.value - 1)) ms

-- each mark is of a later cell than the one before
abbrev pub are_rising_marks : List Valued → Bool
are_rising_marks ms = is_sorted key_cmp (keyed_marks ms)

-- the values that rising marks say
abbrev pub cells_of : List Valued → Cells
cells_of ms = finite.from_sorted (keyed_marks ms)

-- the names as keys, with nothing under each
abbrev pub keyed_names : List (List ℕ) → List (List ℕ × Unit {0})
keyed_names names = map (λ n. (n, tt)) names

-- each name is later than the one before
abbrev pub are_rising_names : List (List ℕ) → Bool
are_rising_names names = is_sorted (slice_cmp nat_cmp) (keyed_names names)

-- the set of rising names
abbrev pub names_of : List (List ℕ) → Names
names_of names = finite.from_sorted (keyed_names names)
