-- The laws of the join: a semilattice and its least upper bound (RR-7506).
use Rattle.std.specs.Prelude.{◌≡◌, ◌↔◌, max, IsTrue}
use Rattle.rights_lattice.specs.State.{State, Spot, at, join, AtOrBelow, is_within}

-- the join is the greater number at each spot: of each cell, and a name that either knows
abbrev pub JoinIsGreater : Type 0
JoinIsGreater = (X Y : State) (s : Spot) → at (join X Y) s ≡ max (at X s) (at Y s)

-- the join is above both
abbrev pub JoinIsUpperBound : Type 0
JoinIsUpperBound = (X Y : State) → AtOrBelow X (join X Y) × AtOrBelow Y (join X Y)

-- and below all that is above both
abbrev pub JoinIsLeast : Type 0
JoinIsLeast = (X Y Z : State) → AtOrBelow X Z → AtOrBelow Y Z → AtOrBelow (join X Y) Z

abbrev pub JoinIsCommutative : Type 0
JoinIsCommutative = (X Y : State) → join X Y ≡ join Y X

abbrev pub JoinIsAssociative : Type 0
JoinIsAssociative = (X Y Z : State) → join (join X Y) Z ≡ join X (join Y Z)

abbrev pub JoinIsIdempotent : Type 0
JoinIsIdempotent = (X : State) → join X X ≡ X

-- and the order is antisymmetric
abbrev pub OrderIsAntisymmetric : Type 0
OrderIsAntisymmetric = (X Y : State) → AtOrBelow X Y → AtOrBelow Y X → X ≡ Y

-- the test of a delta's own marks and names is the order, both ways
abbrev pub TestIsTheOrder : Type 0
TestIsTheOrder = (D X : State) → IsTrue (is_within D X) ↔ AtOrBelow D X
