-- The join of states, from what it does at each cell and each name.
use Rattle.std.proofs.Common.{◌≡◌, ℕ, Bool, true, false, cond, ◌||◌, List, [], ◌∷◌, refl, sym, ap, ◌∙◌, arith}
use Rattle.std.specs.Prelude.{max}
use Rattle.std.specs.Ordering.{nat_cmp, eq_by_cmp}
use Rattle.std.specs.Cmp.Lexicographic.{slice_cmp, texts_ties}
use Rattle.std.specs.FinMap as finite
use Rattle.std.specs.List.{list_any}
use Rattle.std.specs.Prelude.{is_some, Option, Some, None}
use Rattle.std.proofs.lemmas.Cmp.{nat_list_cmp_total}
use Rattle.std.proofs.lemmas.Map.Lookups.{exact_bytes}
use Rattle.rights_lattice.specs.Cell.{same_event}
use Rattle.rights_lattice.specs.State.{State, Names, bottom, join, knows, no_names, with_name, with_names, names_in_order, join_names, Spot, Name, At, at}
use Rattle.rights_lattice.specs.JoinLaws.{JoinIsGreater, JoinIsUpperBound, JoinIsLeast, JoinIsCommutative, JoinIsAssociative, JoinIsIdempotent, OrderIsAntisymmetric}
use Rattle.rights_lattice.proofs.CellLaws.{value_at-join, value_at-all_zero, same_cells}
use Rattle.rights_lattice.proofs.OrLaws.{or_assoc, or_comm}

some_if : (b : Bool) (o : Option (Unit {0})) → is_some (cond b (Some tt) o) ≡ (b || is_some o)
some_if true o = refl
some_if false o = refl

pub knows-no_names : (n : List ℕ) → knows no_names n ≡ false
unfolding no_names
knows-no_names n = ap is_some (finite.get-empty (slice_cmp nat_cmp) n)

pub knows-with_name : (N : Names) (m n : List ℕ) → knows (with_name N m) n ≡ (eq_by_cmp (slice_cmp nat_cmp) n m || knows N n)
unfolding with_name
knows-with_name N m n = ap is_some (finite.get-insert nat_list_cmp_total N m tt n) ∙ some_if _ _

pub knows-with_names : (N : Names) (ms : List (List ℕ)) (n : List ℕ) → knows (with_names N ms) n ≡ (list_any (eq_by_cmp (slice_cmp nat_cmp) n) ms || knows N n)
knows-with_names N [] n = refl
knows-with_names N (m ∷ ms) n =
    knows-with_names (with_name N m) ms n
    ∙ ap (λ b. list_any (eq_by_cmp (slice_cmp nat_cmp) n) ms || b) (knows-with_name N m n)
    ∙ sym (or_assoc (list_any (eq_by_cmp (slice_cmp nat_cmp) n) ms) (eq_by_cmp (slice_cmp nat_cmp) n m) (knows N n))
    ∙ ap (λ b. b || knows N n) (or_comm (list_any (eq_by_cmp (slice_cmp nat_cmp) n) ms) (eq_by_cmp (slice_cmp nat_cmp) n m))

pub contains-union : (X Y : Names) (n : List ℕ) → knows (join_names X Y) n ≡ (knows X n || knows Y n)
unfolding join_names
contains-union X Y n =
    knows-with_names X (names_in_order Y) n
    ∙ ap (λ b. b || knows X n) (sym (finite.contains_key-keys Y n))
    ∙ or_comm (knows Y n) (knows X n)

-- equal names, by the test or by the order
pub any_by_order : (q : List ℕ) (ns : List (List ℕ)) → list_any (same_event q) ns ≡ list_any (eq_by_cmp (slice_cmp nat_cmp) q) ns
any_by_order q [] = refl
any_by_order q (n ∷ ns) = let rest = any_by_order q ns in let here = texts_ties q n in λ i. here i || rest i

-- the names of a set, in order, are its members
pub any_in_order : (q : List ℕ) (N : Names) → list_any (same_event q) (names_in_order N) ≡ knows N q
any_in_order q N = any_by_order q (names_in_order N) ∙ sym (finite.contains_key-keys N q)

same_unit : (o p : Option (Unit {0})) → is_some o ≡ is_some p → o ≡ p
same_unit None None h = refl
same_unit None (Some u) h = cc
same_unit (Some u) None h = cc
same_unit (Some u) (Some v) h = refl

pub same_names : (X Y : Names) → ((n : List ℕ) → knows X n ≡ knows Y n) → X ≡ Y
same_names X Y h = finite.same_map nat_list_cmp_total exact_bytes X Y (λ q. same_unit _ _ (h q))

one_or_zero : (a b : Bool) → ◌≡◌ {A = ℕ} (cond a 1 0) (cond b 1 0) → a ≡ b
one_or_zero true true h = refl
one_or_zero true false h = absurd (omega arith)
one_or_zero false true h = absurd (omega arith)
one_or_zero false false h = refl

-- equal at every spot, equal
pub same_states : (X Y : State) → ((s : Spot) → at X s ≡ at Y s) → X ≡ Y
same_states X Y h =
    let c : X.cells ≡ Y.cells = same_cells X.cells Y.cells (λ e c. h (At e c)) in
    let n : X.names ≡ Y.names = same_names X.names Y.names (λ n. one_or_zero _ _ (h (Name n))) in
    λ i. record { cells = c i; names = n i }

greater_of : (a b : Bool) → cond (a || b) 1 0 ≡ max (cond a 1 0) (cond b 1 0)
greater_of true true = refl
greater_of true false = refl
greater_of false b = omega arith

-- the join is the greater at each spot
pub at-join : (X Y : State) (s : Spot) → at (join X Y) s ≡ max (at X s) (at Y s)
at-join X Y (Name n) = ap (λ b. cond b 1 0) (contains-union X.names Y.names n) ∙ greater_of (knows X.names n) (knows Y.names n)
at-join X Y (At e c) = value_at-join X.cells Y.cells e c

pub at-bottom : (s : Spot) → at bottom s ≡ 0
at-bottom (Name n) = ap (λ b. cond b 1 0) (knows-no_names n)
at-bottom (At e c) = value_at-all_zero e c

pub greater : JoinIsGreater
greater = at-join

pub upper : JoinIsUpperBound
upper X Y = (λ s. omega (arith, at-join X Y s), λ s. omega (arith, at-join X Y s))

pub least : JoinIsLeast
least X Y Z x y s = omega (arith, at-join X Y s, x s, y s)

pub commutative : JoinIsCommutative
commutative X Y = same_states _ _ (λ s. omega (arith, at-join X Y s, at-join Y X s))

pub associative : JoinIsAssociative
associative X Y Z = same_states _ _ (λ s. omega (arith, at-join (join X Y) Z s, at-join X Y s, at-join X (join Y Z) s, at-join Y Z s))

pub idempotent : JoinIsIdempotent
idempotent X = same_states _ _ (λ s. omega (arith, at-join X X s))

pub antisymmetric : OrderIsAntisymmetric
antisymmetric X Y x y = same_states _ _ (λ s. omega (arith, x s, y s))

pub join-bottom : (X : State) → join X bottom ≡ X
join-bottom X = same_states _ _ (λ s. omega (arith, at-join X bottom s, at-bottom s))

pub bottom-join : (X : State) → join bottom X ≡ X
bottom-join X = same_states _ _ (λ s. omega (arith, at-join bottom X s, at-bottom s))
