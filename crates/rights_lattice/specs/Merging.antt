-- Two rising lists of marks or of names, merged as far as a place of each. Our own.
use Rattle.std.specs.Prelude.{◌≡◌, ◌==◌, ℕ, ◌+◌, ◌≤◌, ◌<◌, max, List, ◌++◌, take, drop, length, count_by, IsTrue, Bool, ◌||◌}
use Rattle.std.specs.List.{list_any}
use Rattle.std.specs.Ordering.{nat_cmp, eq_by_cmp}
use Rattle.std.specs.Cmp.Lexicographic.{slice_cmp}
use Rattle.rights_lattice.specs.Cells.{Valued, greatest}
use Rattle.rights_lattice.specs.declared.cell.Cell.{Cell}
use Rattle.rights_lattice.specs.Marks.{are_rising_marks, are_rising_names, AreMarks}

-- the places i and j of two lists of m and n items are within them, and one of the lists goes on there
pub record HasNext (m n i j : ℕ) : Type 0 where
  pub left_within : i ≤ m
  pub right_within : j ≤ n
  pub more : i + j < m + n

-- neither place went back, and one went on
pub record IsFurther (i j next_i next_j : ℕ) : Type 0 where
  pub left : i ≤ next_i
  pub right : j ≤ next_j
  pub further : i + j < next_i + next_j

-- `out` is the merge of the first i marks of `ms` and the first j of `ns`
pub record IsMerged (ms ns out : List Valued) (i j : ℕ) : Type 0 where
  pub left_within : i ≤ length ms
  pub right_within : j ≤ length ns
  -- it rises, and goes on rising into the rest of each
  pub left_rises : IsTrue (are_rising_marks (out ++ drop i ms))
  pub right_rises : IsTrue (are_rising_marks (out ++ drop j ns))
  pub positive : AreMarks out
  pub greater : (e : List ℕ) (c : Cell) → greatest out e c ≡ max (greatest (take i ms) e c) (greatest (take j ns) e c)
  -- it has the marks of `ms`, and those of `ns` on other cells
  pub size : length out ≡ i + count_by (λ m. greatest ms m.event m.cell == 0) (take j ns)

-- `out` is the merge of all of both
abbrev pub IsMergeOf : List Valued → List Valued → List Valued → Type 0
IsMergeOf ms ns out = IsMerged ms ns out (length ms) (length ns)

-- whether the name is among these
abbrev pub has : List ℕ → List (List ℕ) → Bool
has name names = list_any (eq_by_cmp (slice_cmp nat_cmp) name) names

-- `out` is the merge of the first i names of `ms` and the first j of `ns`
pub record IsMergedNames (ms ns out : List (List ℕ)) (i j : ℕ) : Type 0 where
  pub left_within : i ≤ length ms
  pub right_within : j ≤ length ns
  pub left_rises : IsTrue (are_rising_names (out ++ drop i ms))
  pub right_rises : IsTrue (are_rising_names (out ++ drop j ns))
  pub known : (name : List ℕ) → has name out ≡ (has name (take i ms) || has name (take j ns))

-- `out` is the merge of all of both
abbrev pub IsMergeOfNames : List (List ℕ) → List (List ℕ) → List (List ℕ) → Type 0
IsMergeOfNames ms ns out = IsMergedNames ms ns out (length ms) (length ns)
