-- How two histories of one site are related. (Our own.)
use Rattle.std.specs.Prelude.{◌≡◌, ◌⊎◌, ℕ, ◌<◌, ◌≤◌, ◌++◌, List, length, take, get_or}
use Rattle.book_core.specs.declared.entry.Entry.{Entry}

-- the second begins with the first
abbrev pub Extends : List Entry → List Entry → Type 0
Extends part whole = (rest : List Entry) × (whole ≡ part ++ rest)

-- of two histories the one that extends both
pub record IsLonger (one other whole : List Entry) : Type 0 where
  pub is : (whole ≡ one) ⊎ (whole ≡ other)
  pub first : Extends one whole
  pub second : Extends other whole

-- one of them begins with the other
pub record Agree (one other : List Entry) : Type 0 where
  pub shorter : length one ≤ length other → take (length one) other ≡ one
  pub longer : length other ≤ length one → take (length other) one ≡ other

-- both have an entry at the place, all before it is the same, and these two are not
pub record DifferAt (one other : List Entry) (place : ℕ) : Type 0 where
  pub in_one : place < length one
  pub in_other : place < length other
  pub before : take place one ≡ take place other
  pub there : (none : Entry) × (get_or one place none ≡ get_or other place none → ⊥)

-- what a crash left of the list and of these entries, which were added all at once
abbrev pub IsLeftOf : List Entry → List Entry → List Entry → Type 0
IsLeftOf list more left = (left ≡ list) ⊎ (left ≡ list ++ more)

-- Two copies had the same history, and were given the same entries. Whatever a crash leaves of them, one extends the other, and both
-- extend that history.
abbrev pub CopiesAgree : Type 0
CopiesAgree = (list more one other : List Entry) → IsLeftOf list more one → IsLeftOf list more other
    → (Extends one other ⊎ Extends other one) × Extends list one × Extends list other

-- copies of which one extends the other differ nowhere
abbrev pub AgreeingDifferNowhere : Type 0
AgreeingDifferNowhere = (one other : List Entry) → Extends one other ⊎ Extends other one → (place : ℕ) → DifferAt one other place → ⊥
