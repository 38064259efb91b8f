-- What a keeper holds, and what a stop may leave of it. (Our own.)
use Rattle.std.specs.Prelude.{◌≡◌, ◌⊎◌, ℕ, List, [], ◌∷◌, ◌++◌, Option, Some, None, IsSome}
use Rattle.book_core.specs.declared.entry.Entry.{Entry}

-- What a stop leaves is the list that the next open reads, and none where an open would not read it.

-- a stop leaves this list and nothing else
pub record LeavesOnly (list : List Entry) (may_leave : Option (List Entry) → Type 0) : Type 0 where
  pub left : may_leave (Some list)
  pub alone : (other : Option (List Entry)) → may_leave other → other ≡ Some list

-- as long as no call has failed and nothing else has written the store, a stop leaves what is kept
abbrev pub RestsAt : ℕ → Type 0 → List Entry → (Option (List Entry) → Type 0) → Type 0
RestsAt failures trusted kept may_leave = failures ≡ 0 → trusted → LeavesOnly kept may_leave

-- the list is kept, and a stop leaves it and nothing else
pub record Keeps (list kept : List Entry) (may_leave : Option (List Entry) → Type 0) : Type 0 where
  pub is : kept ≡ list
  pub leaves : LeavesOnly list may_leave

-- a stop leaves the list, with the entry at its end or without
abbrev pub LeavesWithOrWithout : List Entry → Entry → (Option (List Entry) → Type 0) → Type 0
LeavesWithOrWithout list entry may_leave = (left : Option (List Entry)) → may_leave left → (left ≡ Some list) ⊎ (left ≡ Some (list ++ entry ∷ []))

-- a stop leaves the list, with all of these entries at its end or with none of them
abbrev pub LeavesAllOrNone : List Entry → List Entry → (Option (List Entry) → Type 0) → Type 0
LeavesAllOrNone list more may_leave = (left : Option (List Entry)) → may_leave left → (left ≡ Some list) ⊎ (left ≡ Some (list ++ more))

-- there is an entry to add, and a stop leaves the list with it at the end or without it
abbrev pub LeavesEither : List Entry → Option Entry → (Option (List Entry) → Type 0) → Type 0
LeavesEither list None may_leave = ⊥
LeavesEither list (Some entry) may_leave = LeavesWithOrWithout list entry may_leave

-- whatever a stop leaves, an open reads it
abbrev pub CanBeOpened : (Option (List Entry) → Type 0) → Type 0
CanBeOpened may_leave = (left : Option (List Entry)) → may_leave left → IsSome left
