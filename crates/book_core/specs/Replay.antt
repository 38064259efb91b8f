-- Why a list of entries is no history. (Our own.)
use Rattle.std.specs.Prelude.{◌≡◌, ℕ, ◌+◌, ◌<◌, List, length, take}
use Rattle.rights_lattice.specs.Cells.{Valued, marks_of}
use Rattle.rights_lattice.specs.State.{State, names_in_order}
use Rattle.book_core.specs.declared.entry.Entry.{Entry}
use Rattle.book_core.specs.declared.plan.ReplayFault.{ReplayFault}
use Rattle.book_core.specs.declared.plan.ReplayFault.TheVariants.{IllegalAt, Memory}
use Rattle.book_core.specs.Decision.{SiteConfig}
use Rattle.book_core.specs.Legal.{IsLegal}

-- the entry at the place is the first that may not follow those before it
pub record IsFirstIllegal (office : SiteConfig) (entries : List Entry) (place : ℕ) : Type 0 where
  pub there : place < length entries
  pub before : IsLegal office (take place entries)
  pub here : IsLegal office (take (place + 1) entries) → ⊥

-- the entry at some place, and each before it, is legal
abbrev pub HasLegalEntry : SiteConfig → List Entry → Type 0
HasLegalEntry office entries = (place : ℕ) × (place < length entries) × IsLegal office (take (place + 1) entries)

-- the fault names the first entry that is not legal, or memory was refused to one that is
abbrev pub IsReplayFault : SiteConfig → List Entry → ReplayFault → Type 0
IsReplayFault office entries (IllegalAt place) = IsFirstIllegal office entries place
IsReplayFault office entries Memory = HasLegalEntry office entries

-- the names and the marks of a delta
abbrev pub HasLists : State → List (List ℕ) → List Valued → Type 0
HasLists delta names marks = (names_in_order delta.names ≡ names) × (marks_of delta.cells ≡ marks)
