-- What contracts see of a book. (Our own.)
use Rattle.std.specs.Prelude.{◌≡◌, ℕ, ◌+◌, ◌≤◌, ◌<◌, List, length, take, None}
use Rattle.request_ledger.specs.Ledger.{KeptByNumber, kept_under, IsRefundable}
use Rattle.rights_lattice.specs.Cells.{Cells, Valued, RowAtOrBelow, raise_all, marks_of, greatest}
use Rattle.rights_lattice.specs.RightsView.{IsCellOf}
use Rattle.rights_lattice.specs.declared.cell.Cell.{Cell}
use Rattle.rights_lattice.specs.State.{names_in_order}
use Rattle.local_rights.specs.Rights.{HasRights}
use Rattle.book_core.specs.declared.entry.Entry.{Entry}
use Rattle.book_core.specs.declared.entry.Entry.TheVariants.{Asked, Joined, Grown}
use Rattle.book_core.specs.Decision.{SiteConfig, office_after, sites_of}
use Rattle.book_core.specs.History.{delta_of, state_of, names_known, asked}
use Rattle.book_core.specs.Legal.{IsLegal, IsNext}

-- room for entries, for cells that are 0 now, for names, and for request numbers
pub record Room : Type 0 where
  pub entries : ℕ
  pub cells : ℕ
  pub names : ℕ
  pub numbers : ℕ

pub record BookView : Type 0 where
  pub office : SiteConfig
  pub history : List Entry
  pub room : Room

-- the office of the book, with the count of sites that its history comes to
abbrev pub office_now : BookView → SiteConfig
office_now book = office_after book.office book.history

-- the entry is legal after the book's history
abbrev pub MayFollow : BookView → Entry → Type 0
MayFollow book entry = IsNext book.office book.history entry

-- what the viewer shows of the owner's row is at or below what the owner shows of it
abbrev pub SeesWithin : BookView → BookView → Type 0
SeesWithin viewer owner = RowAtOrBelow owner.office.me (state_of viewer.history).cells (state_of owner.history).cells

-- how many request numbers an entry takes
abbrev pub numbers_in : Entry → ℕ
numbers_in (Asked number request reply delta) = 1
numbers_in (Joined peer delta) = 0
numbers_in (Grown sites) = 0

-- the entry can be added without more memory
pub record HasRoomFor (room : Room) (entry : Entry) : Type 0 where
  pub for_entry : 1 ≤ room.entries
  pub for_cells : length (marks_of (delta_of entry).cells) ≤ room.cells
  pub for_names : length (names_in_order (delta_of entry).names) ≤ room.names
  pub for_number : numbers_in entry ≤ room.numbers

-- the entry cannot be added without more memory
abbrev pub LacksRoomFor : Room → Entry → Type 0
LacksRoomFor room entry = HasRoomFor room entry → ⊥

-- no room is lost
pub record KeepsRoom (old new : Room) : Type 0 where
  pub entries : old.entries ≤ new.entries
  pub cells : old.cells ≤ new.cells
  pub names : old.names ≤ new.names
  pub numbers : old.numbers ≤ new.numbers

-- no more room is reserved for entries and for cells (what a map makes for itself no contract bounds from above)
abbrev pub MakesNoRoom : Room → Room → Type 0
MakesNoRoom old new = (new.entries ≤ old.entries) × (new.cells ≤ old.cells)

-- no more room is used than the entry takes
pub record Spends (entry : Entry) (old new : Room) : Type 0 where
  pub entries : old.entries ≤ new.entries + 1
  pub cells : old.cells ≤ new.cells + length (marks_of (delta_of entry).cells)
  pub names : old.names ≤ new.names + length (names_in_order (delta_of entry).names)
  pub numbers : old.numbers ≤ new.numbers + numbers_in entry

-- the number of the entry, if it has one, is not kept yet
abbrev pub IsUnkept : KeptByNumber → Entry → Type 0
IsUnkept es (Asked number request reply delta) = kept_under es number ≡ None
IsUnkept es (Joined peer delta) = Unit {0}
IsUnkept es (Grown sites) = Unit {0}

-- the entry, if it is a refund that was done, is of a sale that is kept and gives back no more than is left of it
abbrev pub KeepsRefunds : KeptByNumber → Entry → Type 0
KeepsRefunds es (Asked number request reply delta) = IsRefundable es request reply
KeepsRefunds es (Joined peer delta) = Unit {0}
KeepsRefunds es (Grown sites) = Unit {0}

-- the rights of a site are not negative after any of the marks
abbrev pub KeepRights : ℕ → Cells → List Valued → Type 0
KeepRights me X marks = (count : ℕ) (event : List ℕ) → HasRights (raise_all X (take count marks)) event me

-- marks that are not 0 name sites below the count only
abbrev pub MarksAreWithin : ℕ → List Valued → Type 0
MarksAreWithin sites marks = (event : List ℕ) (cell : Cell) → 1 ≤ greatest marks event cell → IsCellOf sites cell

-- the kept count of sites, cells, names and numbers are those of the history, which is legal
pub record IsInOrder (office : SiteConfig) (history : List Entry) (sites : ℕ) (cells : Cells) (names : List (List ℕ)) (ledger : KeptByNumber) : Type 0 where
  pub me_is_site : office.me < office.sites
  pub legal : IsLegal office history
  pub sites_are : sites ≡ sites_of office history
  pub cells_are : cells ≡ (state_of history).cells
  pub names_are : names ≡ names_known history
  pub kept_are : ledger ≡ asked history
