-- What no message changes: the own row of a site, and that its own rights are not negative. A site alone changes its row, and
-- spends no more rights than it has (SRDS 2015); that this holds against forged messages too is our own.
use Rattle.std.specs.Prelude.{◌≡◌, ℕ, ◌≤◌, List}
use Rattle.rights_lattice.specs.declared.cell.Cell.{Cell}
use Rattle.rights_lattice.specs.Cell.{owner_of}
use Rattle.rights_lattice.specs.Cells.{value_at}
use Rattle.local_rights.specs.Rights.{HasRights}
use Rattle.book_core.specs.declared.entry.Entry.{Entry}
use Rattle.book_core.specs.declared.entry.Entry.TheVariants.{Asked, Joined, Grown}
use Rattle.book_core.specs.declared.plan.JoinPlan.{JoinPlan}
use Rattle.book_core.specs.declared.plan.JoinPlan.TheVariants.{NothingNew, New}
use Rattle.book_core.specs.History.{delta_of, state_of}
use Rattle.book_core.specs.BookView.{BookView}

-- the value of a cell in the book's state
abbrev pub cell_in : BookView → List ℕ → Cell → ℕ
cell_in book event cell = value_at (state_of book.history).cells event cell

-- the entry that is planned raises no cell of the book's own row
abbrev pub KeepsOwnRow : BookView → JoinPlan → Type 0
KeepsOwnRow book NothingNew = Unit {0}
KeepsOwnRow book (New entry) = (event : List ℕ) (cell : Cell) → owner_of cell ≡ book.office.me
    → value_at (delta_of entry).cells event cell ≤ cell_in book event cell

-- a delta that is joined changes no cell of the book's own row, and a growth no cell
abbrev pub LeavesOwnRow : Entry → BookView → BookView → Type 0
LeavesOwnRow (Asked number request reply delta) old new = Unit {0}
LeavesOwnRow (Joined peer delta) old new = (event : List ℕ) (cell : Cell) → owner_of cell ≡ old.office.me → cell_in new event cell ≡ cell_in old event cell
LeavesOwnRow (Grown sites) old new = (event : List ℕ) (cell : Cell) → cell_in new event cell ≡ cell_in old event cell

-- for no event are the book's own rights negative
abbrev pub HasOwnRights : BookView → Type 0
HasOwnRights book = (event : List ℕ) → HasRights (state_of book.history).cells event book.office.me
