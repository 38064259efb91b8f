-- What each site may sell by a view, which may be any state. (The rights: SRDS 2015, Balegas et al.; the words: our own.)
use Rattle.std.specs.Prelude.{ℕ, nat_le, if◌then◌else◌, List, Option, Some, None}
use Rattle.rights_lattice.specs.Cells.{Cells}
use Rattle.local_rights.specs.Rights.{gained, left_of, spent}

-- what site i may still sell, where by this view it spent no more than it gained
abbrev pub share_in : Cells → List ℕ → ℕ → Option ℕ
share_in X event i = if nat_le (spent X event i) (gained X event i) then Some (left_of X event i) else None
