-- What a book shows of each site. (Our own.)
use Rattle.std.specs.Prelude.{ℕ, List, map}
use Rattle.std.specs.List.{range_with_len}
use Rattle.rights_lattice.specs.declared.cell.Cell.TheVariants.{Used, Back}
use Rattle.rights_lattice.specs.Cells.{Cells, value_at}
use Rattle.local_rights.specs.Shares.{share_in}
use Rattle.book_core.specs.BookView.{BookView}
use Rattle.book_core.specs.Decision.{sites_of}
use Rattle.book_core.specs.History.{state_of}
use Rattle.site_desk.specs.declared.answer.SiteShare.{SiteShare}

-- what site i may sell of an event by a view, and what it sold and took back
abbrev pub share_of : Cells → List ℕ → ℕ → SiteShare
share_of X event i = record { site = i; left = share_in X event i; sold = value_at X event (Used i); back = value_at X event (Back i) }

-- the same of each site that a book counts, from 0
abbrev pub shares_in : BookView → List ℕ → List SiteShare
shares_in book event = map (share_of (state_of book.history).cells event) (range_with_len 0 (sites_of book.office book.history))
