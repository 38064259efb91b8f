-- The decision on a greater count of sites. (Our own.)
use Rattle.std.specs.Prelude.{ℕ, if◌then◌else◌, nat_le, List, length, Option, Some, None}
use Rattle.rights_lattice.specs.Limits.{most_sites}
use Rattle.book_core.specs.declared.entry.Entry.{Entry}
use Rattle.book_core.specs.declared.entry.Entry.TheVariants.{Grown}
use Rattle.book_core.specs.Decision.{SiteConfig, sites_of}

-- what a site does with a count of sites
pub data GrowDecision : Type 0 where
  Grows : GrowDecision
  NotMore : GrowDecision
  Full : GrowDecision

-- the first that applies
abbrev pub grow_decision : SiteConfig → List Entry → ℕ → GrowDecision
grow_decision office h sites =
    if nat_le sites (sites_of office h) then NotMore
    else if nat_le office.limit (length h) then Full
    else Grows

abbrev pub grown_if : GrowDecision → ℕ → Option Entry
grown_if Grows sites = Some (Grown sites)
grown_if _ sites = None

-- the entry that growing adds, if any; no site grows past the greatest count
abbrev pub entry_of_grow : SiteConfig → List Entry → ℕ → Option Entry
entry_of_grow office h sites = if nat_le sites most_sites then grown_if (grow_decision office h sites) sites else None
