-- Which links there are between sites. (Our own.)
use Rattle.std.specs.Prelude.{ℕ, zero, suc, ◌+◌, Bool, true, false, List, [], ◌∷◌, ◌++◌, length, slice_index, take, drop}
use Rattle.std.specs.List.{flat_map}
use Rattle.session_server.specs.declared.site.LinkEnd.{LinkEnd}

-- who sends, who receives, and whether it is of acknowledgements
pub record LinkName : Type 0 where
  pub by : ℕ
  pub to : ℕ
  pub acks : Bool

abbrev pub link_name_of : LinkEnd → LinkName
link_name_of link = record { by = link.by; to = link.to; acks = link.acks }

-- the two links from one site to another
abbrev pub both : ℕ → ℕ → List LinkName
both by to = record { by = by; to = to; acks = false } ∷ record { by = by; to = to; acks = true } ∷ []

-- the links from the site at this place to each other, in order
abbrev pub links_of : List ℕ → ℕ → List LinkName
links_of sites k = flat_map (both (slice_index sites k)) (take k sites ++ drop (k + 1) sites)

-- those from the first so many sites
abbrev pub first_links : List ℕ → ℕ → List LinkName
first_links sites zero = []
first_links sites (suc k) = first_links sites k ++ links_of sites k

-- for each ordered pair of sites one link of deltas and one of acknowledgements
abbrev pub link_names : List ℕ → List LinkName
link_names sites = first_links sites (length sites)
