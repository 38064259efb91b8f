-- Escrow rights over one event, and what all sites released, sold and took back. (The rights and the counter's value: SRDS 2015,
-- Balegas et al.; what is taken back in refunds: our own.)
use Rattle.std.specs.Prelude.{ℕ, ◌+◌, ◌-◌, ◌≤◌, if◌then◌else◌, ◌==◌, List, ℤ, pos, ◌-ℤ◌}
use Rattle.rights_lattice.specs.declared.cell.Cell.TheVariants.{Gave, Used, Back}
use Rattle.rights_lattice.specs.Cells.{Cells, value_at}
use Rattle.rights_lattice.specs.Sums.{max_sites, sum_below}

-- what site i gave to another site j
abbrev pub ceded_in : Cells → List ℕ → ℕ → ℕ → ℕ
ceded_in X event i j = if i == j then 0 else value_at X event (Gave i j)

-- what site i released, got from others and took back
abbrev pub gained : Cells → List ℕ → ℕ → ℕ
gained X event i = value_at X event (Gave i i) + sum_below max_sites (λ j. ceded_in X event j i) + value_at X event (Back i)

-- what site i gave to others and sold
abbrev pub spent : Cells → List ℕ → ℕ → ℕ
spent X event i = sum_below max_sites (λ j. ceded_in X event i j) + value_at X event (Used i)

-- the rights of the site, which may be negative
abbrev pub rights_of : Cells → List ℕ → ℕ → ℤ
rights_of X event i = pos (gained X event i) -ℤ pos (spent X event i)

-- the rights are not negative
abbrev pub HasRights : Cells → List ℕ → ℕ → Type 0
HasRights X event i = spent X event i ≤ gained X event i

-- what site i may still sell, where its rights are not negative
abbrev pub left_of : Cells → List ℕ → ℕ → ℕ
left_of X event i = gained X event i - spent X event i

-- no site's rights are negative
abbrev pub IsPosition : Cells → List ℕ → Type 0
IsPosition X event = (i : ℕ) → HasRights X event i

-- the sums of a state's cells
abbrev pub released_in : Cells → List ℕ → ℕ
released_in X event = sum_below max_sites (λ i. value_at X event (Gave i i))

abbrev pub sold_in : Cells → List ℕ → ℕ
sold_in X event = sum_below max_sites (λ i. value_at X event (Used i))

abbrev pub refunded_in : Cells → List ℕ → ℕ
refunded_in X event = sum_below max_sites (λ i. value_at X event (Back i))

-- the counter's value: what was created less what was consumed
abbrev pub paper_value : Cells → List ℕ → ℤ
paper_value X event = pos (released_in X event + refunded_in X event) -ℤ pos (sold_in X event)
