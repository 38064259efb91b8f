-- Sums over the sites. Our own.
use Rattle.std.specs.Prelude.{ℕ, zero, suc, ◌+◌}
use Rattle.rights_lattice.specs.Limits.{site_numbers}

-- site numbers are below this; a site that is not there has only zeros. It is site_numbers under a name that stays closed,
-- so that no proof writes a sum over the sites as its terms
unfoldable pub max_sites : ℕ
max_sites = site_numbers

-- f 0 + .. + f (n - 1)
abbrev pub sum_below : ℕ → (ℕ → ℕ) → ℕ
sum_below zero f = 0
sum_below (suc n) f = sum_below n f + f n
