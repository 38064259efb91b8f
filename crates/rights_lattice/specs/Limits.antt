-- The limits of what a state names. (Our own.)
use Rattle.std.specs.Prelude.{ℕ, ◌+◌, ◌≤◌}

-- the greatest number of a site, whether the site is there or not
abbrev pub greatest_site : ℕ
greatest_site = 63

-- the number of a site
abbrev pub IsSite : ℕ → Type 0
IsSite n = n ≤ greatest_site

-- how many numbers there are for sites, from 0 on
abbrev pub site_numbers : ℕ
site_numbers = greatest_site + 1

-- the greatest count of sites of a world
abbrev pub most_sites : ℕ
most_sites = 64

-- the most bytes of an event's name
abbrev pub longest_name : ℕ
longest_name = 32
