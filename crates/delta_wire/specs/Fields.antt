-- The words that messages and requests share: an event, a site, a value. Our own.
use Rattle.std.specs.Prelude.{ℕ, List, Option, Some}
use Rattle.rights_lattice.specs.Cells.{greatest_value}
use Rattle.rights_lattice.specs.EventName.{name_of}
use Rattle.rights_lattice.specs.Limits.{greatest_site}
use Rattle.plain_words.specs.Number.{number_at}
use Rattle.plain_words.specs.Words.{first_word, ◌>>=◌}

unfoldable pub event_at : List (List ℕ) → Option (List ℕ × List (List ℕ))
event_at words = do
  w ← first_word words
  e ← name_of w.0
  Some (e, w.1)

-- the number of a site, whether the site is there or not
abbrev pub site_at : List (List ℕ) → Option (ℕ × List (List ℕ))
site_at words = number_at 0 greatest_site words

-- the value of a cell, an amount or the number of a request
abbrev pub natural_at : List (List ℕ) → Option (ℕ × List (List ℕ))
natural_at words = number_at 1 greatest_value words
