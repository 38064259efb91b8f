-- What contracts see of a seat. (Our own.)
use Rattle.std.specs.Prelude.{ℕ, List, sum_by}

-- its parts of the count, and its share of it
pub record Held : Type 0 where
  pub parts : ℕ
  pub count : ℕ

abbrev pub held : ℕ → ℕ → Held
held parts count = record { parts = parts; count = count }

-- the parts of these seats, added up
abbrev pub parts_of : List Held → ℕ
parts_of seats = sum_by (λ s. s.parts) seats

-- their shares, added up
abbrev pub shares_of : List Held → ℕ
shares_of seats = sum_by (λ s. s.count) seats
