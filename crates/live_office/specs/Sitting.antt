-- What contracts see of a seat that answers one session after another. (Our own.)
use Rattle.std.specs.Prelude.{ℕ, max, Option, Some, None}

-- its parts of the count of requests, and the last place at which a reply to one of its requests stands, if any
pub record Sitting : Type 0 where
  pub parts : ℕ
  pub latest : Option ℕ

abbrev pub sitting : ℕ → Option ℕ → Sitting
sitting parts latest = record { parts = parts; latest = latest }

-- the later of two places
abbrev pub later : Option ℕ → ℕ → ℕ
later None place = place
later (Some before) place = max before place

-- the same seat with a reply at this place
abbrev pub with_reply_at : Sitting → ℕ → Sitting
with_reply_at s place = sitting s.parts (Some (later s.latest place))
