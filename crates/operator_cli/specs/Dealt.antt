-- Cards that are dealt in turn. (Our own.)
use Rattle.std.specs.Prelude.{◌≡◌, ℕ, ◌<◌, ◌%◌, nat_eq, List, [], length, get_or, map}
use Rattle.std.specs.List.{filter, enumerate_from}

-- those whose place is the hand's number modulo the count of hands, in their order
abbrev pub dealt : {X : Type 0} → ℕ → ℕ → List X → List X
dealt hands hand cards = map (λ c. c.1) (filter (λ c. nat_eq (c.0 % hands) hand) (enumerate_from 0 cards))

-- each hand has what is dealt to it
abbrev pub AreDealt : {X : Type 0} → List X → List (List X) → Type 0
AreDealt cards hands = (hand : ℕ) → hand < length hands → get_or hands hand [] ≡ dealt (length hands) hand cards
