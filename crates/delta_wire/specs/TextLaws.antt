-- Each text is of one message, and no text is the front of another. Our own.
use Rattle.std.specs.Prelude.{◌≡◌, ℕ, List, [], ◌++◌}
use Rattle.rights_lattice.specs.State.{State}
use Rattle.site_exchange.specs.declared.message.Message.{Message}
use Rattle.delta_wire.specs.Grammar.{IsDelta, delta_text, IsMessage, message_text}

-- a text that begins with a message's text is that text, and its message is the same
abbrev pub NoTextIsAPrefix : Type 0
NoTextIsAPrefix = (m k : Message) (rest : List ℕ) → IsMessage m → IsMessage k → message_text k ≡ message_text m ++ rest → (rest ≡ []) × (k ≡ m)

abbrev pub MessagesHaveTheirOwnTexts : Type 0
MessagesHaveTheirOwnTexts = (m k : Message) → IsMessage m → IsMessage k → message_text m ≡ message_text k → m ≡ k

abbrev pub DeltasHaveTheirOwnTexts : Type 0
DeltasHaveTheirOwnTexts = (S T : State) → IsDelta S → IsDelta T → delta_text S ≡ delta_text T → S ≡ T
