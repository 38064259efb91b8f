-- Words that are names.
use Rattle.std.proofs.Common.{◌≡◌, ℕ, not, true, List, subst}
use Rattle.std.proofs.lemmas.Bool.{ne_eqb, not_from_false, false≢true}
use Rattle.plain_words.specs.Words.{is_space}
use Rattle.plain_words.proofs.WordLaws.{lacks_space}
use Rattle.rights_lattice.specs.EventName.{IsEventName, is_event_byte}
use Rattle.delta_wire.proofs.Bytes.{name_holds}

name_byte_lacks : (b : ℕ) → is_event_byte b ≡ true → not (is_space b) ≡ true
name_byte_lacks b e = not_from_false _ (ne_eqb b 32 (λ s. let bad : is_event_byte 32 ≡ true = subst (λ (x : ℕ). is_event_byte x ≡ true) s e in false≢true bad))

-- a name is one word
pub name_lacks_space : (w : List ℕ) → IsEventName w → lacks_space w ≡ true
name_lacks_space w h = name_holds (λ b. not (is_space b)) name_byte_lacks w h
