-- Texts are ASCII.
use Rattle.std.proofs.Common.{◌≡◌, ℕ, ◌<◌, Bool, true, ◌&&◌, leb, ltb, eqb, List, [], ◌∷◌, ◌++◌, get_or, ◌||◌, map, suc, zero, inl, inr, refl, arith}
use Rattle.std.specs.List.{AllByRecursion, list_all}
use Rattle.std.proofs.lemmas.Bool.{and_parts, or_cases, leb-true, eqb-true, lt-ltb, ltb-true}
use Rattle.rights_lattice.specs.EventName.{is_event_byte}
use Rattle.rights_lattice.specs.State.{State}
use Rattle.delta_mutators.specs.declared.delta.Item.{Item}
use Rattle.std.specs.Str.{IsUtf8}
use Rattle.std.proofs.lemmas.Str.{IsUtf8-from_ascii}
use Rattle.delta_wire.specs.Grammar.{item_line, lines_text, items_of, delta_text, IsDelta, IsItem}
use Rattle.delta_wire.proofs.Bytes.{Holds, IsOfLines, holds_append, item_holds}

abbrev is_small : ℕ → Bool
is_small b = ltb b 128

name_byte_small : (b : ℕ) → is_event_byte b ≡ true → is_small b ≡ true
name_byte_small b e = elim (or_cases ((leb 97 b && leb b 122) || (leb 48 b && leb b 57)) (eqb b 45) e) [
  | inl rest ↦ elim (or_cases (leb 97 b && leb b 122) (leb 48 b && leb b 57) rest) [
    | inl letter ↦ let high = leb-true b 122 (and_parts (leb 97 b) (leb b 122) letter).1 in lt-ltb b 128 (omega (arith, high))
    | inr digit ↦ let high = leb-true b 57 (and_parts (leb 48 b) (leb b 57) digit).1 in lt-ltb b 128 (omega (arith, high))
  ]
  | inr dash ↦ let is = eqb-true b 45 dash in lt-ltb b 128 (omega (arith, is))
]

small_in_lines : IsOfLines is_small
small_in_lines = record { names = name_byte_small; digits = λ b low high. lt-ltb b 128 (omega (arith, high)); space = refl }

lines_small : (items : List Item) → AllByRecursion IsItem items → Holds is_small (lines_text (map item_line items))
lines_small [] h = refl
lines_small (i ∷ items) h =
    holds_append is_small (item_line i ++ 10 ∷ []) (lines_text (map item_line items))
    (holds_append is_small (item_line i) (10 ∷ []) (item_holds is_small small_in_lines i h.0) refl) (lines_small items h.1)

small_at : (w : List ℕ) → Holds is_small w → (i : ℕ) → get_or w i 0 < 128
small_at [] h i = omega arith
small_at (b ∷ w) h zero = ltb-true b 128 (and_parts (is_small b) (list_all is_small w) h).0
small_at (b ∷ w) h (suc i) = small_at w (and_parts (is_small b) (list_all is_small w) h).1 i

pub text_is_utf8 : (S : State) → IsDelta S → IsUtf8 (delta_text S)
text_is_utf8 S h = IsUtf8-from_ascii (delta_text S) (small_at (delta_text S) (lines_small (items_of S) h))
