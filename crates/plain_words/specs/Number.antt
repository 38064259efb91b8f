-- Numbers in decimal, without sign and without leading zeros. (Our own.)
use Rattle.std.specs.Prelude.{ℕ, Bool, ◌&&◌, ◌||◌, not, nat_lt, nat_le, ◌==◌, List, length, slice_index, Option, Some, None, if◌then◌else◌}
use Rattle.std.specs.Str.{all_ascii_digits}
use Rattle.std.specs.Str.Parse.{digits_value}
use Rattle.plain_words.specs.Words.{first_word, ◌>>=◌}

-- at least one byte, and no zero before another
abbrev pub starts_plainly : List ℕ → Bool
starts_plainly word = nat_lt 0 (length word) && (not (slice_index word 0 == 48) || (length word == 1))

abbrev pub is_numeral : List ℕ → Bool
is_numeral word = starts_plainly word && all_ascii_digits word

-- the number that a word spells, if it is one from low to high
unfoldable pub number_of : ℕ → ℕ → List ℕ → Option ℕ
number_of low high word =
    if is_numeral word && nat_le low (digits_value 10 word) && nat_le (digits_value 10 word) high then Some (digits_value 10 word) else None

-- the number that the first word spells, and the words after it
unfoldable pub number_at : ℕ → ℕ → List (List ℕ) → Option (ℕ × List (List ℕ))
number_at low high words = do
  w ← first_word words
  n ← number_of low high w.0
  Some (n, w.1)
