-- Event names: 1 to 32 bytes of a-z, 0-9 and -, kept in a buffer of 32 bytes whose rest is zero. Our own.
use Rattle.std.specs.Prelude.{◌≡◌, ℕ, ◌-◌, ◌≤◌, Bool, ◌&&◌, ◌||◌, nat_le, nat_lt, ◌==◌, IsTrue, if◌then◌else◌, List, ◌++◌, length, replicate, take, Option, Some, None}
use Rattle.std.specs.List.{list_all}
use Rattle.rights_lattice.specs.Limits.{longest_name}

-- the test of one byte of a name: a letter, a digit or a dash
abbrev pub is_event_byte : ℕ → Bool
is_event_byte b = (nat_le 97 b && nat_le b 122) || (nat_le 48 b && nat_le b 57) || b == 45

-- a text that names an event
pub record IsEventName (name : List ℕ) : Type 0 where
  pub not_empty : 1 ≤ length name
  pub at_most_longest : length name ≤ longest_name
  pub bytes_allowed : IsTrue (list_all is_event_byte name)

-- the same as a test
abbrev pub is_name : List ℕ → Bool
is_name word = nat_lt 0 (length word) && nat_le (length word) longest_name && list_all is_event_byte word

-- the name that a word spells, if it is one
unfoldable pub name_of : List ℕ → Option (List ℕ)
name_of word = if is_name word then Some word else None

-- the name, with zeros up to the most bytes
abbrev pub padded_name : List ℕ → List ℕ
padded_name name = name ++ replicate (longest_name - length name) 0

-- the first bytes of the buffer are a name, and the rest is zero
pub record KeepsName (buffer : List ℕ) (len : ℕ) : Type 0 where
  pub is_name : IsEventName (take len buffer)
  pub padded : buffer ≡ padded_name (take len buffer)
  pub counted : length (take len buffer) ≡ len
