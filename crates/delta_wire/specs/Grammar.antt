-- The text of a delta and of a message: a header line, item lines and the line `end`. Our own.
use Rattle.std.specs.Prelude.{◌≡◌, ℕ, ◌+◌, ◌<◌, List, [], ◌∷◌, ◌++◌, map, length, codes}
use Rattle.std.specs.List.{join_with_byte, flat_map, AllByRecursion}
use Rattle.std.specs.Fmt.{decimal}
use Rattle.rights_lattice.specs.declared.cell.Cell.{Cell}
use Rattle.rights_lattice.specs.declared.cell.Cell.TheVariants.{Gave, Used, Back}
use Rattle.rights_lattice.specs.Cells.{marks_of, IsValue}
use Rattle.rights_lattice.specs.Limits.{IsSite}
use Rattle.rights_lattice.specs.State.{State, names_in_order}
use Rattle.delta_mutators.specs.declared.delta.Item.{Item}
use Rattle.delta_mutators.specs.declared.delta.Item.TheVariants as item
use Rattle.book_core.specs.Limits.{IsLimit}
use Rattle.site_exchange.specs.declared.message.Message.{Message}
use Rattle.site_exchange.specs.declared.message.Message.TheVariants.{Delta, Ack}
use Rattle.rights_lattice.specs.EventName.{IsEventName}

-- the words of a mark's line: kind, event, sites, value
abbrev pub cell_words : List ℕ → ℕ → Cell → List (List ℕ)
cell_words event value (Gave by to) = codes "gave" ∷ event ∷ decimal by ∷ decimal to ∷ decimal value ∷ []
cell_words event value (Used by) = codes "used" ∷ event ∷ decimal by ∷ decimal value ∷ []
cell_words event value (Back by) = codes "back" ∷ event ∷ decimal by ∷ decimal value ∷ []

abbrev pub item_words : Item → List (List ℕ)
item_words (item.Name name) = codes "name" ∷ name ∷ []
item_words (item.Cell mark) = cell_words mark.event mark.value mark.cell

-- words with one space between two
unfoldable pub item_line : Item → List ℕ
item_line i = join_with_byte 32 (item_words i)

-- names rising, then marks rising
abbrev pub items_of : State → List Item
items_of S = map (λ n. item.Name n) (names_in_order S.names) ++ map (λ m. item.Cell m) (marks_of S.cells)

-- each line ends with a line feed
abbrev pub lines_text : List (List ℕ) → List ℕ
lines_text lines = flat_map (λ line. line ++ 10 ∷ []) lines

abbrev pub delta_lines : State → List (List ℕ)
delta_lines S = map item_line (items_of S)

abbrev pub delta_text : State → List ℕ
delta_text S = lines_text (delta_lines S)

abbrev pub header_words : List ℕ → ℕ → ℕ → ℕ → List (List ℕ)
header_words kind by to upto = kind ∷ decimal by ∷ decimal to ∷ decimal upto ∷ []

unfoldable pub header_line : List ℕ → ℕ → ℕ → ℕ → List ℕ
header_line kind by to upto = join_with_byte 32 (header_words kind by to upto)

abbrev pub message_lines : Message → List (List ℕ)
message_lines (Delta by to upto delta) = header_line (codes "delta") by to upto ∷ (delta_lines delta ++ codes "end" ∷ [])
message_lines (Ack by to upto) = header_line (codes "ack") by to upto ∷ codes "end" ∷ []

abbrev pub message_text : Message → List ℕ
message_text m = lines_text (message_lines m)

-- the most bytes of a text that comes from outside, and of the text of a delta that records keep
abbrev pub most_bytes : ℕ
most_bytes = 4294967296

-- what has a text

abbrev pub IsCell : Cell → Type 0
IsCell (Gave by to) = IsSite by × IsSite to
IsCell (Used by) = IsSite by
IsCell (Back by) = IsSite by

-- an interval ends behind the first entry or a later one, within the greatest limit
abbrev pub IsUpto : ℕ → Type 0
IsUpto = IsLimit

abbrev pub IsItem : Item → Type 0
IsItem (item.Name name) = IsEventName name
IsItem (item.Cell mark) = IsEventName mark.event × IsCell mark.cell × IsValue mark.value

abbrev pub IsDelta : State → Type 0
IsDelta S = AllByRecursion IsItem (items_of S)

abbrev pub IsMessage : Message → Type 0
IsMessage (Delta by to upto delta) = IsSite by × IsSite to × IsUpto upto × IsDelta delta
IsMessage (Ack by to upto) = IsSite by × IsSite to × IsUpto upto

-- the delta has a name or a mark
abbrev pub HasItems : State → Type 0
HasItems S = 0 < length (names_in_order S.names) + length (marks_of S.cells)

-- these bytes are the text of the delta, which has one
abbrev pub Spells : List ℕ → State → Type 0
Spells bytes delta = IsDelta delta × (bytes ≡ delta_text delta)

-- these bytes are the text of the message, which has one
abbrev pub SpellsMessage : List ℕ → Message → Type 0
SpellsMessage bytes message = IsMessage message × (bytes ≡ message_text message)

-- the text of a delta in a message, with the last line
abbrev pub body_text : State → List ℕ
body_text delta = delta_text delta ++ codes "end\n"
