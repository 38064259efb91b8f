-- Texts as lines: what they spell, or the first fault from the top. Our own.
use Rattle.std.specs.Prelude.{◌≡◌, ℕ, ◌+◌, ◌==◌, Bool, false, List, [], ◌∷◌, ◌++◌, length, Option, Some, None, Result, Ok, Err, codes, if◌then◌else◌}
use Rattle.std.specs.Str.{bytes_eq}
use Rattle.std.specs.List.{slice_split}
use Rattle.plain_words.specs.Input.{is_line_break}
use Rattle.rights_lattice.specs.Cells.{Valued}
use Rattle.rights_lattice.specs.State.{State}
use Rattle.delta_mutators.specs.declared.delta.Item.{Item}
use Rattle.delta_mutators.specs.Lists.{state_from}
use Rattle.delta_mutators.specs.Rises.{names_in, marks_in}
use Rattle.site_exchange.specs.declared.message.Message.{Message}
use Rattle.site_exchange.specs.declared.message.Message.TheVariants.{Delta, Ack}
use Rattle.delta_wire.specs.Grammar.{IsDelta, delta_text, IsMessage, message_text}
use Rattle.delta_wire.specs.Items.{comes_next}
use Rattle.delta_wire.specs.Reading.{item_of, header_of}
use Rattle.delta_wire.specs.declared.header.Header.{Header}
use Rattle.delta_wire.specs.declared.header.Purpose.{Purpose}
use Rattle.delta_wire.specs.declared.header.Purpose.TheVariants as purpose
use Rattle.delta_wire.specs.declared.items_end.Ending.{Ending}
use Rattle.delta_wire.specs.declared.items_end.Ending.TheVariants.{AtEndLine, AtEndOfBytes}
use Rattle.delta_wire.specs.declared.fault.WireFault.{WireFault}
use Rattle.delta_wire.specs.declared.fault.WireFault.TheVariants.{Truncated, BadLine, OutOfOrder, Trailing, Memory}

abbrev pub Fails : {Y : Type 0} → WireFault → Result Y WireFault → Type 0
Fails Memory read = Unit {0}
Fails Truncated read = read ≡ Err Truncated
Fails (BadLine line) read = read ≡ Err (BadLine line)
Fails (OutOfOrder line) read = read ≡ Err (OutOfOrder line)
Fails Trailing read = read ≡ Err Trailing

-- A result is what is to be read, or memory ran out.
abbrev pub Gives : {Y : Type 0} → Result Y WireFault → Result Y WireFault → Type 0
Gives (Ok x) read = read ≡ Ok x
Gives (Err f) read = Fails f read

-- the lines are this one, which a line break ends, and then those that are left
abbrev pub TakesLine : List (List ℕ) → List ℕ → List (List ℕ) → Type 0
TakesLine old line new = (next : List ℕ) × (more : List (List ℕ)) × (new ≡ next ∷ more) × (old ≡ line ∷ next ∷ more)

-- nothing follows the last line break
abbrev pub is_over : List (List ℕ) → Bool
is_over [] = false
is_over (x ∷ []) = length x == 0
is_over (x ∷ y ∷ more) = false

-- whether this line ends the text
abbrev pub ends : Ending → List ℕ → Bool
ends AtEndLine line = bytes_eq line (codes "end")
ends AtEndOfBytes line = false

-- the delta, where no line break follows
abbrev pub at_last : Ending → List (List ℕ) → State → Result State WireFault
at_last AtEndLine pieces S = Err Truncated
at_last AtEndOfBytes pieces S = if is_over pieces then Ok S else Err Truncated

-- one item line, and what comes after it
abbrev pub with_item : ℕ → List (List ℕ) → List Valued → Option Item → (List (List ℕ) → List Valued → Result State WireFault) → Result State WireFault
with_item n names marks None go = Err (BadLine n)
with_item n names marks (Some i) go = if comes_next names marks i then go (names ++ names_in i) (marks ++ marks_in i) else Err (OutOfOrder n)

-- what lies between the line breaks, from line n on, after these names and marks
unfoldable pub items_from : Ending → ℕ → List (List ℕ) → List Valued → List (List ℕ) → Result State WireFault
items_from e n names marks [] = Err Truncated
items_from e n names marks (last ∷ []) = at_last e (last ∷ []) (state_from names marks)
items_from e n names marks (line ∷ next ∷ more) =
    if ends e line then (if is_over (next ∷ more) then Ok (state_from names marks) else Err Trailing)
    else with_item n names marks (item_of line) (λ ns ms. items_from e (n + 1) ns ms (next ∷ more))

-- the delta that the bytes spell, or the first fault from the top
abbrev pub delta_from_text : List ℕ → Result State WireFault
delta_from_text bytes = items_from AtEndOfBytes 1 [] [] (slice_split is_line_break bytes)

-- the end of an acknowledgement, in line 2
abbrev pub ack_from : Message → List (List ℕ) → Result Message WireFault
ack_from m [] = Err Truncated
ack_from m (last ∷ []) = Err Truncated
ack_from m (line ∷ next ∷ more) =
    if bytes_eq line (codes "end") then (if is_over (next ∷ more) then Ok m else Err Trailing)
    else Err (BadLine 2)

abbrev pub with_delta : Header → Result State WireFault → Result Message WireFault
with_delta h (Ok S) = Ok (Delta h.by h.to h.upto S)
with_delta h (Err f) = Err f

abbrev pub for_purpose : Purpose → Header → List (List ℕ) → Result Message WireFault
for_purpose purpose.Delta h pieces = with_delta h (items_from AtEndLine 2 [] [] pieces)
for_purpose purpose.Ack h pieces = ack_from (Ack h.by h.to h.upto) pieces

abbrev pub after_header : Option Header → List (List ℕ) → Result Message WireFault
after_header None pieces = Err (BadLine 1)
after_header (Some h) pieces = for_purpose h.purpose h pieces

abbrev pub message_from : List (List ℕ) → Result Message WireFault
message_from [] = Err Truncated
message_from (last ∷ []) = Err Truncated
message_from (line ∷ next ∷ more) = after_header (header_of line) (next ∷ more)

-- the message that the bytes spell, or the first fault from the top
abbrev pub message_of : List ℕ → Result Message WireFault
message_of bytes = message_from (slice_split is_line_break bytes)

-- ---- where memory is wanted

-- the first line spells an item, so that the delta grows
abbrev pub BeginsWithItem : List (List ℕ) → Type 0
BeginsWithItem [] = ⊥
BeginsWithItem (last ∷ []) = ⊥
BeginsWithItem (line ∷ next ∷ more) = (i : Item) × (item_of line ≡ Some i)

-- a delta's message has an item
abbrev pub HasItem : Purpose → List (List ℕ) → Type 0
HasItem purpose.Delta pieces = BeginsWithItem pieces
HasItem purpose.Ack pieces = ⊥

-- the first line is the header of a delta's message, and the second spells an item
abbrev pub BeginsWithDelta : List (List ℕ) → Type 0
BeginsWithDelta [] = ⊥
BeginsWithDelta (line ∷ pieces) = (h : Header) × (header_of line ≡ Some h) × HasItem h.purpose pieces

-- ---- what is spelled is read

-- whichever delta the bytes spell, it is what is read, or memory ran out
abbrev pub ReadsEachDelta : List ℕ → Result State WireFault → Type 0
ReadsEachDelta bytes read = (delta : State) → IsDelta delta → bytes ≡ delta_text delta → Gives read (Ok delta)

-- whichever message the bytes spell, it is what is read, or memory ran out
abbrev pub ReadsEachMessage : List ℕ → Result Message WireFault → Type 0
ReadsEachMessage bytes read = (message : Message) → IsMessage message → bytes ≡ message_text message → Gives read (Ok message)
