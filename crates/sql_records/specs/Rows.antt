-- The rows of the entries: the ten columns of each, and the entry that a row stands for. (Our own.)
use Rattle.std.specs.Prelude.{ℕ, ◌+◌, ◌≤◌, ◌<◌, ◌^◌, ◌≡◌, ◌≢◌, codes, nat_le, ◌&&◌, ◌==◌, if◌then◌else◌, Bool, true, false, List, [], ◌∷◌, ◌++◌, Option, Some, None, pos, negsuc, map, length, take, drop, slice_get, IsSome, IfSome, IsSorted, IsPermutation}
use Rattle.std.specs.List.{AllByRecursion, filter_map, prefix_len, slice_split}
use Rattle.std.specs.Str.{bytes_eq}
use Rattle.std.specs.Option.{option_map}
use Rattle.std.specs.Result.{result_ok}
use Rattle.std.specs.declared.cmp.Ordering.{Ordering}
use Rattle.sqlite.specs.declared.types.Value.{Value}
use Rattle.sqlite.specs.declared.types.Value.TheVariants.{Null, Int, Text}
use Rattle.sqlite.specs.Order.{Row, column, value_cmp}
use Rattle.sqlite_keyed.specs.Lists.{sort_by}
use Rattle.rights_lattice.specs.Cells.{greatest_value, IsValue}
use Rattle.rights_lattice.specs.Limits.{greatest_site, most_sites, IsSite}
use Rattle.rights_lattice.specs.State.{State}
use Rattle.rights_lattice.specs.EventName.{name_of}
use Rattle.request_ledger.specs.declared.request.Request.{Request}
use Rattle.request_ledger.specs.declared.request.Request.TheVariants.{Announce, Release, Sell, Refund, Cede}
use Rattle.request_ledger.specs.declared.reply.Reply.{Reply}
use Rattle.request_ledger.specs.declared.reply.Reply.TheVariants.{TooMany}
use Rattle.request_ledger.specs.declared.verb.Verb.{Verb}
use Rattle.request_ledger.specs.declared.verb.Verb.TheVariants as verb
use Rattle.request_ledger.specs.Ranges.{IsRequest}
use Rattle.request_ledger.specs.Words.{verb_word, verb_of, request_verb, reply_word, reply_number, reply_of}
use Rattle.book_core.specs.declared.entry.Entry.{Entry}
use Rattle.sql_records.specs.declared.version.Version.{Version}
use Rattle.sql_records.specs.declared.version.Version.TheVariants.{First, Second}
use Rattle.book_core.specs.declared.entry.Entry.TheVariants.{Asked, Joined, Grown}
use Rattle.sql_records.specs.declared.reading.EntryHead.{EntryHead}
use Rattle.sql_records.specs.declared.reading.EntryHead.TheVariants as head
use Rattle.plain_words.specs.Input.{is_line_break}
use Rattle.plain_words.specs.Words.{◌>>=◌}
use Rattle.delta_wire.specs.Grammar.{most_bytes, IsDelta, delta_text}
use Rattle.delta_wire.specs.Wire.{delta_from_text, BeginsWithItem}

-- ---- the columns of an entry

abbrev pub event_column : Request → Value
event_column (Announce event) = Text event
event_column (Release event amount) = Text event
event_column (Sell event amount) = Text event
event_column (Refund sale part) = Null
event_column (Cede event to amount) = Text event

-- a number, where there is one
abbrev pub number_column : Option ℕ → Value
number_column None = Null
number_column (Some n) = Int (pos n)

-- the amount, or the part of a sale that is asked back
abbrev pub amount_column : Request → Value
amount_column (Announce event) = Null
amount_column (Release event amount) = Int (pos amount)
amount_column (Sell event amount) = Int (pos amount)
amount_column (Refund sale part) = number_column part
amount_column (Cede event to amount) = Int (pos amount)

-- the site that is ceded to, or the sale that is given back
abbrev pub target_column : Request → Value
target_column (Announce event) = Null
target_column (Release event amount) = Null
target_column (Sell event amount) = Null
target_column (Refund sale part) = Int (pos sale)
target_column (Cede event to amount) = Int (pos to)

-- the number of a reply, where it has one
abbrev pub rest_column : Reply → Value
rest_column reply = number_column (reply_number reply)

abbrev pub request_columns : Request → Row
request_columns request = Text (verb_word (request_verb request)) ∷ event_column request ∷ amount_column request ∷ target_column request ∷ []

abbrev pub reply_columns : Reply → Row
reply_columns reply = Text (reply_word reply) ∷ rest_column reply ∷ []

-- the word of a growth, which no request has
abbrev pub grow_word : List ℕ
grow_word = codes "grow"

-- the ten columns of an entry at a place: pos, peer, number, verb, event, amount, target, reply, rest, delta
abbrev pub columns_of : ℕ → Entry → Row
columns_of at (Asked number request reply delta) =
    Int (pos at) ∷ Null ∷ Int (pos number) ∷ (request_columns request ++ (reply_columns reply ++ Text (delta_text delta) ∷ []))
columns_of at (Joined peer delta) = Int (pos at) ∷ Int (pos peer) ∷ Null ∷ Null ∷ Null ∷ Null ∷ Null ∷ Null ∷ Null ∷ Text (delta_text delta) ∷ []
columns_of at (Grown sites) = Int (pos at) ∷ Null ∷ Null ∷ Text grow_word ∷ Null ∷ Null ∷ Int (pos sites) ∷ Null ∷ Null ∷ Text [] ∷ []

-- the same as the table keeps them: the place is the rowid, and its own column is null
abbrev pub stored : Row → Row
stored [] = []
stored (at ∷ more) = at ∷ Null ∷ more

-- the columns of a row of the table as a query shows them
abbrev pub shown : Row → Row
shown values =
    column values 0 ∷ column values 2 ∷ column values 3 ∷ column values 4 ∷ column values 5 ∷ column values 6 ∷ column values 7 ∷ column values 8
    ∷ column values 9 ∷ column values 10 ∷ []

-- ---- what has columns that are read back

-- a number of a column is below 2^63
abbrev pub HasReplyColumns : Reply → Type 0
HasReplyColumns reply = IfSome (reply_number reply) (λ n. n < 2 ^ 63)

-- the columns have room for an entry with a text so long
abbrev pub HasRoom : Entry → ℕ → Type 0
HasRoom (Asked number request reply delta) bytes = HasReplyColumns reply × (bytes ≤ most_bytes)
HasRoom (Joined peer delta) bytes = bytes ≤ most_bytes
HasRoom (Grown sites) bytes = Unit {0}

-- the entry is read back from its columns
abbrev pub IsStorable : Entry → Type 0
IsStorable (Asked number request reply delta) =
    IsValue number × IsRequest request × HasReplyColumns reply × IsDelta delta × (length (delta_text delta) ≤ most_bytes)
IsStorable (Joined peer delta) = IsSite peer × IsDelta delta × (length (delta_text delta) ≤ most_bytes)
IsStorable (Grown sites) = (1 ≤ sites) × (sites ≤ most_sites)

-- ---- what columns say

abbrev pub is_null : Value → Bool
is_null Null = true
is_null _ = false

abbrev pub text_in : Value → Option (List ℕ)
text_in (Text text) = Some text
text_in _ = None

-- the number, where it is one from low to high
abbrev pub number_within : ℕ → ℕ → Value → Option ℕ
number_within low high (Int (pos n)) = if nat_le low n && nat_le n high then Some n else None
number_within low high _ = None

-- a request number or an amount
abbrev pub positive_in : Value → Option ℕ
positive_in v = number_within 1 greatest_value v

abbrev pub site_in : Value → Option ℕ
site_in v = number_within 0 greatest_site v

abbrev pub sites_in : Value → Option ℕ
sites_in v = number_within 1 most_sites v

unfoldable pub event_in : Value → Option (List ℕ)
event_in v = do
  text ← text_in v
  name_of text

unfoldable pub verb_in : Value → Option Verb
verb_in v = do
  word ← text_in v
  verb_of word

unfoldable pub announce_of : Value → Value → Value → Option Request
announce_of event amount target = do
  e ← event_in event
  if is_null amount && is_null target then Some (Announce e) else None

unfoldable pub release_of : Value → Value → Value → Option Request
release_of event amount target = do
  e ← event_in event
  n ← positive_in amount
  if is_null target then Some (Release e n) else None

unfoldable pub sell_of : Value → Value → Value → Option Request
sell_of event amount target = do
  e ← event_in event
  n ← positive_in amount
  if is_null target then Some (Sell e n) else None

-- the part of a sale, or none where the column is null
unfoldable pub part_in : Value → Option (Option ℕ)
part_in amount = if is_null amount then Some None else option_map (λ n. Some n) (positive_in amount)

unfoldable pub refund_in_columns : Value → Value → Value → Option Request
refund_in_columns event amount target = do
  sale ← positive_in target
  part ← part_in amount
  if is_null event then Some (Refund sale part) else None

unfoldable pub cede_of : Value → Value → Value → Option Request
cede_of event amount target = do
  e ← event_in event
  n ← positive_in amount
  to ← site_in target
  Some (Cede e to n)

abbrev pub request_of : Verb → Value → Value → Value → Option Request
request_of verb.Announce event amount target = announce_of event amount target
request_of verb.Release event amount target = release_of event amount target
request_of verb.Sell event amount target = sell_of event amount target
request_of verb.Refund event amount target = refund_in_columns event amount target
request_of verb.Cede event amount target = cede_of event amount target

-- the request of these four columns
unfoldable pub request_in : Value → Value → Value → Value → Option Request
request_in word event amount target = do
  v ← verb_in word
  request_of v event amount target

-- the number of a reply, or none where the column is null
unfoldable pub rest_in : Value → Option (Option ℕ)
rest_in rest = if is_null rest then Some None else option_map (λ n. Some n) (number_within 0 9223372036854775807 rest)

-- the reply of these two columns
unfoldable pub reply_in : Value → Value → Option Reply
reply_in word rest = do
  w ← text_in word
  number ← rest_in rest
  reply_of w number

-- the delta that a text spells, where it is not too long
abbrev pub delta_named : List ℕ → Option State
delta_named text = if nat_le (length text) most_bytes then result_ok (delta_from_text text) else None

unfoldable pub delta_in : Value → Option State
delta_in v = do
  text ← text_in v
  delta_named text

unfoldable pub asked_of : Row → State → Option Entry
asked_of values delta = do
  number ← positive_in (column values 2)
  request ← request_in (column values 3) (column values 4) (column values 5) (column values 6)
  reply ← reply_in (column values 7) (column values 8)
  Some (Asked number request reply delta)

-- memory may be wanted for the delta that is told here: its text is not too long, and begins with an item
pub record WantsForDelta (v : Value) : Type 0 where
  pub text : List ℕ
  pub told : text_in v ≡ Some text
  pub short : length text ≤ most_bytes
  pub item : BeginsWithItem (slice_split is_line_break text)

-- the columns of a request and its reply are null
abbrev pub asks_nothing : Row → Bool
asks_nothing values =
    is_null (column values 2) && is_null (column values 3) && is_null (column values 4) && is_null (column values 5) && is_null (column values 6) &&
    is_null (column values 7)
    && is_null (column values 8)

unfoldable pub joined_of : Row → State → Option Entry
joined_of values delta = do
  peer ← site_in (column values 1)
  if asks_nothing values then Some (Joined peer delta) else None

abbrev pub is_grow : Value → Bool
is_grow (Text word) = bytes_eq word grow_word
is_grow _ = false

abbrev pub is_empty : Value → Bool
is_empty (Text []) = true
is_empty _ = false

-- beside the place, the peer, the word and the count, the columns are null, and the delta's text is empty
abbrev pub only_grows : Row → Bool
only_grows values =
    is_null (column values 2) && is_null (column values 4) && is_null (column values 5) && is_null (column values 7) && is_null (column values 8) &&
    is_empty (column values 9)

unfoldable pub grown_of : Row → Option Entry
grown_of values = do
  sites ← sites_in (column values 6)
  if only_grows values then Some (Grown sites) else None

-- the entry of a site's own, without a peer
abbrev pub own_of : Row → State → Option Entry
own_of values delta = if is_grow (column values 3) then grown_of values else asked_of values delta

abbrev pub entry_with : Row → State → Option Entry
entry_with values delta = if is_null (column values 1) then own_of values delta else joined_of values delta

-- the entry with this delta
abbrev pub with_delta : EntryHead → State → Entry
with_delta (head.Asked number request reply) delta = Asked number request reply delta
with_delta (head.Joined peer) delta = Joined peer delta
with_delta (head.Grown sites) delta = Grown sites

-- memory may be wanted for the entry that ten columns stand for: for its delta, the other columns being those of an entry
pub record WantsForEntry (values : Row) : Type 0 where
  pub delta : WantsForDelta (column values 9)
  pub others : (delta : State) → IsSome (entry_with values delta)

-- the entry that ten columns stand for, if they stand for one
unfoldable pub entry_of : Row → Option Entry
entry_of values = do
  delta ← delta_in (column values 9)
  entry_with values delta

-- ---- rows in the order of their places

abbrev pub by_place : Row → Row → Ordering
by_place a b = value_cmp (column a 0) (column b 0)

abbrev pub in_order : List Row → List Row
in_order = sort_by by_place

-- the rows of the table as a query shows them, in some order of their places
pub record AreInOrder (table rows : List Row) : Type 0 where
  pub same : IsPermutation (map shown table) rows
  pub sorted : IsSorted by_place rows

-- the entries that the rows of the table stand for, in the order of their places
abbrev pub history_of : List Row → List Entry
history_of table = filter_map entry_of (in_order (map shown table))

abbrev pub is_place : ℕ → Value → Bool
is_place place (Int (pos n)) = n == place
is_place place _ = false

-- the entry of the row, where the row has this place and stands for one
abbrev pub entry_at : ℕ → Row → Option Entry
entry_at place values = if is_place place (column values 0) then entry_of values else None

-- one more in front
abbrev pub in_front : Option Entry → Option (List Entry) → Option (List Entry)
in_front (Some entry) (Some entries) = Some (entry ∷ entries)
in_front _ _ = None

-- the entries of rows that have the places from one on, and none where some row is not the entry of its place
abbrev pub entries_from : ℕ → List Row → Option (List Entry)
entries_from place [] = Some []
entries_from place (values ∷ rows) = in_front (entry_at place values) (entries_from (place + 1) rows)

-- the row has this place and stands for an entry
pub record IsEntryAt (place : ℕ) (values : Row) : Type 0 where
  pub placed : column values 0 ≡ Int (pos place)
  pub reads : IsSome (entry_of values)

-- the rows have the places from one on, and each stands for an entry
abbrev pub AreWhole : ℕ → List Row → Type 0
AreWhole from [] = Unit {0}
AreWhole from (values ∷ rows) = IsEntryAt from values × AreWhole (from + 1) rows

-- what the first version does not have: a part of a sale that is asked back, the reply that it is too many, and a growth
-- (the word is this version's: the first had none for it)
abbrev pub too_many : List ℕ
too_many = reply_word (TooMany 0)

pub record HasPart (values : Row) : Type 0 where
  pub refund : verb_in (column values 3) ≡ Some verb.Refund
  pub part : is_null (column values 5) ≡ false

-- the columns of a request and its reply, or of a growth, are those of this version
abbrev pub IsOfVersion : Version → Row → Type 0
IsOfVersion First values = (¬ HasPart values) × (column values 7 ≢ Text too_many) × (is_grow (column values 3) ≡ false)
IsOfVersion Second values = Unit {0}

-- the row has this place and stands for an entry of this version
abbrev pub IsEntryIn : Version → ℕ → Row → Type 0
IsEntryIn read place values = IsEntryAt place values × IsOfVersion read values

-- the rows have the places from one on, and each stands for an entry of this version
abbrev pub AreWholeIn : Version → ℕ → List Row → Type 0
AreWholeIn read from rows = AreWhole from rows × AllByRecursion (IsOfVersion read) rows

-- the first of these rows that is not the entry of its place in this version
abbrev pub IsFirstDamaged : Version → ℕ → List Row → Type 0
IsFirstDamaged read place rows = AreWholeIn read 0 (take place rows) × ((values : Row) × (slice_get rows place ≡ Some values) × ¬ IsEntryIn read place values)

-- ---- what is at fault in rows that are in an order of their places

abbrev pub is_below : Value → Bool
is_below (Int (negsuc n)) = true
is_below _ = false

-- how many rows stand in front of the place 0
abbrev pub rows_below : List Row → ℕ
rows_below rows = prefix_len (λ (values : Row). is_below (column values 0)) rows

-- the rows from the place 0 on
abbrev pub rows_from_0 : List Row → List Row
rows_from_0 rows = drop (rows_below rows) rows

-- the least place below the number of rows that is missing, or whose row does not read as an entry of this version
pub record IsDamagedAt (read : Version) (place : ℕ) (rows : List Row) : Type 0 where
  pub low : place < length rows
  pub before : AreWholeIn read 0 (take place (rows_from_0 rows))
  pub reached : place ≤ length (rows_from_0 rows)
  pub missing : (values : Row) → slice_get (rows_from_0 rows) place ≡ Some values → ¬ IsEntryIn read place values
