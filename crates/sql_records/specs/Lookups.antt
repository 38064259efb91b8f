-- What the records are asked: what is kept under a number, and which requests name an event. (Our own.)
use Rattle.std.specs.Prelude.{ℕ, Bool, List, [], ◌∷◌, Option, Some, None, pos, map, take, slice_get, unwrap_or, ◌≡◌, ◌⊎◌, ◌<◌, length, IsSome}
use Rattle.sqlite.specs.declared.types.Value.{Value}
use Rattle.sqlite.specs.declared.types.Value.TheVariants.{Int, Text}
use Rattle.sqlite.specs.Collation.TheVariants.{Binary}
use Rattle.sqlite.specs.Order.{Row, column}
use Rattle.sqlite_sql.specs.declared.ops.BinaryOp.TheVariants.{Compare}
use Rattle.sqlite_sql.specs.declared.ops.CompareOp.TheVariants.{Eq}
use Rattle.sqlite_sql.specs.Ops.{binary, is_true}
use Rattle.plain_words.specs.Words.{◌>>=◌}
use Rattle.sqlite.specs.State.{State, IsUnchanged}
use Rattle.sql_records.specs.Faults.{HasDiskCause, IsUndoneForMemory}
use Rattle.sql_records.specs.declared.lookup.FindFault.{FindFault}
use Rattle.sql_records.specs.declared.lookup.FindFault.TheVariants.{Shut, Damaged, Memory, Disk}
use Rattle.history_keeper.specs.declared.lookup.Found.{Found}
use Rattle.history_keeper.specs.declared.lookup.Listed.{Listed}
use Rattle.sql_records.specs.Rows.{positive_in, request_in, reply_in}

-- ---- the rows, each as a query shows its ten columns

-- the request number is this one, as SQL compares values
abbrev pub has_number : ℕ → Row → Bool
has_number number values = is_true (binary (Compare Eq Binary) (column values 2) (Int (pos number)))

-- the event is this one, as SQL compares values
abbrev pub has_event : List ℕ → Row → Bool
has_event name values = is_true (binary (Compare Eq Binary) (column values 4) (Text name))

-- the place, the reply and its number
abbrev pub found_columns : Row → Row
found_columns values = column values 0 ∷ column values 7 ∷ column values 8 ∷ []

-- the place, the number, the four columns of the request, the reply and its number
abbrev pub listed_columns : Row → Row
listed_columns values = column values 0 ∷ column values 2 ∷ column values 3 ∷ column values 4 ∷ column values 5 ∷ column values 6 ∷ column values 7
    ∷ column values 8 ∷ []

abbrev pub place_of : Value → Option ℕ
place_of (Int (pos place)) = Some place
place_of _ = None

abbrev pub place_in : Row → Option ℕ
place_in values = place_of (column values 0)

-- what those columns say
unfoldable pub found_of : Row → Option Found
found_of values = do
  place ← place_in values
  reply ← reply_in (column values 1) (column values 2)
  Some (record { place = place; reply = reply })

unfoldable pub listed_of : Row → Option Listed
listed_of values = do
  place ← place_in values
  number ← positive_in (column values 1)
  request ← request_in (column values 2) (column values 3) (column values 4) (column values 5)
  reply ← reply_in (column values 6) (column values 7)
  Some (record { place = place; number = number; request = request; reply = reply })

-- what the first row says, where there is one
abbrev pub first_found : List Row → Option (Option Found)
first_found [] = None
first_found (values ∷ rows) = Some (found_of values)

-- ---- why there is no answer

-- the row does not read: its place, or 0 where it has none
abbrev pub damage_of : Row → FindFault
damage_of values = Damaged (unwrap_or (place_in values) 0)

-- the first row that does not read, and it is named
pub record IsFirstUnread (rows : List Row) (fault : FindFault) : Type 0 where
  pub at : ℕ
  pub values : Row
  pub here : slice_get rows at ≡ Some values
  pub unread : listed_of values ≡ None
  pub before : (listed : List Listed) × (map Some listed ≡ map listed_of (take at rows))
  pub named : fault ≡ damage_of values

-- a row reads, as do those before it
pub record ReadsSome (rows : List Row) : Type 0 where
  pub at : ℕ
  pub values : Row
  pub here : slice_get rows at ≡ Some values
  pub reads : IsSome (listed_of values)
  pub before : (listed : List Listed) × (map Some listed ≡ map listed_of (take at rows))

-- the store wants memory, or the disk is at fault
abbrev pub IsQueryFault : State → State → FindFault → Type 0
IsQueryFault old new Shut = ⊥
IsQueryFault old new (Damaged place) = ⊥
IsQueryFault old new Memory = IsUndoneForMemory old new
IsQueryFault old new Disk = HasDiskCause old new

-- the same where requests are listed, for which memory is wanted too where there are any
abbrev pub IsListFault : State → State → List Listed → FindFault → Type 0
IsListFault old new listed Memory = IsUndoneForMemory old new ⊎ (IsUnchanged old new × (0 < length listed))
IsListFault old new listed fault = IsQueryFault old new fault
