-- Reading the words of one line from left to right. Our own.
use Rattle.std.specs.Prelude.{ℕ, List, Option, Some, None, codes, if◌then◌else◌}
use Rattle.std.specs.Str.{bytes_eq}
use Rattle.std.specs.List.{slice_split}
use Rattle.rights_lattice.specs.declared.cell.Cell.{Cell}
use Rattle.rights_lattice.specs.declared.cell.Cell.TheVariants.{Gave, Used, Back}
use Rattle.delta_mutators.specs.declared.delta.Item.{Item}
use Rattle.delta_mutators.specs.declared.delta.Item.TheVariants as item
use Rattle.book_core.specs.Limits.{greatest_limit}
use Rattle.plain_words.specs.Number.{number_at}
use Rattle.plain_words.specs.Words.{first_word, is_space, ended, ◌>>=◌}
use Rattle.delta_wire.specs.Fields.{event_at, site_at, natural_at}
use Rattle.delta_wire.specs.declared.items.ItemKind.{ItemKind}
use Rattle.delta_wire.specs.declared.items.ItemKind.TheVariants as kind
use Rattle.delta_wire.specs.declared.header.Header.{Header}
use Rattle.delta_wire.specs.declared.header.Purpose.{Purpose}
use Rattle.delta_wire.specs.declared.header.Purpose.TheVariants as purpose

-- ---- items

abbrev pub kind_text : ItemKind → List ℕ
kind_text kind.Name = codes "name"
kind_text kind.Gave = codes "gave"
kind_text kind.Used = codes "used"
kind_text kind.Back = codes "back"

unfoldable pub kind_of : List ℕ → Option ItemKind
kind_of w =
    if bytes_eq w (codes "name") then Some kind.Name else (
    if bytes_eq w (codes "gave") then Some kind.Gave else (
    if bytes_eq w (codes "used") then Some kind.Used else (
    if bytes_eq w (codes "back") then Some kind.Back else None)))

unfoldable pub kind_at : List (List ℕ) → Option (ItemKind × List (List ℕ))
kind_at words = do
  w ← first_word words
  k ← kind_of w.0
  Some (k, w.1)

unfoldable pub name_item : List (List ℕ) → Option Item
name_item words = do
  e ← event_at words
  ended (item.Name e.0) e.1

-- the value of a cell of an event, which ends the line
unfoldable pub mark_item : List ℕ → Cell → List (List ℕ) → Option Item
mark_item event cell words = do
  v ← natural_at words
  ended (item.Cell (record { event = event; cell = cell; value = v.0 })) v.1

unfoldable pub gave_item : List (List ℕ) → Option Item
gave_item words = do
  e ← event_at words
  i ← site_at e.1
  j ← site_at i.1
  mark_item e.0 (Gave i.0 j.0) j.1

unfoldable pub used_item : List (List ℕ) → Option Item
used_item words = do
  e ← event_at words
  i ← site_at e.1
  mark_item e.0 (Used i.0) i.1

unfoldable pub back_item : List (List ℕ) → Option Item
back_item words = do
  e ← event_at words
  i ← site_at e.1
  mark_item e.0 (Back i.0) i.1

abbrev pub after_kind : ItemKind → List (List ℕ) → Option Item
after_kind kind.Name words = name_item words
after_kind kind.Gave words = gave_item words
after_kind kind.Used words = used_item words
after_kind kind.Back words = back_item words

unfoldable pub item_of_words : List (List ℕ) → Option Item
item_of_words words = do
  k ← kind_at words
  after_kind k.0 k.1

-- the item that a line spells, if it spells one
abbrev pub item_of : List ℕ → Option Item
item_of line = item_of_words (slice_split is_space line)

-- ---- headers

abbrev pub purpose_text : Purpose → List ℕ
purpose_text purpose.Delta = codes "delta"
purpose_text purpose.Ack = codes "ack"

unfoldable pub purpose_of : List ℕ → Option Purpose
purpose_of w =
    if bytes_eq w (codes "delta") then Some purpose.Delta else (
    if bytes_eq w (codes "ack") then Some purpose.Ack else None)

unfoldable pub purpose_at : List (List ℕ) → Option (Purpose × List (List ℕ))
purpose_at words = do
  w ← first_word words
  k ← purpose_of w.0
  Some (k, w.1)

abbrev pub upto_at : List (List ℕ) → Option (ℕ × List (List ℕ))
upto_at words = number_at 1 greatest_limit words

unfoldable pub header_of_words : List (List ℕ) → Option Header
header_of_words words = do
  k ← purpose_at words
  i ← site_at k.1
  j ← site_at i.1
  u ← upto_at j.1
  ended (record { purpose = k.0; by = i.0; to = j.0; upto = u.0 }) u.1

abbrev pub header_of : List ℕ → Option Header
header_of line = header_of_words (slice_split is_space line)
