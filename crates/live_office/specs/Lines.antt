-- What a line asks of an open office. (Our own.)
use Rattle.std.specs.Prelude.{ℕ, List, Option, Some, None, codes, if◌then◌else◌}
use Rattle.std.specs.Str.{bytes_eq}
use Rattle.std.specs.List.{slice_split}
use Rattle.plain_words.specs.Words.{first_word, is_space, ended, ◌>>=◌}
use Rattle.delta_wire.specs.Fields.{event_at, natural_at, site_at}
use Rattle.desk_lines.specs.declared.line.Line.{Line}
use Rattle.desk_lines.specs.Reading.{session_line_of}
use Rattle.live_office.specs.declared.office_line.OfficeLine.{OfficeLine}
use Rattle.live_office.specs.declared.office_line.OfficeLine.TheVariants as office_line

-- the words after each first word
unfoldable pub export_in : List (List ℕ) → Option OfficeLine
export_in words = do
  s ← site_at words
  ended (office_line.Export s.0) s.1

unfoldable pub import_in : List (List ℕ) → Option OfficeLine
import_in words = ended office_line.Import words

unfoldable pub find_in : List (List ℕ) → Option OfficeLine
find_in words = do
  n ← natural_at words
  ended (office_line.Find n.0) n.1

unfoldable pub list_in : List (List ℕ) → Option OfficeLine
list_in words = do
  e ← event_at words
  ended (office_line.List e.0) e.1

unfoldable pub events_in : List (List ℕ) → Option OfficeLine
events_in words = ended office_line.Events words

unfoldable pub shares_in : List (List ℕ) → Option OfficeLine
shares_in words = do
  e ← event_at words
  ended (office_line.Shares e.0) e.1

unfoldable pub status_in : List (List ℕ) → Option OfficeLine
status_in words = ended office_line.Status words

unfoldable pub site_in : List (List ℕ) → Option OfficeLine
site_in words = ended office_line.Site words

unfoldable pub close_in : List (List ℕ) → Option OfficeLine
close_in words = ended office_line.Close words

-- a line of the office alone that begins with this word: one row for each
abbrev pub own_after : List ℕ → List (List ℕ) → Option OfficeLine
own_after word words =
    if bytes_eq word (codes "export") then export_in words else (
    if bytes_eq word (codes "import") then import_in words else (
    if bytes_eq word (codes "find") then find_in words else (
    if bytes_eq word (codes "list") then list_in words else (
    if bytes_eq word (codes "events") then events_in words else (
    if bytes_eq word (codes "shares") then shares_in words else (
    if bytes_eq word (codes "status") then status_in words else (
    if bytes_eq word (codes "site") then site_in words else (
    if bytes_eq word (codes "close") then close_in words else None))))))))

-- a line of the office alone
unfoldable pub own_in : List (List ℕ) → Option OfficeLine
own_in words = do
  w ← first_word words
  own_after w.0 w.1

-- a line of a session is that line here, and any other may be one of the office alone
abbrev pub session_or_own : Option Line → List (List ℕ) → Option OfficeLine
session_or_own (Some line) words = Some (office_line.Session line)
session_or_own None words = own_in words

-- the line of an office that the bytes spell, if they spell one
abbrev pub office_line_of : List ℕ → Option OfficeLine
office_line_of bytes = session_or_own (session_line_of bytes) (slice_split is_space bytes)
