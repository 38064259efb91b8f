-- Reading a line of a session or of a script from left to right. (Our own.)
use Rattle.std.specs.Prelude.{ℕ, List, Option, Some, None, codes, if◌then◌else◌}
use Rattle.std.specs.Str.{bytes_eq}
use Rattle.std.specs.List.{slice_split}
use Rattle.plain_words.specs.Words.{first_word, is_space, ended, ◌>>=◌}
use Rattle.plain_words.specs.Number.{number_of, number_at}
use Rattle.rights_lattice.specs.Limits.{greatest_site, most_sites}
use Rattle.book_core.specs.Limits.{greatest_limit}
use Rattle.delta_wire.specs.Fields.{event_at}
use Rattle.world_steps.specs.declared.step.Step.TheVariants as step
use Rattle.desk_lines.specs.declared.line.Line.{Line}
use Rattle.desk_lines.specs.declared.line.Line.TheVariants.{Ask, Left, Totals, Quit}
use Rattle.desk_lines.specs.declared.script.ScriptLine.{ScriptLine}
use Rattle.desk_lines.specs.declared.script.ScriptLine.TheVariants as script
use Rattle.desk_lines.specs.Requests.{request_from}
use Rattle.desk_lines.specs.Commands.{commanded}

unfoldable pub left_line_in : List (List ℕ) → Option Line
left_line_in words = do
  e ← event_at words
  ended (Left e.0) e.1

unfoldable pub totals_line_in : List (List ℕ) → Option Line
totals_line_in words = do
  e ← event_at words
  ended (Totals e.0) e.1

unfoldable pub ask_line_in : List ℕ → List (List ℕ) → Option Line
ask_line_in word words = do
  a ← request_from word words
  Some (Ask a.0 a.1)

-- a line with this first word
abbrev pub asked_after : List ℕ → List (List ℕ) → Option Line
asked_after word words =
    if bytes_eq word (codes "left") then left_line_in words else (
    if bytes_eq word (codes "totals") then totals_line_in words else ask_line_in word words)

-- a line that asks or looks
unfoldable pub asked_in : List (List ℕ) → Option Line
asked_in words = do
  w ← first_word words
  asked_after w.0 w.1

-- the line of a session that the bytes spell, if they spell one
abbrev pub session_line_of : List ℕ → Option Line
session_line_of bytes = if bytes_eq bytes (codes "quit") then Some Quit else asked_in (slice_split is_space bytes)

-- the same of one site of a script, where `quit` is asked of none
abbrev pub at_a_site : ℕ → Line → Option ScriptLine
at_a_site site (Ask n q) = Some (script.Make (step.Ask site n q))
at_a_site site (Left e) = Some (script.Left site e)
at_a_site site (Totals e) = Some (script.Totals site e)
at_a_site site Quit = None

-- a line that begins with a site's number
unfoldable pub line_at_site : ℕ → List (List ℕ) → Option ScriptLine
line_at_site site words = do
  l ← asked_in words
  at_a_site site l

-- the number of a site, or else a command, stands first
abbrev pub after_first : Option ℕ → List ℕ → List (List ℕ) → Option ScriptLine
after_first (Some site) word words = line_at_site site words
after_first None word words = commanded word words

unfoldable pub line_of_words : List (List ℕ) → Option ScriptLine
line_of_words words = do
  w ← first_word words
  after_first (number_of 0 greatest_site w.0) w.0 w.1

-- the line of a script that the bytes spell, if they spell one
abbrev pub line_of : List ℕ → Option ScriptLine
line_of bytes = line_of_words (slice_split is_space bytes)

-- The number from 1 that follows the one word `name`, where nothing follows it.
unfoldable pub named_number : List ℕ → ℕ → List (List ℕ) → Option ℕ
named_number name high words = do
  w ← first_word words
  n ← (if bytes_eq w.0 name then number_at 1 high w.1 else None)
  ended n.0 n.1

-- the count of sites, where the line gives it
abbrev pub sites_from_line : List ℕ → Option ℕ
sites_from_line bytes = named_number (codes "sites") most_sites (slice_split is_space bytes)

-- the limit of a history, where the line gives it
abbrev pub limit_from_line : List ℕ → Option ℕ
limit_from_line bytes = named_number (codes "limit") greatest_limit (slice_split is_space bytes)
