-- How lines and their texts belong together, over the definitions alone. (Our own.)
use Rattle.std.specs.Prelude.{◌≡◌, ℕ, List, Some}
use Rattle.std.specs.List.{join_with_byte}
use Rattle.book_core.specs.Limits.{IsLimit}
use Rattle.desk_lines.specs.declared.line.Line.{Line}
use Rattle.desk_lines.specs.declared.script.ScriptLine.{ScriptLine}
use Rattle.desk_lines.specs.Grammar.{session_text, script_text, sites_words, limit_words, IsSessionLine, IsScriptLine, IsSites}
use Rattle.desk_lines.specs.Reading.{session_line_of, line_of, sites_from_line, limit_from_line}

-- each line of a session is read from its text
abbrev pub SessionLinesAreRead : Type 0
SessionLinesAreRead = (l : Line) → IsSessionLine l → session_line_of (session_text l) ≡ Some l

-- and from no other
abbrev pub OnlySessionLinesAreRead : Type 0
OnlySessionLinesAreRead = (bytes : List ℕ) (l : Line) → session_line_of bytes ≡ Some l → IsSessionLine l × (bytes ≡ session_text l)

-- the same of a script
abbrev pub LinesAreRead : Type 0
LinesAreRead = (l : ScriptLine) → IsScriptLine l → line_of (script_text l) ≡ Some l

abbrev pub OnlyLinesAreRead : Type 0
OnlyLinesAreRead = (bytes : List ℕ) (l : ScriptLine) → line_of bytes ≡ Some l → IsScriptLine l × (bytes ≡ script_text l)

abbrev pub SitesAreRead : Type 0
SitesAreRead = (n : ℕ) → IsSites n → sites_from_line (join_with_byte 32 (sites_words n)) ≡ Some n

abbrev pub OnlySitesAreRead : Type 0
OnlySitesAreRead = (bytes : List ℕ) (n : ℕ) → sites_from_line bytes ≡ Some n → IsSites n × (bytes ≡ join_with_byte 32 (sites_words n))

abbrev pub LimitsAreRead : Type 0
LimitsAreRead = (n : ℕ) → IsLimit n → limit_from_line (join_with_byte 32 (limit_words n)) ≡ Some n

abbrev pub OnlyLimitsAreRead : Type 0
OnlyLimitsAreRead = (bytes : List ℕ) (n : ℕ) → limit_from_line bytes ≡ Some n → IsLimit n × (bytes ≡ join_with_byte 32 (limit_words n))
