-- The text of each line of an office. (Our own.)
use Rattle.std.specs.Prelude.{ℕ, ⊤, List, [], ◌∷◌, codes}
use Rattle.std.specs.List.{join_with_byte}
use Rattle.std.specs.Fmt.{decimal}
use Rattle.rights_lattice.specs.Cells.{IsValue}
use Rattle.rights_lattice.specs.EventName.{IsEventName}
use Rattle.rights_lattice.specs.Limits.{IsSite}
use Rattle.desk_lines.specs.Grammar.{IsSessionLine, session_words}
use Rattle.live_office.specs.declared.office_line.OfficeLine.{OfficeLine}
use Rattle.live_office.specs.declared.office_line.OfficeLine.TheVariants as office_line

-- the words of a line
abbrev pub office_words : OfficeLine → List (List ℕ)
office_words (office_line.Session line) = session_words line
office_words (office_line.Export to) = codes "export" ∷ decimal to ∷ []
office_words office_line.Import = codes "import" ∷ []
office_words (office_line.Find number) = codes "find" ∷ decimal number ∷ []
office_words (office_line.List event) = codes "list" ∷ event ∷ []
office_words office_line.Events = codes "events" ∷ []
office_words (office_line.Shares event) = codes "shares" ∷ event ∷ []
office_words office_line.Status = codes "status" ∷ []
office_words office_line.Site = codes "site" ∷ []
office_words office_line.Close = codes "close" ∷ []

-- the words with one space between two
unfoldable pub office_line_text : OfficeLine → List ℕ
office_line_text line = join_with_byte 32 (office_words line)

-- what has a text
abbrev pub IsOfficeLine : OfficeLine → Type 0
IsOfficeLine (office_line.Session line) = IsSessionLine line
IsOfficeLine (office_line.Export to) = IsSite to
IsOfficeLine office_line.Import = ⊤
IsOfficeLine (office_line.Find number) = IsValue number
IsOfficeLine (office_line.List event) = IsEventName event
IsOfficeLine office_line.Events = ⊤
IsOfficeLine (office_line.Shares event) = IsEventName event
IsOfficeLine office_line.Status = ⊤
IsOfficeLine office_line.Site = ⊤
IsOfficeLine office_line.Close = ⊤
