-- Requests that a caller sent in a row. (Our own.)
use Rattle.std.specs.Prelude.{◌≡◌, ℕ, List, [], ◌∷◌, ◌++◌, map, Option, Some, None}
use Rattle.plain_words.specs.Input.{lines_of}
use Rattle.request_ledger.specs.declared.request.Request.{Request}
use Rattle.desk_lines.specs.declared.line.Line.TheVariants.{Ask}
use Rattle.live_office.specs.declared.office_line.OfficeLine.{OfficeLine}
use Rattle.live_office.specs.declared.office_line.OfficeLine.TheVariants as office_line
use Rattle.live_office.specs.Lines.{office_line_of}

abbrev pub asked_by : Option OfficeLine → Option (ℕ × Request)
asked_by (Some (office_line.Session (Ask number request))) = Some (number, request)
asked_by _ = None

-- the request that a line asks, if it asks one
abbrev pub asked_in : List ℕ → Option (ℕ × Request)
asked_in line = asked_by (office_line_of line)

-- one request more, which is asked
abbrev pub IsOneMore : Option (ℕ × Request) → List (ℕ × Request) → List (ℕ × Request) → Type 0
IsOneMore asked old new = (request : ℕ × Request) × (asked ≡ Some request) × (new ≡ old ++ request ∷ [])

-- The requests are those that the first lines of these bytes ask, one each.
abbrev pub AreFirst : List ℕ → List (ℕ × Request) → Type 0
AreFirst bytes requests =
    (lines : List (List ℕ)) × (rest : List (List ℕ)) × (lines_of bytes ≡ lines ++ rest) × (map asked_in lines ≡ map Some requests)
