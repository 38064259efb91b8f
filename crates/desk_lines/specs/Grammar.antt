-- The text of each line of a session and of a script. (Our own.)
use Rattle.std.specs.Prelude.{ℕ, ◌≤◌, Bool, true, false, ⊤, List, [], ◌∷◌, Option, Some, None, codes}
use Rattle.std.specs.List.{join_with_byte}
use Rattle.std.specs.Fmt.{decimal}
use Rattle.rights_lattice.specs.Cells.{IsValue}
use Rattle.rights_lattice.specs.Limits.{most_sites, IsSite}
use Rattle.rights_lattice.specs.EventName.{IsEventName}
use Rattle.request_ledger.specs.declared.request.Request.{Request}
use Rattle.request_ledger.specs.declared.request.Request.TheVariants.{Announce, Release, Sell, Refund, Cede}
use Rattle.request_ledger.specs.Ranges.{IsRequest}
use Rattle.request_ledger.specs.Words.{verb_word, request_verb}
use Rattle.world_steps.specs.declared.step.Input.{Input}
use Rattle.world_steps.specs.declared.step.Input.TheVariants as input
use Rattle.world_steps.specs.declared.step.Step.{Step}
use Rattle.world_steps.specs.declared.step.Step.TheVariants.{Ask, Send, Deliver, Restart, Grow, Stop}
use Rattle.desk_lines.specs.declared.line.Line.{Line}
use Rattle.desk_lines.specs.declared.line.Line.TheVariants as line
use Rattle.desk_lines.specs.declared.script.ScriptLine.{ScriptLine}
use Rattle.desk_lines.specs.declared.script.ScriptLine.TheVariants.{Make, Left, Totals}

-- the part of a sale, where one is given
abbrev pub part_words : Option ℕ → List (List ℕ)
part_words None = []
part_words (Some a) = decimal a ∷ []

-- what stands behind the number of a request
abbrev pub operands : Request → List (List ℕ)
operands (Announce e) = e ∷ []
operands (Release e a) = e ∷ decimal a ∷ []
operands (Sell e a) = e ∷ decimal a ∷ []
operands (Refund s part) = decimal s ∷ part_words part
operands (Cede e to a) = e ∷ decimal a ∷ decimal to ∷ []

-- the words of a request under its number
abbrev pub request_words : ℕ → Request → List (List ℕ)
request_words n q = verb_word (request_verb q) ∷ decimal n ∷ operands q

-- the words of a line of a session
abbrev pub session_words : Line → List (List ℕ)
session_words (line.Ask n q) = request_words n q
session_words (line.Left e) = codes "left" ∷ e ∷ []
session_words (line.Totals e) = codes "totals" ∷ e ∷ []
session_words line.Quit = codes "quit" ∷ []

-- the words with one space between two
unfoldable pub session_text : Line → List ℕ
session_text l = join_with_byte 32 (session_words l)

-- the session line that asks a request under its number
unfoldable pub request_line : ℕ → Request → List ℕ
request_line n q = session_text (line.Ask n q)

-- the words of what a stopped site had in hand
abbrev pub input_words : Input → List (List ℕ)
input_words (input.Request n q) = request_words n q
input_words (input.Take k) = codes "deliver" ∷ decimal k ∷ []
input_words (input.Grow n) = codes "grow" ∷ decimal n ∷ []

-- whether it was stored
abbrev pub stored_text : Bool → List ℕ
stored_text true = codes "kept"
stored_text false = codes "lost"

-- the words of a step
abbrev pub step_words : Step → List (List ℕ)
step_words (Ask i n q) = decimal i ∷ request_words n q
step_words (Send i j) = codes "send" ∷ decimal i ∷ decimal j ∷ []
step_words (Deliver k) = codes "deliver" ∷ decimal k ∷ []
step_words (Restart i) = codes "restart" ∷ decimal i ∷ []
step_words (Grow i n) = codes "grow" ∷ decimal i ∷ decimal n ∷ []
step_words (Stop i x stored) = codes "stop" ∷ decimal i ∷ stored_text stored ∷ input_words x

-- the words of a line of a script
abbrev pub script_words : ScriptLine → List (List ℕ)
script_words (Make s) = step_words s
script_words (Left i e) = decimal i ∷ codes "left" ∷ e ∷ []
script_words (Totals i e) = decimal i ∷ codes "totals" ∷ e ∷ []

unfoldable pub script_text : ScriptLine → List ℕ
script_text l = join_with_byte 32 (script_words l)

-- the line that gives the count of sites, and the one that gives the limit of a history
abbrev pub sites_words : ℕ → List (List ℕ)
sites_words n = codes "sites" ∷ decimal n ∷ []

abbrev pub limit_words : ℕ → List (List ℕ)
limit_words n = codes "limit" ∷ decimal n ∷ []

-- the most lines of a session or of a script
abbrev pub most_lines : ℕ
most_lines = 1000000

-- what has a text

abbrev pub IsSessionLine : Line → Type 0
IsSessionLine (line.Ask n q) = IsValue n × IsRequest q
IsSessionLine (line.Left e) = IsEventName e
IsSessionLine (line.Totals e) = IsEventName e
IsSessionLine line.Quit = ⊤

-- the greatest index of a message that a line can name
abbrev pub greatest_index : ℕ
greatest_index = 1000000000

-- the index of a message, whether the message is there or not
abbrev pub IsIndex : ℕ → Type 0
IsIndex k = k ≤ greatest_index

-- a count of sites
abbrev pub IsSites : ℕ → Type 0
IsSites n = (1 ≤ n) × (n ≤ most_sites)

abbrev pub IsInput : Input → Type 0
IsInput (input.Request n q) = IsValue n × IsRequest q
IsInput (input.Take k) = IsIndex k
IsInput (input.Grow n) = IsSites n

abbrev pub IsStep : Step → Type 0
IsStep (Ask i n q) = IsSite i × IsValue n × IsRequest q
IsStep (Send i j) = IsSite i × IsSite j
IsStep (Deliver k) = IsIndex k
IsStep (Restart i) = IsSite i
IsStep (Grow i n) = IsSite i × IsSites n
IsStep (Stop i x stored) = IsSite i × IsInput x

abbrev pub IsScriptLine : ScriptLine → Type 0
IsScriptLine (Make s) = IsStep s
IsScriptLine (Left i e) = IsSite i × IsEventName e
IsScriptLine (Totals i e) = IsSite i × IsEventName e
