-- What the parts of a script leave in its reader and its writers. (Our own.)
use Rattle.std.specs.Prelude.{◌≡◌, ℕ, suc, ◌≤◌, List, [], ◌∷◌, ◌++◌, length, Bool, true, false, Option, Some, None, Result, Ok, Err, IfSome}
use Rattle.std.specs.List.{join_with_byte}
use Rattle.std.specs.Io.KnownBytes.{Appends, Keeps}
use Rattle.plain_words.specs.Input.{longest_line, lines_of, Between, BeginsTooLong, BreaksOff, InputEnd, AtEnd, AtLongLine, AtTooMany, TakenLines, taken}
use Rattle.plain_words.specs.Writing.{AppendsFront}
use Rattle.world_steps.specs.World.{World}
use Rattle.operator_cli.specs.declared.fault.ScriptFault.{ScriptFault}
use Rattle.operator_cli.specs.declared.fault.ScriptFault.TheVariants.{Read, Write, LineTooLong, TooManyLines, Memory}
use Rattle.operator_cli.specs.declared.status.Status.{Status}
use Rattle.operator_cli.specs.declared.status.Status.TheVariants as status
use Rattle.desk_lines.specs.Grammar.{most_lines, IsSites, sites_words}
use Rattle.desk_lines.specs.Reading.{line_of, sites_from_line}
use Rattle.desk_lines.specs.ScriptReplies.{script_reply_line}
use Rattle.operator_cli.specs.Answering.{answer_to}
use Rattle.operator_cli.specs.Faults.{IsOutFault, of_script_fault}
use Rattle.operator_cli.specs.CommandReply.{command_fault_line}
use Rattle.operator_cli.specs.Script.{answers, world_behind, replies_and_totals, replies_at, run_at, replies, script_of_lines, bad_line, script}

-- the first line gives the count of sites
abbrev pub StartsWell : List (List ℕ) → Type 0
StartsWell [] = ⊥
StartsWell (first ∷ lines) = (n : ℕ) × IsSites n × (first ≡ join_with_byte 32 (sites_words n))

-- no line yet, or a first one that gives the count of sites
abbrev pub MayGoOn : List (List ℕ) → Type 0
MayGoOn [] = Unit {0}
MayGoOn (first ∷ lines) = StartsWell (first ∷ lines)

abbrev pub AnyLines : List (List ℕ) → Type 0
AnyLines lines = Unit {0}

-- what these lines print: all of it only where the input ends behind them, and else their replies
abbrev pub printed : InputEnd → (List (List ℕ) → List ℕ) → (List (List ℕ) → List ℕ) → List (List ℕ) → List ℕ
printed AtEnd replies whole lines = whole lines
printed AtLongLine replies whole lines = replies lines
printed AtTooMany replies whole lines = replies lines

-- What is there after a fault, of the lines that are taken: where reading ended early the replies to the lines before, whole; where writing or
-- memory failed, a front of what the lines print.
abbrev pub EndsEarly : (List (List ℕ) → Type 0) → (List (List ℕ) → List ℕ) → (List (List ℕ) → List ℕ) → TakenLines → Option (List ℕ) → Option (List ℕ)
    → ScriptFault → Type 0
EndsEarly goes replies whole t old new Read = (before : List (List ℕ)) × (after : List (List ℕ)) × (t.lines ≡ before ++ after) × goes before
    × Appends old new (replies before)
EndsEarly goes replies whole t old new LineTooLong = (t.end ≡ AtLongLine) × goes t.lines × Appends old new (replies t.lines)
EndsEarly goes replies whole t old new TooManyLines = (t.end ≡ AtTooMany) × goes t.lines × Appends old new (replies t.lines)
EndsEarly goes replies whole t old new Write = AppendsFront old new (printed t.end replies whole t.lines)
EndsEarly goes replies whole t old new Memory = AppendsFront old new (printed t.end replies whole t.lines)

-- Reading broke off where this many lines may be there, and the replies to the lines that it took went out.
abbrev pub ReadBrokeOff : ℕ → (List (List ℕ) → List ℕ) → Option (List ℕ) → Option (List ℕ) → Option (List ℕ) → Option (List ℕ) → Type 0
ReadBrokeOff most replies input rest old new = Between input rest (λ xs ys. (b : BreaksOff most xs ys) × Appends old new (replies b.lines))

-- one line behind the second: its reply line went out, or none was left
abbrev pub NextRan : Option (List ℕ) → Option (List ℕ) → Option (List ℕ) → Option (List ℕ) → World → World → Result Bool ScriptFault → Type 0
NextRan input rest old new before after (Ok true) =
    (line : List ℕ) × (length line ≤ longest_line) × Between input rest (λ xs ys. lines_of xs ≡ line ∷ lines_of ys)
    × Appends old new (script_reply_line (answer_to before (line_of line)).0) × (after ≡ (answer_to before (line_of line)).1)
NextRan input rest old new before after (Ok false) = Keeps old new × (after ≡ before) × Between input rest (λ xs ys. (lines_of xs ≡ []) × (lines_of ys ≡ []))
NextRan input rest old new before after (Err f) = IfSome input (λ xs. (more : ℕ)
    → EndsEarly AnyLines (answers before) (replies_and_totals before) (taken (suc more) (lines_of xs)) old new f)

-- all of these lines were answered, and the input ends behind them
abbrev pub AllAnswered : World → World → TakenLines → Option (List ℕ) → Option (List ℕ) → Type 0
AllAnswered before after t old new = (t.end ≡ AtEnd) × Appends old new (answers before t.lines) × (after ≡ world_behind before t.lines)

-- all lines behind the second
abbrev pub RestRan : ℕ → Option (List ℕ) → Option (List ℕ) → Option (List ℕ) → World → World → Result (Unit {0}) ScriptFault → Type 0
RestRan most input old new before after (Ok u) = IfSome input (λ xs. AllAnswered before after (taken most (lines_of xs)) old new)
RestRan most input old new before after (Err f) = IfSome input
    (λ xs. EndsEarly AnyLines (answers before) (replies_and_totals before) (taken most (lines_of xs)) old new f)

-- the world that the second line opens, and what that line is answered
abbrev pub OpensWorld : ℕ → List ℕ → List ℕ → World → Type 0
OpensWorld sites second text world = (more : List (List ℕ)) → (replies_at sites (second ∷ more) ≡ text ++ answers world more)
    × (run_at sites (second ∷ more) ≡ text ++ replies_and_totals world more)

-- the second line, which gives the limit or is answered
abbrev pub OpenRan : ℕ → List ℕ → Option (List ℕ) → Option (List ℕ) → Result World ScriptFault → Type 0
OpenRan sites second old new (Ok world) = (text : List ℕ) × Appends old new text × OpensWorld sites second text world
OpenRan sites second old new (Err f) = IsOutFault f × ((more : List (List ℕ)) → AppendsFront old new (replies_at sites (second ∷ more)))

-- the second line and those behind it, of which this many may be there
abbrev pub SecondRan : ℕ → ℕ → List ℕ → Option (List ℕ) → Option (List ℕ) → Option (List ℕ) → Result (Unit {0}) ScriptFault → Type 0
SecondRan most sites second input old new (Ok u) = IfSome input (λ xs. ((taken most (lines_of xs)).end ≡ AtEnd)
    × Appends old new (run_at sites (second ∷ (taken most (lines_of xs)).lines)))
SecondRan most sites second input old new (Err f) = IfSome input
    (λ xs. EndsEarly AnyLines (λ lines. replies_at sites (second ∷ lines)) (λ lines. run_at sites (second ∷ lines)) (taken most (lines_of xs)) old new f)

-- the lines behind the first, of which this many may be there
abbrev pub SitesRan : ℕ → ℕ → Option (List ℕ) → Option (List ℕ) → Option (List ℕ) → Result (Unit {0}) ScriptFault → Type 0
SitesRan most sites input old new (Ok u) = IfSome input (λ xs. ((taken most (lines_of xs)).end ≡ AtEnd)
    × Appends old new (run_at sites (taken most (lines_of xs)).lines))
SitesRan most sites input old new (Err f) = IfSome input (λ xs. EndsEarly AnyLines (replies_at sites) (run_at sites) (taken most (lines_of xs)) old new f)

-- the first line
abbrev pub StartRan : Option (List ℕ) → Option (List ℕ) → Result (Option ℕ) ScriptFault → Type 0
StartRan input rest (Ok (Some n)) = Between input rest (λ xs ys. (first : List ℕ) × (lines_of xs ≡ first ∷ lines_of ys) × (length first ≤ longest_line)
    × (sites_from_line first ≡ Some n) × StartsWell (lines_of xs))
StartRan input rest (Ok None) = IfSome input (λ xs. (StartsWell (lines_of xs) → ⊥) × (BeginsTooLong (lines_of xs) → ⊥))
StartRan input rest (Err f) = IfSome input (λ xs. (more : ℕ) (out : Option (List ℕ))
    → EndsEarly MayGoOn replies script_of_lines (taken (suc more) (lines_of xs)) out out f)

-- A script: true where all of it was taken and what it prints went out, false where its first line is readable and gives no count of sites, and
-- `bad-line` alone went out.
abbrev pub ScriptRan : Option (List ℕ) → Option (List ℕ) → Option (List ℕ) → Result Bool ScriptFault → Type 0
ScriptRan input old new (Ok true) = IfSome input (λ xs. ((taken most_lines (lines_of xs)).end ≡ AtEnd) × StartsWell (lines_of xs) × Appends old new (script xs))
ScriptRan input old new (Ok false) = Appends old new bad_line × IfSome input (λ xs. (StartsWell (lines_of xs) → ⊥) × (BeginsTooLong (lines_of xs) → ⊥))
ScriptRan input old new (Err f) = IfSome input (λ xs. EndsEarly MayGoOn replies script_of_lines (taken most_lines (lines_of xs)) old new f)

-- what is told of it: the status, and at status 3 the line that names the fault, or a front of that line
abbrev pub ScriptTold : Option (List ℕ) → Option (List ℕ) → Result Bool ScriptFault → Status → Type 0
ScriptTold old new (Ok true) told = (told ≡ status.Done) × Keeps old new
ScriptTold old new (Ok false) told = (told ≡ status.Refused) × Keeps old new
ScriptTold old new (Err f) told = (told ≡ status.Failed) × AppendsFront old new (command_fault_line (of_script_fault f))

-- a script that came to something, which is told
abbrev pub WorldRan : Option (List ℕ) → Option (List ℕ) → Option (List ℕ) → Option (List ℕ) → Option (List ℕ) → Status → Type 0
WorldRan input out_old out_new err_old err_new told = (came : Result Bool ScriptFault) × ScriptRan input out_old out_new came
    × ScriptTold err_old err_new came told
