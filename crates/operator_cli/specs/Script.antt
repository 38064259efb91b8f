-- What a script prints. (Our own.)
use Rattle.std.specs.Prelude.{ℕ, ◌-◌, List, [], ◌∷◌, ◌++◌, Option, Some, None, codes}
use Rattle.std.specs.Fmt.{decimal}
use Rattle.std.specs.List.{flat_map}
use Rattle.book_core.specs.Limits.{greatest_limit}
use Rattle.plain_words.specs.Input.{lines_of}
use Rattle.world_steps.specs.World.{World, opening, totals_of, events_of}
use Rattle.local_rights.specs.declared.seat_totals.Totals.{Totals}
use Rattle.desk_lines.specs.Reading.{line_of, sites_from_line, limit_from_line}
use Rattle.desk_lines.specs.declared.answered.Answered.TheVariants.{Unread}
use Rattle.desk_lines.specs.Replies.{reply_line}
use Rattle.desk_lines.specs.ScriptReplies.{script_reply_line}
use Rattle.operator_cli.specs.Answering.{answer_to}

-- the numbers of an event over all sites
abbrev pub total_line : List ℕ → Totals → List ℕ
total_line event t = event ++ codes " released " ++ decimal t.released ++ codes " sold " ++ decimal t.sold ++ codes " refunded " ++ decimal t.refunded ++
    codes " outstanding " ++ decimal (t.sold - t.refunded) ++ 10 ∷ []

-- a line for each event that a site knows
abbrev pub total_lines : World → List ℕ
total_lines w = flat_map (λ event. total_line event (totals_of w event)) (events_of w)

-- the reply line of each of these lines in turn
abbrev pub answers : World → List (List ℕ) → List ℕ
answers w [] = []
answers w (line ∷ lines) = script_reply_line (answer_to w (line_of line)).0 ++ answers (answer_to w (line_of line)).1 lines

-- the world behind them
abbrev pub world_behind : World → List (List ℕ) → World
world_behind w [] = w
world_behind w (line ∷ lines) = world_behind (answer_to w (line_of line)).1 lines

-- and then the totals
abbrev pub replies_and_totals : World → List (List ℕ) → List ℕ
replies_and_totals w lines = answers w lines ++ total_lines (world_behind w lines)

abbrev pub bad_line : List ℕ
bad_line = reply_line Unread

-- the second line is the first to be answered, unless it gives the limit
abbrev pub opened_by : ℕ → Option ℕ → List ℕ → List (List ℕ) → World × List (List ℕ)
opened_by sites None second lines = (opening sites greatest_limit, second ∷ lines)
opened_by sites (Some limit) second lines = (opening sites limit, lines)

-- the world that the lines after the first open, and those of them that are answered
abbrev pub opened_world : ℕ → List (List ℕ) → World × List (List ℕ)
opened_world sites [] = (opening sites greatest_limit, [])
opened_world sites (second ∷ lines) = opened_by sites (limit_from_line second) second lines

-- the replies to the lines after the first
abbrev pub replies_at : ℕ → List (List ℕ) → List ℕ
replies_at sites lines = answers (opened_world sites lines).0 (opened_world sites lines).1

-- and then the totals
abbrev pub run_at : ℕ → List (List ℕ) → List ℕ
run_at sites lines = replies_and_totals (opened_world sites lines).0 (opened_world sites lines).1

abbrev pub replies_started : Option ℕ → List (List ℕ) → List ℕ
replies_started None lines = bad_line
replies_started (Some sites) lines = replies_at sites lines

abbrev pub run_started : Option ℕ → List (List ℕ) → List ℕ
run_started None lines = bad_line
run_started (Some sites) lines = run_at sites lines

-- what the lines of a script are answered, without the totals
abbrev pub replies : List (List ℕ) → List ℕ
replies [] = []
replies (first ∷ lines) = replies_started (sites_from_line first) lines

-- and with them
abbrev pub script_of_lines : List (List ℕ) → List ℕ
script_of_lines [] = bad_line
script_of_lines (first ∷ lines) = run_started (sites_from_line first) lines

-- what a script prints
unfoldable pub script : List ℕ → List ℕ
script input = script_of_lines (lines_of input)
