-- What a line is answered in a world, and the world after it. (Our own.)
use Rattle.std.specs.Prelude.{ℕ, Bool, List, Option, Some, None, Result, Ok, Err, if◌then◌else◌, nat_lt}
use Rattle.rights_lattice.specs.State.{knows}
use Rattle.local_rights.specs.OpenSeats.{view_in}
use Rattle.book_core.specs.History.{state_of}
use Rattle.book_core.specs.Decision.{own_left}
use Rattle.world_steps.specs.World.{World, count, history_at, office_at, after}
use Rattle.world_steps.specs.Outcomes.{outcome}
use Rattle.world_steps.specs.declared.step.Step.{Step}
use Rattle.world_steps.specs.declared.step.Outcome.{Outcome}
use Rattle.world_steps.specs.declared.step.WorldFault.{WorldFault}
use Rattle.world_steps.specs.declared.step.WorldFault.TheVariants as fault
use Rattle.local_rights.specs.declared.seat_totals.ViewTotals.{ViewTotals}
use Rattle.desk_lines.specs.declared.script.ScriptLine.{ScriptLine}
use Rattle.desk_lines.specs.declared.script.ScriptLine.TheVariants.{Make, Left, Totals as ScriptTotals}
use Rattle.desk_lines.specs.declared.script_answer.ScriptAnswer.{ScriptAnswer}
use Rattle.desk_lines.specs.declared.script_answer.ScriptAnswer.TheVariants.{Made, LeftIs, TotalsAre, NotKnown, NoSuchSite, NoSuchMessage, Unread}

-- a site's view of an event
abbrev pub is_known_at : World → ℕ → List ℕ → Bool
is_known_at w i event = knows (state_of (history_at w i)).names event

abbrev pub left_at : World → ℕ → List ℕ → ℕ
left_at w i event = own_left (office_at w i) (history_at w i) event

abbrev pub totals_at : World → ℕ → List ℕ → ViewTotals
totals_at w i event = view_in (state_of (history_at w i)).cells event

-- the answer to a look, where the site is there and knows the event
abbrev pub looked : World → ℕ → List ℕ → ScriptAnswer → ScriptAnswer
looked w i event answer = if nat_lt i (count w) then (if is_known_at w i event then answer else NotKnown) else NoSuchSite

abbrev pub left_answer : World → ℕ → List ℕ → ScriptAnswer
left_answer w i event = looked w i event (LeftIs (left_at w i event))

abbrev pub totals_answer : World → ℕ → List ℕ → ScriptAnswer
totals_answer w i event = looked w i event (TotalsAre (totals_at w i event))

-- want of memory is no outcome: what it is given here, nothing reads
abbrev pub outcome_answer : Result Outcome WorldFault → ScriptAnswer
outcome_answer (Ok o) = Made o
outcome_answer (Err fault.NoSite) = NoSuchSite
outcome_answer (Err fault.NoMessage) = NoSuchMessage
outcome_answer (Err fault.Memory) = Unread

abbrev pub step_answer : World → Step → ScriptAnswer × World
step_answer w s = (outcome_answer (outcome w s), after w s)

abbrev pub answer_to : World → Option ScriptLine → ScriptAnswer × World
answer_to w None = (Unread, w)
answer_to w (Some (Make s)) = step_answer w s
answer_to w (Some (Left i event)) = (left_answer w i event, w)
answer_to w (Some (ScriptTotals i event)) = (totals_answer w i event, w)
