-- What scripts print, over the definitions alone. Our own.
use Rattle.std.specs.Prelude.{◌≡◌, ℕ, ◌+◌, ◌≤◌, List, [], ◌∷◌, ◌++◌, replicate, Option, Some, None}
use Rattle.world_steps.specs.World.{World, totals_of, reached}
use Rattle.world_steps.specs.declared.step.Step.{Step}
use Rattle.local_rights.specs.declared.seat_totals.Totals.{Totals}
use Rattle.desk_lines.specs.declared.script.ScriptLine.{ScriptLine}
use Rattle.desk_lines.specs.declared.script.ScriptLine.TheVariants.{Make, Left, Totals as ScriptTotals}
use Rattle.desk_lines.specs.Grammar.{IsSites}
use Rattle.desk_lines.specs.Reading.{line_of}
use Rattle.operator_cli.specs.Script.{world_behind, opened_world, replies_at, run_at, total_lines}

-- the step that a line makes, if it makes one
abbrev pub step_of : Option ScriptLine → List Step
step_of None = []
step_of (Some (Make s)) = s ∷ []
step_of (Some (Left i event)) = []
step_of (Some (ScriptTotals i event)) = []

abbrev pub steps_of : List (List ℕ) → List Step
steps_of [] = []
steps_of (line ∷ lines) = step_of (line_of line) ++ steps_of lines

-- the world behind the lines of a script after its first
abbrev pub world_at : ℕ → List (List ℕ) → World
world_at sites lines = world_behind (opened_world sites lines).0 (opened_world sites lines).1

-- the steps of its lines lead there
abbrev pub ScriptsMakeSteps : Type 0
ScriptsMakeSteps = (sites : ℕ) (lines : List (List ℕ))
    → (limit : ℕ) × (world_at sites lines ≡ reached (replicate sites limit) (steps_of (opened_world sites lines).1))

-- behind the replies stand the totals of that world
abbrev pub TotalsAreThose : Type 0
TotalsAreThose = (sites : ℕ) (lines : List (List ℕ)) → run_at sites lines ≡ replies_at sites lines ++ total_lines (world_at sites lines)

-- the tickets outstanding are a difference that is not cut off at 0, and no more than the seats released
abbrev pub IsNotOversold : Totals → Type 0
IsNotOversold t = (t.refunded ≤ t.sold) × (t.sold ≤ t.released + t.refunded)

-- no total that a script prints is oversold
abbrev pub TotalsAreNotOversold : Type 0
TotalsAreNotOversold = (sites : ℕ) (lines : List (List ℕ)) (event : List ℕ) → IsSites sites → IsNotOversold (totals_of (world_at sites lines) event)
