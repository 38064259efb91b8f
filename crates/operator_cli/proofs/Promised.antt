-- What a script prints is of a world that its steps lead to.
use Rattle.std.proofs.Common.{◌≡◌, ℕ, ◌≤◌, List, [], ◌∷◌, ◌++◌, length, Option, Some, None, refl, sym, ◌∙◌, subst, arith}
use Rattle.world_steps.specs.declared.step.Step.{Step}
use Rattle.world_steps.specs.World.{World, opening, run, reached, totals_of, count}
use Rattle.rights_lattice.specs.Sums.{max_sites}
use Rattle.world_steps.proofs.Promised as promised
use Rattle.world_steps.proofs.Reached.{few_reached, sound_reached}
use Rattle.desk_lines.specs.declared.script.ScriptLine.{ScriptLine}
use Rattle.desk_lines.specs.declared.script.ScriptLine.TheVariants.{Make, Left, Totals}
use Rattle.desk_lines.specs.Grammar.{IsSites}
use Rattle.desk_lines.specs.Reading.{line_of, limit_from_line}
use Rattle.operator_cli.specs.Answering.{answer_to}
use Rattle.book_core.specs.Limits.{greatest_limit}
use Rattle.operator_cli.specs.Script.{world_behind, opened_world, opened_by}
use Rattle.operator_cli.specs.Laws.{step_of, steps_of, ScriptsMakeSteps, IsNotOversold, TotalsAreNotOversold}
use Rattle.std.specs.Prelude.{replicate}
use Rattle.std.proofs.lemmas.List.{length-replicate}

one_step : (o : Option ScriptLine) (w : World) (more : List Step) → run (step_of o ++ more) w ≡ run more (answer_to w o).1
one_step None w more = refl
one_step (Some (Make s)) w more = refl
one_step (Some (Left i event)) w more = refl
one_step (Some (Totals i event)) w more = refl

behind_steps : (w : World) (lines : List (List ℕ)) → world_behind w lines ≡ run (steps_of lines) w
behind_steps w [] = refl
behind_steps w (line ∷ lines) = behind_steps (answer_to w (line_of line)).1 lines ∙ sym (one_step (line_of line) w (steps_of lines))

opened_steps : (sites : ℕ) (second : List ℕ) (lines : List (List ℕ)) (o : Option ℕ)
    → (limit : ℕ) × (world_behind (opened_by sites o second lines).0 (opened_by sites o second lines).1 ≡ reached (replicate sites limit)
    (steps_of (opened_by sites o second lines).1))
opened_steps sites second lines None = (greatest_limit, behind_steps (opening sites greatest_limit) (second ∷ lines))
opened_steps sites second lines (Some limit) = (limit, behind_steps (opening sites limit) lines)

pub scripts_make_steps : ScriptsMakeSteps
scripts_make_steps sites [] = (greatest_limit, refl)
scripts_make_steps sites (second ∷ lines) = opened_steps sites second lines (limit_from_line second)

fits : (n m : ℕ) → IsSites n → m ≡ n → m ≤ max_sites
unfolding max_sites
fits n m h is = omega arith

pub totals_are_not_oversold : TotalsAreNotOversold
totals_are_not_oversold sites lines event h =
    let w = scripts_make_steps sites lines in
    let limits = replicate sites w.0 in
    let steps = steps_of (opened_world sites lines).1 in
    let sound = sound_reached limits steps in
    let few : count (reached limits steps) ≤ max_sites = few_reached limits steps (fits sites (length limits) h (length-replicate sites w.0)) in
    subst (λ (v : World). IsNotOversold (totals_of v event)) (sym w.1)
    (promised.refunds_within_sales (reached limits steps) sound event, omega (arith, promised.never_oversold (reached limits steps) sound few event))
