-- A list of steps, one after the other.
use Rattle.std.proofs.Common.{◌≡◌, ℕ, ◌+◌, ◌<◌, List, [], ◌∷◌, ◌++◌, refl, sym, ap, ◌∙◌, subst, length, take, get_or, map}
use Rattle.std.specs.Prelude.{slice_get, Result, Ok, IsSomeAnd}
use Rattle.std.proofs.lemmas.List.{take_more, map-append}
use Rattle.std.proofs.lemmas.Option.{slice_get_read}
use Rattle.world_steps.specs.declared.step.Step.{Step}
use Rattle.world_steps.specs.declared.step.Outcome.{Outcome}
use Rattle.world_steps.specs.declared.step.WorldFault.{WorldFault}
use Rattle.world_steps.specs.World.{World, after, run}
use Rattle.world_steps.specs.Outcomes.{outcome, outcomes, IsDue}
use Rattle.world_steps.proofs.Reached.{run-append}

outcomes-append : (steps more : List Step) (w : World) → outcomes (steps ++ more) w ≡ outcomes steps w ++ outcomes more (run steps w)
outcomes-append [] more w = refl
outcomes-append (step ∷ steps) more w = ap (λ (os : List (Result Outcome WorldFault)). outcome w step ∷ os) (outcomes-append steps more (after w step))

-- one more step
pub run_more : (steps : List Step) (k : ℕ) (step : Step) (w v : World) → k < length steps → step ≡ get_or steps k step → v ≡ run (take k steps) w
    → after v step ≡ run (take (k + 1) steps) w
run_more steps k step w v l is so_far =
    ap (λ (u : World). after u step) so_far
    ∙ ap (λ (s : Step). after (run (take k steps) w) s) is
    ∙ sym (run-append (take k steps) (get_or steps k step ∷ []) w)
    ∙ ap (λ (s : List Step). run s w) (sym (take_more steps k step l))

-- and what it is answered
pub outcomes_more : (steps : List Step) (k : ℕ) (step : Step) (w v : World) (before now : List Outcome) (answer : Outcome)
    → k < length steps → step ≡ get_or steps k step → v ≡ run (take k steps) w
    → map (λ (o : Outcome). let r : Result Outcome WorldFault = Ok o in r) before ≡ outcomes (take k steps) w
    → outcome v step ≡ Ok answer → now ≡ before ++ answer ∷ []
    → map (λ (o : Outcome). let r : Result Outcome WorldFault = Ok o in r) now ≡ outcomes (take (k + 1) steps) w
outcomes_more steps k step w v before now answer l is so_far answers given now_is =
    ap (map (λ (o : Outcome). let r : Result Outcome WorldFault = Ok o in r)) now_is
    ∙ map-append (λ (o : Outcome). let r : Result Outcome WorldFault = Ok o in r) before (answer ∷ [])
    ∙ (λ i. answers i ++ (sym given ∙ ap (λ (u : World). outcome u step) so_far ∙ ap (λ (s : Step). outcome (run (take k steps) w) s) is) i ∷ [])
    ∙ sym (outcomes-append (take k steps) (get_or steps k step ∷ []) w)
    ∙ ap (λ (s : List Step). outcomes s w) (sym (take_more steps k step l))

-- the step at a place is due its fault
pub due_at : (steps items : List Step) (k : ℕ) (step : Step) (w : World) (fault : WorldFault) → items ≡ steps → k < length items
    → step ≡ get_or items k step → IsDue w step fault
    → IsSomeAnd (slice_get steps k) (λ s. IsDue w s fault)
due_at steps items k step w fault same l is due =
    subst (λ (o : List Step). IsSomeAnd (slice_get o k) (λ s. IsDue w s fault)) same
    (subst (λ o. IsSomeAnd o (λ s. IsDue w s fault)) (sym (slice_get_read items (length items) k step refl l is)) due)
