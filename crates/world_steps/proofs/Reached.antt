-- The worlds that steps lead to.
use Rattle.std.proofs.Common.{◌≡◌, ℕ, ◌≤◌, Bool, true, false, cond, ◌&&◌, List, [], ◌∷◌, ◌++◌, Option, Some, None, refl, sym, ap, ◌∙◌, subst, arith, length-set}
use Rattle.std.specs.Prelude.{nat_lt, slice_get, length}
use Rattle.std.proofs.lemmas.List.{length-replicate, get_or_past}
use Rattle.site_exchange.specs.declared.message.Message.{Message}
use Rattle.site_exchange.specs.Exchange.{SitePart, next, receiver}
use Rattle.site_exchange.specs.Taking.{with_entry, site_after, restarted, stopped_with}
use Rattle.book_core.specs.declared.entry.Entry.{Entry}
use Rattle.rights_lattice.specs.Sums.{max_sites}
use Rattle.world_steps.specs.declared.step.Step.{Step}
use Rattle.world_steps.specs.declared.step.Step.TheVariants.{Ask, Send, Deliver, Restart, Stop, Grow}
use Rattle.world_steps.specs.World.{is_there, IsReached, World, count, run, after, opened, begun, AreBegun, reached, no_site, site_numbered, history_at, office_at, at_site, are_peers, entered, stopped_in, sends, asks, grows, entry_of_input, judged, delivered}
use Rattle.world_steps.proofs.Worlds.{Sound}
use Rattle.world_steps.proofs.Steps.{sound_after, sound_run, sound_opened, sound_begun, may_grow, may_store}
use Rattle.world_steps.proofs.Widening.{few_entered}

few_either : (b : Bool) (u w : World) → count u ≤ max_sites → count w ≤ max_sites → count (cond b u w) ≤ max_sites
few_either true u w there here = there
few_either false u w there here = here

few_at : (w : World) (i : ℕ) (site : SitePart) → count w ≤ max_sites → count (at_site w i site) ≤ max_sites
few_at w i site few = omega (arith, few, length-set w.sites i site)

few_given : (o : Option Message) (w : World) → count w ≤ max_sites → count (delivered w o) ≤ max_sites
few_given None w few = few
few_given (Some message) w few = few_at w (receiver message) (site_after (judged w message) message (site_numbered w (receiver message))) few

few_stopped : (w : World) (i : ℕ) (entry : Option Entry) (stored : Bool)
    → (stored ≡ true → count (entered entry i (stopped_with entry true (site_numbered w i)) w) ≤ max_sites) → count w ≤ max_sites
    → count (stopped_in w i entry stored) ≤ max_sites
few_stopped w i entry true there few = there refl
few_stopped w i entry false there few = few_at w i (restarted (site_numbered w i)) few

-- no step adds more sites than there can be
pub few_after : (w : World) (step : Step) → Sound w → count w ≤ max_sites → count (after w step) ≤ max_sites
few_after w (Ask i number request) sound few =
    let site : SitePart = with_entry (asks w i number request) (site_numbered w i) in
    few_either (nat_lt i (count w)) (at_site w i site) w (few_at w i site few) few
few_after w (Send i j) sound few = few_either (are_peers w i j) (sends (next i (site_numbered w i) j) w) w few few
few_after w (Deliver index) sound few = few_given (slice_get w.sent index) w few
few_after w (Restart i) sound few = few_either (nat_lt i (count w)) (at_site w i (restarted (site_numbered w i))) w
    (few_at w i (restarted (site_numbered w i)) few) few
few_after w (Stop i in_hand stored) sound few =
    let entry : Option Entry = entry_of_input (office_at w i) (history_at w i) w.sent in_hand in
    few_either (nat_lt i (count w) && is_there w.sent in_hand) (stopped_in w i entry stored) w
    (few_stopped w i entry stored (λ is. few_entered w i entry (stopped_with entry true (site_numbered w i)) (may_store w i in_hand sound) few) few) few
few_after w (Grow i sites) sound few =
    let site : SitePart = with_entry (grows w i sites) (site_numbered w i) in
    few_either (nat_lt i (count w)) (entered (grows w i sites) i site w) w (few_entered w i (grows w i sites) site (may_grow w i sites sound) few) few

few_run : (steps : List Step) (w : World) → Sound w → count w ≤ max_sites → count (run steps w) ≤ max_sites
few_run [] w sound few = few
few_run (step ∷ steps) w sound few = few_run steps (after w step) (sound_after w step sound) (few_after w step sound few)

pub sound_reached : (limits : List ℕ) (steps : List Step) → Sound (reached limits steps)
sound_reached limits steps = sound_run steps (opened limits) (sound_opened limits)

pub sound_from : (limits counts : List ℕ) (steps : List Step) → AreBegun limits counts → Sound (run steps (begun limits counts))
sound_from limits counts steps are = sound_run steps (begun limits counts) (sound_begun limits counts are)

pub few_from : (limits counts : List ℕ) (steps : List Step) → AreBegun limits counts → length limits ≤ max_sites
    → count (run steps (begun limits counts)) ≤ max_sites
few_from limits counts steps are few =
    few_run steps (begun limits counts) (sound_begun limits counts are) (omega (arith, few, length-replicate (length limits) no_site))

pub few_reached : (limits : List ℕ) (steps : List Step) → length limits ≤ max_sites → count (reached limits steps) ≤ max_sites
few_reached limits steps few =
    few_run steps (opened limits) (sound_opened limits) (omega (arith, few, length-replicate (length limits) no_site))

-- a site that is not there has no history
pub no_history : (w : World) (i : ℕ) → count w ≤ i → history_at w i ≡ []
no_history w i l = ap (λ (site : SitePart). site.history) (get_or_past w.sites i no_site l)

pub run-append : (steps more : List Step) (w : World) → run (steps ++ more) w ≡ run more (run steps w)
run-append [] more w = refl
run-append (step ∷ steps) more w = run-append steps more (after w step)

-- a step from a reached world leads to one
pub reached_after : (w : World) (step : Step) → IsReached w → IsReached (after w step)
reached_after w step h = (h.0, h.1, h.2 ++ step ∷ [], ap (λ v. after v step) h.3 ∙ sym (run-append h.2 (step ∷ []) (opened h.0)))

-- and so does a list of steps
pub reached_run : (steps : List Step) (w : World) → IsReached w → IsReached (run steps w)
reached_run [] w h = h
reached_run (step ∷ steps) w h = reached_run steps (after w step) (reached_after w step h)

pub sound_in : (w : World) → IsReached w → Sound w
sound_in w h = subst Sound (sym h.3) (sound_reached h.0 h.2)

pub count_in : (w : World) → IsReached w → count w ≤ max_sites
count_in w h = omega (arith, ap count h.3, few_reached h.0 h.2 h.1)
