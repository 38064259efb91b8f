-- Each run of sites is a list of steps of a world.
use Rattle.std.proofs.Common.{◌≡◌, inl, inr, ℕ, List, [], ◌∷◌, ◌++◌, Some, refl, sym, ap, ◌∙◌, subst, length}
use Rattle.std.specs.Prelude.{slice_get, Ok, Err}
use Rattle.rights_lattice.specs.Sums.{max_sites}
use Rattle.book_core.specs.declared.plan.GrowFault.TheVariants as grow
use Rattle.book_core.specs.Decision.{SiteConfig}
use Rattle.site_exchange.specs.declared.message.Message.{Message}
use Rattle.site_exchange.specs.declared.message.TakeFault.TheVariants as take
use Rattle.site_exchange.specs.Taking.{site_after, with_entry, with_given}
use Rattle.site_desk.specs.declared.fault.AskFault.TheVariants as ask
use Rattle.site_desk.specs.SiteView.{SiteView, entry_in, growth_in, site_of, verdict_in}
use Rattle.world_steps.specs.declared.step.Step.{Step}
use Rattle.world_steps.specs.World.{World, begun, run}
use Rattle.site_desk.specs.Calls.{Keeping}
use Rattle.site_runs.specs.Runs.{Call, Asks, AsksAll, Takes, Grows, Gives, Restarts, Crashes, CallAt, Sites, Happens, Runs, WasTried, moved, given_by}
use Rattle.site_runs.specs.Steps.{RunsAreSteps, Shows}
use Rattle.site_runs.proofs.Moves.{found_after, shows_moved}
use Rattle.site_runs.proofs.Asking.{ask_all_steps}
use Rattle.site_runs.proofs.OneStep.{Made, IsHere, by_none, is_here, run-append, ask_step, grow_step, take_step, next_step}
use Rattle.site_runs.proofs.Restarting.{CanRestart, OfRequest, OfMessage, OfGrowth, asked_all_keeps, came_keeps, can_stays, restart_step, started_can, crash_step}
use Rattle.site_runs.proofs.Beginning.{are_begun, few_begun, limits_of, counts_of, shows_begun}

-- no call changes a site's number, its limit or its first count
pub office_stays : {K : Type 0} (k : Keeping K) (given : List Message) (old : SiteView K) (call : Call) (new : SiteView K) → Happens k given old call new
    → new.book.office ≡ old.book.office
office_stays k given old (Asks number request answer) new h = h.call.office
office_stays k given old (AsksAll requests result) new h = h.office
office_stays k given old (Takes message answer) new h = h.1.call.office
office_stays k given old (Grows sites answer) new h = h.call.office
office_stays {K} k given old (Gives to answer) new h = ap (λ (v : SiteView K). v.book.office) h.same
office_stays k given old Restarts new h = h.starts.office
office_stays k given old (Crashes in_hand stored) new h = h.2.office

-- what a stop may leave behind the call
pub keeps : {K : Type 0} (k : Keeping K) (given : List Message) (old : SiteView K) (call : Call) (new : SiteView K) → Happens k given old call new
    → CanRestart k given old → CanRestart k given new
keeps k given old (Asks number request answer) new h can =
    came_keeps k given old new (OfRequest number request) (with_entry (entry_in old.book number request) (site_of old)) ask.Closed ask.Store answer h.call
    (λ e. cc) (λ e. tt) can
keeps k given old (AsksAll requests result) new h can = asked_all_keeps k given old new requests result h can
keeps k given old (Takes message answer) new h can =
    came_keeps k given old new (OfMessage message) (site_after (verdict_in old.book message) message (site_of old)) take.Closed take.Store answer h.1.call
    (λ e. cc) (λ e. h.0 (subst WasTried (sym e) tt)) can
keeps k given old (Grows sites answer) new h can =
    came_keeps k given old new (OfGrowth sites) (with_entry (growth_in old.book sites) (site_of old)) grow.Closed grow.Store answer h.call (λ e. cc)
    (λ e. tt) can
keeps k given old (Gives to answer) new h can = subst (CanRestart k given) (sym h.same) can
keeps k given old Restarts new h can = started_can k given old new new.book.history h.starts
keeps k given old (Crashes in_hand stored) new h can = started_can k given old new new.book.history h.2

-- the steps of a call
pub steps_of : {K : Type 0} (k : Keeping K) (w : World) (i : ℕ) (old : SiteView K) (call : Call) (new : SiteView K) → max_sites ≡ length w.sites
    → old.book.office.me ≡ i → IsHere w i old → CanRestart k w.sent old
    → Happens k w.sent old call new → Made w i (site_of new) (given_by call)
steps_of k w i old (Asks number request (Ok answer)) new whole me here can h = ask_step w i old new number request here h.call.made
steps_of k w i old (Asks number request (Err fault)) new whole me here can h = by_none w i (site_of new) (h.call.unchanged ∙ sym here.site)
steps_of k w i old (AsksAll requests (Ok answers)) new whole me here can h = ask_all_steps w i old new requests answers here h.answered h.acked
steps_of k w i old (AsksAll requests (Err fault)) new whole me here can h = by_none w i (site_of new)
    ((λ j. record { history = h.unchanged j; acked = h.acked j }) ∙ sym here.site)
steps_of k w i old (Takes message (Ok taken)) new whole me here can h = take_step w i old new message taken me here (h.0 tt) h.1.taken h.1.call.made
steps_of k w i old (Takes message (Err fault)) new whole me here can h = by_none w i (site_of new) (h.1.call.unchanged ∙ sym here.site)
steps_of k w i old (Grows sites (Ok done)) new whole me here can h = grow_step w i old new sites (sym whole) here h.call.made
steps_of k w i old (Grows sites (Err fault)) new whole me here can h = by_none w i (site_of new) (h.call.unchanged ∙ sym here.site)
steps_of k w i old (Gives to (Ok message)) new whole me here can h = next_step w i old new to message me here h.same h.due
steps_of {K} k w i old (Gives to (Err fault)) new whole me here can h = by_none w i (site_of new) (ap (λ (v : SiteView K). site_of v) h.same ∙ sym here.site)
steps_of k w i old Restarts new whole me here can h = restart_step k w i old new (sym whole) here can h
steps_of k w i old (Crashes in_hand stored) new whole me here can h = crash_step w i old new in_hand stored (sym whole) here h.0 h.1 h.2.acked

abbrev pub CanAll : {K : Type 0} → Keeping K → Sites K → Type 0
CanAll {K} k s = (i : ℕ) (site : SiteView K) → slice_get s.books i ≡ Some site → CanRestart k s.given site

can_moved : {K : Type 0} (k : Keeping K) (s : Sites K) (e : CallAt K) (old : SiteView K) → CanAll k s → slice_get s.books e.site ≡ Some old
    → Happens k s.given old e.call e.after → CanAll k (moved s e)
can_moved {K} k s e old can found h j x is = elim (found_after s.books e.site j e.after x is) [
  | inl p ↦ subst (CanRestart k (with_given s.given (given_by e.call))) (sym p.1)
      (can_stays k s.given (given_by e.call) e.after (keeps k s.given old e.call e.after h (can e.site old found)))
  | inr p ↦ can_stays k s.given (given_by e.call) x (can j x p.1)
]

-- steps that lead to a world that shows the sites at the end
pub list_of : {K : Type 0} (k : Keeping K) (calls : List (CallAt K)) (s end : Sites K) (w : World) → Shows w s → CanAll k s → Runs k calls s end
    → (steps : List Step) × Shows (run steps w) end
list_of k [] s end w shows can runs = ([], subst (Shows w) (sym runs) shows)
list_of {K} k (e ∷ calls) s end w shows can runs =
    let old : SiteView K = runs.0 in
    let found : slice_get s.books e.site ≡ Some old = runs.1 in
    let h : Happens k s.given old e.call e.after = runs.2 in
    let me : old.book.office.me ≡ e.site = sym (ap (λ (o : SiteConfig). o.me) (shows.office e.site old found)) in
    let made : Made w e.site (site_of e.after) (given_by e.call) =
    steps_of k w e.site old e.call e.after (sym shows.count) me (is_here w s e.site old shows found)
    (subst (λ ms. CanRestart k ms old) (sym shows.sent) (can e.site old found)) (subst (λ ms. Happens k ms old e.call e.after) (sym shows.sent) h) in
    let now : Shows (run made.steps w) (moved s e) = subst (λ (v : World). Shows v (moved s e)) (sym made.made)
    (shows_moved w s e old shows found (office_stays k s.given old e.call e.after h)) in
    let rest = list_of k calls (moved s e) end (run made.steps w) now (can_moved k s e old can found h) runs.3 in
    (made.steps ++ rest.0, subst (λ (v : World). Shows v end) (sym (run-append made.steps rest.0 w)) rest.1)

pub runs_are_steps : {K : Type 0} (k : Keeping K) → RunsAreSteps k
runs_are_steps {K} k calls begin end are runs =
    let list = list_of k calls begin end (begun (limits_of begin.books) (counts_of begin.books)) (shows_begun k begin are) can runs in
    record {
      limits = limits_of begin.books;
      counts = counts_of begin.books;
      are = are_begun k begin are;
      few = few_begun k begin are;
      steps = list.0;
      shows = list.1;
    }
  where
    can : CanAll k begin
    can i site found = record { opened = λ q trusted. (are.each i site found).rests trusted; shut = λ q. cc (q, (are.each i site found).opened) }
