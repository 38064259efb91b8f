-- What each kind of step does, site by site.
use Rattle.std.proofs.Common.{◌≡◌, ℕ, zero, suc, ◌<◌, ◌≤◌, Bool, true, cond, not, ◌&&◌, List, [], ◌∷◌, Option, Some, None, refl, sym, ap, ◌∙◌, subst, arith, length, get_or, set}
use Rattle.std.specs.Prelude.{slice_get, nat_lt, ◌==◌, Result, Ok, Err, IsOk, IfOk, IfErr, OnOk, OnErr}
use Rattle.std.proofs.lemmas.Bool.{lt-ltb, ltb-true, and_parts}
use Rattle.request_ledger.specs.declared.request.Request.{Request}
use Rattle.book_core.specs.declared.entry.Entry.{Entry}
use Rattle.book_core.specs.Decision.{SiteConfig, decision, entry_of_ask, sites_of}
use Rattle.book_core.specs.Plans.{IsFresh}
use Rattle.site_exchange.specs.declared.message.Message.{Message}
use Rattle.site_exchange.specs.Exchange.{SitePart, zeros, next}
use Rattle.site_exchange.specs.Taking.{with_entry, restarted, stopped_with}
use Rattle.world_steps.specs.NodeView.{NodeView}
use Rattle.world_steps.specs.declared.step.Input.{Input}
use Rattle.world_steps.specs.declared.step.Step.{Step}
use Rattle.world_steps.specs.declared.step.Step.TheVariants.{Ask, Send, Deliver, Restart, Stop}
use Rattle.world_steps.specs.declared.step.Outcome.{Outcome}
use Rattle.world_steps.specs.declared.step.Outcome.TheVariants as outcomes
use Rattle.world_steps.specs.declared.step.WorldFault.{WorldFault}
use Rattle.world_steps.specs.declared.step.WorldFault.TheVariants.{NoSite, NoMessage, Memory}
use Rattle.world_steps.specs.Nodes.{site_of}
use Rattle.world_steps.specs.Outcomes.{answered, outcome, delivered_as, IsDue, MayWantMemory, MayStore}
use Rattle.world_steps.specs.Reaching.{world_of, IsKept}
use Rattle.world_steps.specs.World.{World, count, site_numbered, history_at, office_at, count_at, at_site, are_peers, sends, asks, entry_of_input, is_there, stopped_in, after, IsGrowth, IsReached}
use Rattle.site_exchange.specs.Taking.{with_given}
use Rattle.world_steps.proofs.Reached.{reached_after, sound_in}
use Rattle.world_steps.proofs.Widening.{input_adds_none}
use Rattle.world_steps.proofs.Sites.{IsMade, at_place, made_at, same_world, kept_same, length-sites}

-- what a step gives that changed one site, or nothing
pub record IsGiven (nodes : List NodeView) (sent : List Message) (now : List NodeView) (step : Step) (result : Result Outcome WorldFault) : Type 0 where
  pub kept : IsKept now sent
  pub outcome : IfOk result (λ o. outcome (world_of nodes sent) step ≡ Ok o)
  pub due : IfErr result (IsDue (world_of nodes sent) step)
  pub made : OnOk result (world_of now sent ≡ after (world_of nodes sent) step)
  pub unchanged : OnErr result (world_of now sent ≡ world_of nodes sent)

-- a step that is not refused may be told of want of memory
pub due_memory : (w : World) (step : Step) (answer : Outcome) (fault : WorldFault) → outcome w step ≡ Ok answer → fault ≡ Memory → IsDue w step fault
due_memory w step answer fault is memory =
    subst (IsDue w step) (sym memory) (subst (λ (r : Result Outcome WorldFault). IsOk r) (sym is) refl)

answered_in : World → ℕ → ℕ → Request → Result Outcome WorldFault
answered_in w i number request = Ok (answered (decision (office_at w i) (history_at w i) number request))

answered_at : (w : World) (i number : ℕ) (request : Request) → i < count w
    → outcome w (Ask i number request) ≡ Ok (answered (decision (office_at w i) (history_at w i) number request))
unfolding answered_in
answered_at w i number request l = ap (λ b. cond b (answered_in w i number request) (Err NoSite)) (lt-ltb i (count w) l)

pub ask_gives : (nodes : List NodeView) (sent : List Message) (i number : ℕ) (request : Request) (old new : NodeView) (result : Result Outcome WorldFault)
    → IsKept nodes sent → i < length nodes → old ≡ get_or nodes i old → new.book.office ≡ old.book.office
    → IfOk result (λ o. o ≡ answered (decision old.book.office old.book.history number request)) → IfErr result (λ fault. fault ≡ Memory)
    → OnOk result (site_of new ≡ with_entry (entry_of_ask old.book.office old.book.history number request) (site_of old))
    → OnErr result (site_of new ≡ site_of old)
    → IsGiven nodes sent (set nodes i new) (Ask i number request) result
ask_gives nodes sent i number request old new (Ok o) kept l is office answer memory entered same =
    let w : World = world_of nodes sent in
    let here = at_place nodes sent i old kept l is in
    let site_is : site_of new ≡ with_entry (asks w i number request) (site_numbered w i) =
    entered
    ∙ ap (λ (f : SiteConfig). with_entry (entry_of_ask f old.book.history number request) (site_of old)) (sym here.office)
    ∙ ap (λ (s : SitePart). with_entry (entry_of_ask (office_at w i) s.history number request) s) (sym here.site) in
    let after_is : after w (Ask i number request) ≡ at_site w i (site_of new) =
    ap (λ b. cond b (at_site w i (with_entry (asks w i number request) (site_numbered w i))) w) (lt-ltb i (count w) here.below)
    ∙ ap (at_site w i) (sym site_is) in
    let made = made_at nodes sent sent i old new (Ask i number request) kept here.found office after_is in
    record {
      kept = made.kept;
      outcome =
          answered_at w i number request here.below
          ∙ ap (λ (s : SitePart). let r : Result Outcome WorldFault = Ok (answered (decision (office_at w i) s.history number request)) in r) here.site
          ∙ ap (λ (f : SiteConfig). let r : Result Outcome WorldFault = Ok (answered (decision f old.book.history number request)) in r) here.office
          ∙ ap (λ (a : Outcome). let r : Result Outcome WorldFault = Ok a in r) (sym answer);
      due = tt;
      made = made.made;
      unchanged = tt;
    }
ask_gives nodes sent i number request old new (Err fault) kept l is office answer memory entered same =
    let w : World = world_of nodes sent in
    let here = at_place nodes sent i old kept l is in
    record {
      kept = kept_same nodes sent i old new kept here.found office same;
      outcome = tt;
      due = due_memory w (Ask i number request) (answered (decision (office_at w i) (history_at w i) number request)) fault
          (answered_at w i number request here.below) memory;
      made = tt;
      unchanged = same_world nodes sent i old new here.found office same;
    }

-- a request that wants memory is a fresh one
pub ask_wants : (nodes : List NodeView) (sent : List Message) (i number : ℕ) (request : Request) (old : NodeView) → IsKept nodes sent → i < length nodes
    → old ≡ get_or nodes i old
    → IsFresh (decision old.book.office old.book.history number request) → MayWantMemory (world_of nodes sent) (Ask i number request)
ask_wants nodes sent i number request old kept l is fresh =
    let w : World = world_of nodes sent in
    let here = at_place nodes sent i old kept l is in
    subst (λ (s : SitePart). IsFresh (decision (office_at w i) s.history number request)) (sym here.site)
    (subst (λ (f : SiteConfig). IsFresh (decision f old.book.history number request)) (sym here.office) fresh)

-- a stop that wants memory stores what wants it
pub stop_wants : (nodes : List NodeView) (sent : List Message) (i : ℕ) (in_hand : Input) (stored : Bool) (old : NodeView) → IsKept nodes sent
    → i < length nodes → old ≡ get_or nodes i old
    → stored ≡ true → MayStore old.book.office old.book.history sent in_hand → MayWantMemory (world_of nodes sent) (Stop i in_hand stored)
stop_wants nodes sent i in_hand stored old kept l is stores wants =
    let w : World = world_of nodes sent in
    let here = at_place nodes sent i old kept l is in (
      stores,
      subst (λ (s : SitePart). MayStore (office_at w i) s.history sent in_hand) (sym here.site)
          (subst (λ (f : SiteConfig). MayStore f old.book.history sent in_hand) (sym here.office) wants),
    )

-- a restart
pub restart_made : (nodes : List NodeView) (sent : List Message) (i : ℕ) (old new : NodeView) → IsKept nodes sent → i < length nodes → old ≡ get_or nodes i old
    → new ≡ record old { acked = zeros } → IsMade nodes sent (set nodes i new) sent (Restart i)
restart_made nodes sent i old new kept l is fresh =
    let w : World = world_of nodes sent in
    let here = at_place nodes sent i old kept l is in
    let site_is : site_of new ≡ restarted (site_numbered w i) = ap site_of fresh ∙ ap restarted (sym here.site) in
    made_at nodes sent sent i old new (Restart i) kept here.found (ap (λ (n : NodeView). n.book.office) fresh)
    (ap (λ b. cond b (at_site w i (restarted (site_numbered w i))) w) (lt-ltb i (count w) here.below) ∙ ap (at_site w i) (sym site_is))

-- a stop
pub stop_made : (nodes : List NodeView) (sent : List Message) (i : ℕ) (in_hand : Input) (stored : Bool) (old new : NodeView) → IsKept nodes sent
    → i < length nodes → old ≡ get_or nodes i old
    → is_there sent in_hand ≡ true → (IsGrowth in_hand → ⊥) → new.book.office ≡ old.book.office
    → site_of new ≡ stopped_with (entry_of_input old.book.office old.book.history sent in_hand) stored (site_of old)
    → IsMade nodes sent (set nodes i new) sent (Stop i in_hand stored)
stop_made nodes sent i in_hand stored old new kept l is there kind office stopped =
    let w : World = world_of nodes sent in
    let here = at_place nodes sent i old kept l is in
    let entry : Option Entry = entry_of_input (office_at w i) (history_at w i) sent in_hand in
    let site : SitePart = stopped_with entry stored (site_numbered w i) in
    let site_is : site_of new ≡ site =
    stopped
    ∙ ap (λ (f : SiteConfig). stopped_with (entry_of_input f old.book.history sent in_hand) stored (site_of old)) (sym here.office)
    ∙ ap (λ (s : SitePart). stopped_with (entry_of_input (office_at w i) s.history sent in_hand) stored s) (sym here.site) in
    made_at nodes sent sent i old new (Stop i in_hand stored) kept here.found office
    ((λ k. cond (lt-ltb i (count w) here.below k && there k) (stopped_in w i entry stored) w)
    ∙ ap (λ (v : World). at_site v i site) (input_adds_none (office_at w i) (history_at w i) sent in_hand kind stored i w)
    ∙ ap (at_site w i) (sym site_is))

pub outcome_of_stop : (w : World) (i : ℕ) (in_hand : Input) → i < count w → is_there w.sent in_hand ≡ true → (stored : Bool)
    → outcome w (Stop i in_hand stored) ≡ Ok outcomes.Stopped
outcome_of_stop w i in_hand l there stored =
    ap (λ b. cond b (cond (is_there w.sent in_hand) (let r : Result Outcome WorldFault = Ok outcomes.Stopped in r) (Err NoMessage)) (Err NoSite))
    (lt-ltb i (count w) l)
    ∙ ap (λ b. cond b (let r : Result Outcome WorldFault = Ok outcomes.Stopped in r) (Err NoMessage)) there

pub stop_gives : (nodes : List NodeView) (sent : List Message) (i : ℕ) (in_hand : Input) (stored : Bool) (old new : NodeView)
    (result : Result Outcome WorldFault)
    → IsKept nodes sent → i < length nodes → old ≡ get_or nodes i old → is_there sent in_hand ≡ true → (IsGrowth in_hand → ⊥)
    → new.book.office ≡ old.book.office
    → IfOk result (λ o. o ≡ outcomes.Stopped) → IfErr result (λ fault. fault ≡ Memory)
    → OnOk result (site_of new ≡ stopped_with (entry_of_input old.book.office old.book.history sent in_hand) stored (site_of old))
    → OnErr result (site_of new ≡ site_of old)
    → IsGiven nodes sent (set nodes i new) (Stop i in_hand stored) result
stop_gives nodes sent i in_hand stored old new (Ok o) kept l is there kind office answer memory stopped same =
    let w : World = world_of nodes sent in
    let here = at_place nodes sent i old kept l is in
    let made = stop_made nodes sent i in_hand stored old new kept l is there kind office stopped in
    record {
      kept = made.kept;
      outcome = outcome_of_stop w i in_hand here.below there stored ∙ ap (λ (a : Outcome). let r : Result Outcome WorldFault = Ok a in r) (sym answer);
      due = tt;
      made = made.made;
      unchanged = tt;
    }
stop_gives nodes sent i in_hand stored old new (Err fault) kept l is there kind office answer memory stopped same =
    let w : World = world_of nodes sent in
    let here = at_place nodes sent i old kept l is in
    record {
      kept = kept_same nodes sent i old new kept here.found office same;
      outcome = tt;
      due = due_memory w (Stop i in_hand stored) outcomes.Stopped fault (outcome_of_stop w i in_hand here.below there stored) memory;
      made = tt;
      unchanged = same_world nodes sent i old new here.found office same;
    }

-- messages put behind those that were sent, where no site changes
pub sent_made : (nodes : List NodeView) (sent sent_now : List Message) (step : Step) → IsKept nodes sent
    → after (world_of nodes sent) step ≡ world_of nodes sent_now → IsMade nodes sent nodes sent_now step
sent_made nodes sent sent_now step kept is = record {
  kept = record {
    places = kept.places;
    reached = subst IsReached is (reached_after (world_of nodes sent) step kept.reached);
  };
  made = sym is;
}

-- a message sent
pub send_made : (nodes : List NodeView) (sent : List Message) (i j : ℕ) (old : NodeView) (due : Option Message) → IsKept nodes sent → i < length nodes
    → old ≡ get_or nodes i old
    → are_peers (world_of nodes sent) i j ≡ true
    → due ≡ next old.book.office.me (site_of old) j → IsMade nodes sent nodes (with_given sent due) (Send i j)
send_made nodes sent i j old due kept l is peers due_is =
    let w : World = world_of nodes sent in
    let here = at_place nodes sent i old kept l is in
    let same : due ≡ next i (site_numbered w i) j = due_is ∙ ap (λ (f : SiteConfig). next f.me (site_of old) j) (sym here.office)
    ∙ ap (λ (s : SitePart). next i s j) (sym here.site) in
    sent_made nodes sent (with_given sent due) (Send i j) kept
    (ap (λ b. cond b (sends (next i (site_numbered w i) j) w) w) peers ∙ ap (λ (o : Option Message). world_of nodes (with_given sent o)) (sym same))

pub peers_in : (nodes : List NodeView) (sent : List Message) (w : World) (i by j : ℕ) → world_of nodes sent ≡ w → i ≡ by → true ≡ are_peers w by j
    → are_peers (world_of nodes sent) i j ≡ true
peers_in nodes sent w i by j is here peers = (λ k. are_peers (is k) (here k) j) ∙ sym peers

pub peer_below : (nodes : List NodeView) (sent : List Message) (i j : ℕ) → are_peers (world_of nodes sent) i j ≡ true → i < length nodes
peer_below nodes sent i j peers =
    let w : World = world_of nodes sent in
    let front = (and_parts (nat_lt i (count w) && nat_lt j (count_at w i)) (not (i == j)) peers).0 in
    subst (λ n. i < n) (length-sites nodes) (ltb-true i (count w) (and_parts (nat_lt i (count w)) (nat_lt j (count_at w i)) front).0)

pub peer_counted : (nodes : List NodeView) (sent : List Message) (i j : ℕ) (old : NodeView) → IsKept nodes sent → i < length nodes → old ≡ get_or nodes i old
    → are_peers (world_of nodes sent) i j ≡ true → j < sites_of old.book.office old.book.history
peer_counted nodes sent i j old kept l is peers =
    let w : World = world_of nodes sent in
    let here = at_place nodes sent i old kept l is in
    let front = (and_parts (nat_lt i (count w) && nat_lt j (count_at w i)) (not (i == j)) peers).0 in
    omega (
      arith,
      ltb-true j (count_at w i) (and_parts (nat_lt i (count w)) (nat_lt j (count_at w i)) front).1,
      ap (λ (s : SitePart). sites_of (office_at w i) s.history) here.site,
      ap (λ (f : SiteConfig). sites_of f old.book.history) here.office,
    )

-- what is acknowledged is in the history
pub acked_within : (nodes : List NodeView) (sent : List Message) (i : ℕ) (old : NodeView) → IsKept nodes sent → i < length nodes → old ≡ get_or nodes i old
    → (j : ℕ) → get_or old.acked j 0 ≤ length old.book.history
acked_within nodes sent i old kept l is j =
    let w : World = world_of nodes sent in
    let here = at_place nodes sent i old kept l is in
    subst (λ (s : SitePart). get_or s.acked j 0 ≤ length s.history) here.site ((sound_in w kept.reached).acked i j).0

-- a delivery of a message that was sent is not refused
pub sent_is_due : (w : World) (index : ℕ) → index < length w.sent → IsDue w (Deliver index) Memory
sent_is_due w index l = by_message (slice_get w.sent index) (there w.sent index l)
  where
    there : (sent : List Message) (k : ℕ) → k < length sent → (m : Message) × (slice_get sent k ≡ Some m)
    there [] k l = absurd (omega arith)
    there (m ∷ sent) zero l = (m, refl)
    there (m ∷ sent) (suc k) l = there sent k (omega (arith, l))

    none_there : (m : Message) × (None ≡ Some m) → ⊥
    none_there found = cc (found.1)

    by_message : (o : Option Message) → (m : Message) × (o ≡ Some m) → IsOk (delivered_as w o)
    by_message None found = absurd (none_there found)
    by_message (Some m) found = refl
