-- A growth: the site that grew, and those that were added.
use Rattle.std.proofs.Common.{◌≡◌, ℕ, ◌-◌, ◌<◌, ◌≤◌, Bool, true, false, cond, ◌&&◌, List, Option, Some, None, refl, sym, ap, ◌∙◌, subst, arith, length, get_or, set, le-leb, ltb-true, length-set, ◌++◌}
use Rattle.std.specs.Prelude.{nat_lt, nat_le, replicate, Result, Ok, Err}
use Rattle.std.proofs.lemmas.Bool.{lt-ltb}
use Rattle.std.proofs.lemmas.List.{set-append_left, set-set, get_or-set_same}
use Rattle.rights_lattice.specs.Limits.{most_sites}
use Rattle.request_ledger.proofs.SumLaws.{cond_both}
use Rattle.book_core.specs.declared.entry.Entry.{Entry}
use Rattle.book_core.specs.declared.entry.Entry.TheVariants.{Grown}
use Rattle.book_core.specs.declared.plan.GrowFault.{GrowFault}
use Rattle.book_core.specs.declared.plan.GrowFault.TheVariants as grow_fault
use Rattle.book_core.specs.Decision.{SiteConfig}
use Rattle.book_core.specs.Growing as growing
use Rattle.book_core.specs.Growing.{GrowDecision, grow_decision, grown_if}
use Rattle.book_core.specs.Plans.{IsGrowFault, IsGrowPlan}
use Rattle.site_exchange.specs.declared.message.Message.{Message}
use Rattle.site_exchange.specs.Exchange.{SitePart}
use Rattle.site_exchange.specs.Taking.{with_entry, restarted}
use Rattle.world_steps.specs.NodeView.{NodeView}
use Rattle.world_steps.specs.declared.step.Input.TheVariants as input
use Rattle.world_steps.specs.declared.step.Step.TheVariants.{Restart, Stop, Grow}
use Rattle.world_steps.specs.declared.step.Outcome.{Outcome}
use Rattle.world_steps.specs.declared.step.Outcome.TheVariants as outcomes
use Rattle.world_steps.specs.declared.step.WorldFault.{WorldFault}
use Rattle.world_steps.specs.declared.step.WorldFault.TheVariants.{NoSite}
use Rattle.world_steps.specs.Nodes.{site_of, limit_of, AreAdded}
use Rattle.world_steps.specs.Outcomes.{outcome, grown_as}
use Rattle.world_steps.specs.Reaching.{world_of, IsKept}
use Rattle.world_steps.specs.World.{World, count, no_site, site_numbered, history_at, office_at, at_site, widened, widened_by, entered, grows, stopped_in, after, IsReached}
use Rattle.world_steps.proofs.Making.{IsGiven}
use Rattle.world_steps.proofs.Reached.{reached_after}
use Rattle.world_steps.proofs.Sites.{IsMade, at_place, found_at, kept_same, same_world, made_at, kept_places, places_added, world_set, world_added, limit_found}
use Rattle.world_steps.proofs.Widening.{more_by}
use Rattle.world_steps.proofs.Worlds.{site_same}

-- the same world, of sites that may have other room
pub record IsStill (nodes : List NodeView) (sent : List Message) (now : List NodeView) : Type 0 where
  pub kept : IsKept now sent
  pub same : world_of now sent ≡ world_of nodes sent

-- a plan shows nothing
pub planned_still : (nodes : List NodeView) (sent : List Message) (i : ℕ) (old new : NodeView) → IsKept nodes sent → i < length nodes → old ≡ get_or nodes i old
    → new.book.office ≡ old.book.office → site_of new ≡ site_of old → IsStill nodes sent (set nodes i new)
planned_still nodes sent i old new kept l is office same =
    let found = found_at nodes i old l is in
    record {
      kept = kept_same nodes sent i old new kept found office same;
      same = same_world nodes sent i old new found office same;
    }

-- the decision of the world is that of the site at its place
pub decided_at : (nodes : List NodeView) (sent : List Message) (i sites : ℕ) (old : NodeView) → IsKept nodes sent → i < length nodes → old ≡ get_or nodes i old
    → grow_decision (office_at (world_of nodes sent) i) (history_at (world_of nodes sent) i) sites ≡ grow_decision old.book.office old.book.history sites
decided_at nodes sent i sites old kept l is =
    let w : World = world_of nodes sent in
    let here = at_place nodes sent i old kept l is in
    ap (λ (s : SitePart). grow_decision (office_at w i) s.history sites) here.site
    ∙ ap (λ (f : SiteConfig). grow_decision f old.book.history sites) here.office

-- what a growth of a site is answered
pub grow_outcome : (nodes : List NodeView) (sent : List Message) (i sites : ℕ) (old : NodeView) → IsKept nodes sent → i < length nodes
    → old ≡ get_or nodes i old
    → outcome (world_of nodes sent) (Grow i sites) ≡ Ok (grown_as (grow_decision old.book.office old.book.history sites))
grow_outcome nodes sent i sites old kept l is =
    let w : World = world_of nodes sent in
    let here = at_place nodes sent i old kept l is in
    ap (λ b. cond b (let r : Result Outcome WorldFault = Ok (grown_as (grow_decision (office_at w i) (history_at w i) sites)) in r) (Err NoSite))
    (lt-ltb i (count w) here.below)
    ∙ ap (λ (d : GrowDecision). let r : Result Outcome WorldFault = Ok (grown_as d) in r) (decided_at nodes sent i sites old kept l is)

-- more sites behind those that are there, of which one is another
widened_at : (w : World) (i sites limit : ℕ) (site : SitePart) → i < count w → widened sites limit (at_site w i site) ≡ at_site (widened sites limit w) i site
widened_at w i sites limit site l =
    let n : ℕ = sites - count w in
    let lacking : sites - length (set w.sites i site) ≡ n = ap (λ k. sites - k) (length-set w.sites i site) in
    ap (λ (k : ℕ). let v : World = record {
      limits = w.limits ++ replicate k limit;
      counts = w.counts ++ replicate k sites;
      sites = set w.sites i site ++ replicate k no_site;
      sent = w.sent;
    } in v) lacking
    ∙ ap (λ (ss : List SitePart). let v : World = record {
      limits = w.limits ++ replicate n limit;
      counts = w.counts ++ replicate n sites;
      sites = ss;
      sent = w.sent;
    } in v) (sym (set-append_left w.sites (replicate n no_site) i site l))

entered_at : (w : World) (i sites : ℕ) → grow_decision (office_at w i) (history_at w i) sites ≡ growing.Grows → sites ≤ most_sites
    → grows w i sites ≡ Some (Grown sites)
entered_at w i sites is few =
    ap (λ b. cond b (grown_if (grow_decision (office_at w i) (history_at w i) sites) sites) None) (le-leb sites most_sites few)
    ∙ ap (λ d. grown_if d sites) is

-- a growth that is entered, with the sites that are added
pub grow_made : (nodes : List NodeView) (sent : List Message) (i sites : ℕ) (old new : NodeView) (now : List NodeView) → IsKept nodes sent
    → i < length nodes → old ≡ get_or nodes i old
    → new.book.office ≡ old.book.office → grow_decision old.book.office old.book.history sites ≡ growing.Grows → sites ≤ most_sites
    → site_of new ≡ with_entry (Some (Grown sites)) (site_of old) → AreAdded sites (limit_of old) (set nodes i new) now
    → IsMade nodes sent now sent (Grow i sites)
grow_made nodes sent i sites old new now kept l is office decided few grown added =
    let w : World = world_of nodes sent in
    let here = at_place nodes sent i old kept l is in
    let entry_is : grows w i sites ≡ Some (Grown sites) = entered_at w i sites (decided_at nodes sent i sites old kept l is ∙ decided) few in
    let site_is : site_of new ≡ with_entry (Some (Grown sites)) (site_numbered w i) = grown ∙ ap (with_entry (Some (Grown sites))) (sym here.site) in
    let after_is : after w (Grow i sites) ≡ at_site (widened sites (limit_of old) w) i (site_of new) =
    ap (λ b. cond b (entered (grows w i sites) i (with_entry (grows w i sites) (site_numbered w i)) w) w) (lt-ltb i (count w) here.below)
    ∙ ap (λ (e : Option Entry). entered e i (with_entry e (site_numbered w i)) w) entry_is
    ∙ (λ k. at_site (widened sites (limit_found nodes i old here.found k) w) i (sym site_is k)) in
    let world_is : world_of now sent ≡ after w (Grow i sites) =
    world_added sites (limit_of old) (set nodes i new) now sent added
    ∙ ap (widened sites (limit_of old)) (world_set nodes sent i old new here.found office)
    ∙ widened_at w i sites (limit_of old) (site_of new) here.below
    ∙ sym after_is in
    record {
      kept = record {
        places = places_added sites (limit_of old) (set nodes i new) now (kept_places nodes i old new kept.places here.found office) added;
        reached = subst IsReached (sym world_is) (reached_after w (Grow i sites) kept.reached);
      };
      made = world_is;
    }

-- a count that is not taken changes nothing
still_made : (nodes : List NodeView) (sent : List Message) (i sites : ℕ) (old new : NodeView) → IsKept nodes sent → i < length nodes → old ≡ get_or nodes i old
    → new.book.office ≡ old.book.office → site_of new ≡ site_of old → (d : GrowDecision) → grow_decision old.book.office old.book.history sites ≡ d
    → grown_if d sites ≡ None
    → IsMade nodes sent (set nodes i new) sent (Grow i sites)
still_made nodes sent i sites old new kept l is office same d decided none =
    let w : World = world_of nodes sent in
    let here = at_place nodes sent i old kept l is in
    let entry_is : grows w i sites ≡ None = ap (λ (e : GrowDecision). cond (nat_le sites most_sites) (grown_if e sites) None)
    (decided_at nodes sent i sites old kept l is ∙ decided)
    ∙ ap (λ (e : Option Entry). cond (nat_le sites most_sites) e None) none ∙ cond_both (nat_le sites most_sites) None in
    made_at nodes sent sent i old new (Grow i sites) kept here.found office
    (ap (λ b. cond b (entered (grows w i sites) i (with_entry (grows w i sites) (site_numbered w i)) w) w) (lt-ltb i (count w) here.below)
    ∙ ap (λ (e : Option Entry). entered e i (with_entry e (site_numbered w i)) w) entry_is
    ∙ ap (at_site w i) (here.site ∙ sym same))

-- a count that is not taken is told so
pub refused_gives : (nodes : List NodeView) (sent : List Message) (i sites : ℕ) (old new : NodeView) (fault : GrowFault) → IsKept nodes sent
    → i < length nodes → old ≡ get_or nodes i old
    → new.book.office ≡ old.book.office → site_of new ≡ site_of old → IsGrowFault new.book sites fault → (fault ≡ grow_fault.Memory → ⊥)
    → IsGiven nodes sent (set nodes i new) (Grow i sites) (Ok (outcomes.NotGrown fault))
refused_gives nodes sent i sites old new fault kept l is office same told other = by_fault fault told other
  where
    same_decision : grow_decision old.book.office old.book.history sites ≡ grow_decision new.book.office new.book.history sites
    same_decision =
        ap (λ (f : SiteConfig). grow_decision f old.book.history sites) (sym office)
        ∙ ap (λ (s : SitePart). grow_decision new.book.office s.history sites) (sym same)

    given : (d : GrowDecision) (f : GrowFault) → grow_decision new.book.office new.book.history sites ≡ d → grown_if d sites ≡ None
        → grown_as d ≡ outcomes.NotGrown f
        → IsGiven nodes sent (set nodes i new) (Grow i sites) (Ok (outcomes.NotGrown f))
    given d f decided none told =
        let made = still_made nodes sent i sites old new kept l is office same d (same_decision ∙ decided) none in
        record {
          kept = made.kept;
          outcome = grow_outcome nodes sent i sites old kept l is
              ∙ ap (λ (e : GrowDecision). let r : Result Outcome WorldFault = Ok (grown_as e) in r) (same_decision ∙ decided)
              ∙ ap (λ (o : Outcome). let r : Result Outcome WorldFault = Ok o in r) told;
          due = tt;
          made = made.made;
          unchanged = tt;
        }

    by_fault : (f : GrowFault) → IsGrowFault new.book sites f → (f ≡ grow_fault.Memory → ⊥)
        → IsGiven nodes sent (set nodes i new) (Grow i sites) (Ok (outcomes.NotGrown f))
    by_fault grow_fault.NotMore h other = given growing.NotMore grow_fault.NotMore h refl refl
    by_fault grow_fault.Full h other = given growing.Full grow_fault.Full h refl refl
    by_fault grow_fault.Memory h other = absurd (other refl)
    by_fault grow_fault.Closed h other = absurd h
    by_fault grow_fault.Store h other = absurd h

-- a site that was stopped in the midst of a growth grew, and started anew
pub stopped_growing : (w : World) (i sites : ℕ) → after (after w (Grow i sites)) (Restart i) ≡ after w (Stop i (input.Grow sites) true)
stopped_growing w i sites = by_test (nat_lt i (count w)) refl
  where
    entry : Option Entry
    entry = grows w i sites

    site : SitePart
    site = with_entry (grows w i sites) (site_numbered w i)

    grown : World
    grown = entered (grows w i sites) i (with_entry (grows w i sites) (site_numbered w i)) w

    by_test : (b : Bool) → nat_lt i (count w) ≡ b → after (after w (Grow i sites)) (Restart i) ≡ after w (Stop i (input.Grow sites) true)
    by_test true q =
        let l : i < count (widened_by entry i w) = omega (arith, ltb-true i (count w) q, more_by w i entry) in
        let there : i < count grown = omega (arith, l, length-set (widened_by entry i w).sites i site) in
        ap (λ (v : World). after v (Restart i)) (ap (λ b. cond b grown w) q)
        ∙ ap (λ b. cond b (at_site grown i (restarted (site_numbered grown i))) grown) (lt-ltb i (count grown) there)
        ∙ ap (λ (s : SitePart). at_site grown i (restarted s)) (site_same (widened_by entry i w) i site l)
        ∙ ap (λ (ss : List SitePart). let v : World = record (widened_by entry i w) { sites = ss } in v)
        (set-set (widened_by entry i w).sites i site (restarted site))
        ∙ sym (ap (λ b. cond (b && true) (stopped_in w i entry true) w) q)
    by_test false q =
        ap (λ (v : World). after v (Restart i)) (ap (λ b. cond b grown w) q)
        ∙ ap (λ b. cond b (at_site w i (restarted (site_numbered w i))) w) q
        ∙ sym (ap (λ b. cond (b && true) (stopped_in w i entry true) w) q)

-- where the growth was not stored it just started anew
pub stopped_before : (w : World) (i sites : ℕ) → after w (Restart i) ≡ after w (Stop i (input.Grow sites) false)
stopped_before w i sites = by_test (nat_lt i (count w))
  where
    by_test : (b : Bool) → cond b (at_site w i (restarted (site_numbered w i))) w ≡ cond (b && true) (stopped_in w i (grows w i sites) false) w
    by_test true = refl
    by_test false = refl

-- a growth that was planned, and entered once there was room for the sites that it adds
pub grown_made : (nodes : List NodeView) (sent : List Message) (i sites limit : ℕ) (old planned node new : NodeView) (entry : Entry)
    (reserved now : List NodeView)
    → IsKept nodes sent → i < length nodes → old ≡ get_or nodes i old
    → planned.book.office ≡ old.book.office → site_of planned ≡ site_of old → IsGrowPlan planned.book sites entry → sites ≤ most_sites
    → reserved ≡ set nodes i planned → node ≡ get_or reserved i node → limit ≡ node.book.office.limit
    → new.book.office ≡ node.book.office → site_of new ≡ with_entry (Some entry) (site_of node) → AreAdded sites limit (set reserved i new) now
    → IsMade nodes sent now sent (Grow i sites)
grown_made nodes sent i sites limit old planned node new entry reserved now kept l is office same plan few reserved_is node_is limit_is entered_office
    entered_site added =
    let planned_is : node ≡ planned = node_is ∙ ap (λ (ns : List NodeView). get_or ns i node) reserved_is ∙ get_or-set_same nodes i planned node l in
    let decided : grow_decision old.book.office old.book.history sites ≡ growing.Grows =
    ap (λ (f : SiteConfig). grow_decision f old.book.history sites) (sym office)
    ∙ ap (λ (s : SitePart). grow_decision planned.book.office s.history sites) (sym same)
    ∙ plan.grows in
    let now_office : new.book.office ≡ old.book.office = entered_office ∙ ap (λ (n : NodeView). n.book.office) planned_is ∙ office in
    let now_site : site_of new ≡ with_entry (Some (Grown sites)) (site_of old) =
    entered_site
    ∙ ap (λ (e : Entry). with_entry (Some e) (site_of node)) plan.is_growth
    ∙ ap (λ (s : SitePart). with_entry (Some (Grown sites)) s) (ap site_of planned_is ∙ same) in
    let limit_of_old : limit ≡ limit_of old = limit_is ∙ ap (λ (n : NodeView). n.book.office.limit) planned_is ∙ ap (λ (f : SiteConfig). f.limit) office in
    let set_is : set reserved i new ≡ set nodes i new = ap (λ (ns : List NodeView). set ns i new) reserved_is ∙ set-set nodes i planned new in
    grow_made nodes sent i sites old new now kept l is now_office decided few now_site
    (subst (λ (ns : List NodeView). AreAdded sites (limit_of old) ns now) set_is (subst (λ m. AreAdded sites m (set reserved i new) now) limit_of_old added))
