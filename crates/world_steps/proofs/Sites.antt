-- The sites of the program as a world: one of them changes, and messages are put behind those that were sent.
use Rattle.std.proofs.lemmas.Option.{slice_get_read}
use Rattle.std.proofs.Common.{◌≡◌, ℕ, zero, suc, ◌-◌, ◌<◌, ◌≤◌, List, [], ◌∷◌, ◌++◌, Some, refl, sym, ap, ◌∙◌, subst, arith, length, get_or, set, map, inl, inr}
use Rattle.std.specs.Prelude.{slice_get, replicate}
use Rattle.std.proofs.lemmas.List.{length-replicate, map-append, set-get_or}
use Rattle.rights_lattice.specs.Sums.{max_sites}
use Rattle.book_core.specs.Decision.{SiteConfig}
use Rattle.site_exchange.specs.declared.message.Message.{Message}
use Rattle.site_exchange.specs.Exchange.{SitePart, zeros}
use Rattle.world_steps.specs.NodeView.{NodeView}
use Rattle.world_steps.specs.declared.step.Step.{Step}
use Rattle.world_steps.specs.Nodes.{site_of, limit_of, first_count_of, AreAdded}
use Rattle.world_steps.specs.Reaching.{world_of, IsKept}
use Rattle.world_steps.specs.World.{opening, count, no_site, site_numbered, history_at, office_at, at_site, widened, after, IsReached}
use Rattle.world_steps.proofs.FlatList.{get_append}
use Rattle.world_steps.proofs.Reached.{reached_after}
use Rattle.world_steps.proofs.Worlds.{site_kept}

all_empty : (nodes : List NodeView) → ((i : ℕ) (n : NodeView) → slice_get nodes i ≡ Some n → (n.book.history ≡ []) × (n.acked ≡ zeros))
    → map site_of nodes ≡ replicate (length nodes) no_site
all_empty [] empty = refl
all_empty (node ∷ nodes) empty =
    let rest = all_empty nodes (λ i n found. empty (suc i) n found) in
    let here = empty 0 node refl in
    λ i. record { history = here.0 i; acked = here.1 i } ∷ rest i

all_limited : (limit : ℕ) (nodes : List NodeView) → ((i : ℕ) (n : NodeView) → slice_get nodes i ≡ Some n → limit_of n ≡ limit)
    → map limit_of nodes ≡ replicate (length nodes) limit
all_limited limit [] same = refl
all_limited limit (node ∷ nodes) same =
    let rest = all_limited limit nodes (λ i n found. same (suc i) n found) in
    let here = same 0 node refl in
    λ i. here i ∷ rest i

all_counting : (sites : ℕ) (nodes : List NodeView) → ((i : ℕ) (n : NodeView) → slice_get nodes i ≡ Some n → first_count_of n ≡ sites)
    → map first_count_of nodes ≡ replicate (length nodes) sites
all_counting sites [] same = refl
all_counting sites (node ∷ nodes) same =
    let rest = all_counting sites nodes (λ i n found. same (suc i) n found) in
    let here = same 0 node refl in
    λ i. here i ∷ rest i

pub sites_set : (nodes : List NodeView) (i : ℕ) (node : NodeView) → map site_of (set nodes i node) ≡ set (map site_of nodes) i (site_of node)
sites_set [] i node = refl
sites_set (n ∷ nodes) zero node = refl
sites_set (n ∷ nodes) (suc i) node = ap (λ (ss : List SitePart). site_of n ∷ ss) (sites_set nodes i node)

-- a site with the same limit in its place
limits_set : (nodes : List NodeView) (i : ℕ) (old new : NodeView) → slice_get nodes i ≡ Some old → limit_of new ≡ limit_of old
    → map limit_of (set nodes i new) ≡ map limit_of nodes
limits_set [] i old new found same = refl
limits_set (n ∷ nodes) zero old new found same =
    let is : n ≡ old = cc in
    ap (λ (l : ℕ). l ∷ map limit_of nodes) (same ∙ sym (ap limit_of is))
limits_set (n ∷ nodes) (suc i) old new found same = ap (λ (ls : List ℕ). limit_of n ∷ ls) (limits_set nodes i old new found same)

counts_set : (nodes : List NodeView) (i : ℕ) (old new : NodeView) → slice_get nodes i ≡ Some old → first_count_of new ≡ first_count_of old
    → map first_count_of (set nodes i new) ≡ map first_count_of nodes
counts_set [] i old new found same = refl
counts_set (n ∷ nodes) zero old new found same =
    let is : n ≡ old = cc in
    ap (λ (k : ℕ). k ∷ map first_count_of nodes) (same ∙ sym (ap first_count_of is))
counts_set (n ∷ nodes) (suc i) old new found same = ap (λ (ks : List ℕ). first_count_of n ∷ ks) (counts_set nodes i old new found same)

pub site_found : (nodes : List NodeView) (i : ℕ) (old : NodeView) → slice_get nodes i ≡ Some old → get_or (map site_of nodes) i no_site ≡ site_of old
site_found [] i old found = cc
site_found (n ∷ nodes) zero old found = let same : n ≡ old = cc in ap site_of same
site_found (n ∷ nodes) (suc i) old found = site_found nodes i old found

count_found : (nodes : List NodeView) (i : ℕ) (old : NodeView) → slice_get nodes i ≡ Some old → get_or (map first_count_of nodes) i 0 ≡ first_count_of old
count_found [] i old found = cc
count_found (n ∷ nodes) zero old found = let same : n ≡ old = cc in ap first_count_of same
count_found (n ∷ nodes) (suc i) old found = count_found nodes i old found

pub limit_found : (nodes : List NodeView) (i : ℕ) (old : NodeView) → slice_get nodes i ≡ Some old → get_or (map limit_of nodes) i 0 ≡ limit_of old
limit_found [] i old found = cc
limit_found (n ∷ nodes) zero old found = let same : n ≡ old = cc in ap limit_of same
limit_found (n ∷ nodes) (suc i) old found = limit_found nodes i old found

pub length-sites : (nodes : List NodeView) → length (map site_of nodes) ≡ length nodes
length-sites [] = refl
length-sites (n ∷ nodes) = ap suc (length-sites nodes)

-- the history of a site of the program
pub history_found : (nodes : List NodeView) (sent : List Message) (i : ℕ) (node : NodeView) → slice_get nodes i ≡ Some node
    → history_at (world_of nodes sent) i ≡ node.book.history
history_found nodes sent i node found = ap (λ (s : SitePart). s.history) (site_found nodes i node found)

-- the book is of the site that its place names
abbrev IsInPlace : ℕ → NodeView → Type 0
IsInPlace i node = node.book.office.me ≡ i

abbrev pub AreInPlace : List NodeView → Type 0
AreInPlace nodes = (i : ℕ) (node : NodeView) → slice_get nodes i ≡ Some node → IsInPlace i node

-- what holds of each site at its place holds with another one put there
each_set : (Holds : ℕ → NodeView → Type 0) (nodes : List NodeView) (i k : ℕ) (new node : NodeView) → slice_get (set nodes i new) k ≡ Some node
    → ((j : ℕ) (m : NodeView) → slice_get nodes j ≡ Some m → Holds j m) → Holds i new → Holds k node
each_set Holds [] i k new node found before here = before k node found
each_set Holds (x ∷ nodes) zero zero new node found before here = let same : new ≡ node = cc in subst (Holds zero) same here
each_set Holds (x ∷ nodes) zero (suc k) new node found before here = before (suc k) node found
each_set Holds (x ∷ nodes) (suc i) zero new node found before here = before zero node found
each_set Holds (x ∷ nodes) (suc i) (suc k) new node found before here =
    each_set (λ j. Holds (suc j)) nodes i k new node found (λ j m there. before (suc j) m there) here

-- a site that is put in the place of another, of the same office, is in its place
pub kept_places : (nodes : List NodeView) (i : ℕ) (old new : NodeView) → AreInPlace nodes → slice_get nodes i ≡ Some old
    → new.book.office ≡ old.book.office → AreInPlace (set nodes i new)
kept_places nodes i old new before found same k n there =
    each_set IsInPlace nodes i k new n there before (ap (λ (o : SiteConfig). o.me) same ∙ before i old found)

pub found_at : (nodes : List NodeView) (i : ℕ) (n : NodeView) → i < length nodes → n ≡ get_or nodes i n → slice_get nodes i ≡ Some n
found_at nodes i n l e = slice_get_read nodes (length nodes) i n refl l e

-- a site that is put back as it was changes nothing
pub put_back : (nodes : List NodeView) (i : ℕ) (old new : NodeView) → old ≡ get_or nodes i old → new ≡ old → set nodes i new ≡ nodes
put_back nodes i old new is same = ap (set nodes i) (same ∙ is) ∙ set-get_or nodes i old

-- the sites and the messages after a step that changed one site, and put messages behind those that were sent
pub record IsMade (nodes : List NodeView) (sent : List Message) (now : List NodeView) (sent_now : List Message) (step : Step) : Type 0 where
  pub kept : IsKept now sent_now
  pub made : world_of now sent_now ≡ after (world_of nodes sent) step

-- the program's world with one site in another state
pub world_set : (nodes : List NodeView) (sent : List Message) (i : ℕ) (old new : NodeView) → slice_get nodes i ≡ Some old → new.book.office ≡ old.book.office
    → world_of (set nodes i new) sent ≡ at_site (world_of nodes sent) i (site_of new)
world_set nodes sent i old new found same = λ k. record {
  limits = limits_set nodes i old new found (ap (λ (o : SiteConfig). o.limit) same) k;
  counts = counts_set nodes i old new found (ap (λ (o : SiteConfig). o.sites) same) k;
  sites = sites_set nodes i new k;
  sent = sent;
}

-- what the definition of the step changes is what was changed
pub made_at : (nodes : List NodeView) (sent sent_now : List Message) (i : ℕ) (old new : NodeView) (step : Step) → IsKept nodes sent
    → slice_get nodes i ≡ Some old → new.book.office ≡ old.book.office
    → after (world_of nodes sent) step ≡ at_site (world_of nodes sent_now) i (site_of new) → IsMade nodes sent (set nodes i new) sent_now step
made_at nodes sent sent_now i old new step kept found same after_is =
    let is : world_of (set nodes i new) sent_now ≡ after (world_of nodes sent) step = world_set nodes sent_now i old new found same ∙ sym after_is in
    record {
      kept = record {
        places = kept_places nodes i old new kept.places found same;
        reached = subst IsReached (sym is) (reached_after (world_of nodes sent) step kept.reached);
      };
      made = is;
    }

-- a site that shows the same makes the same world
pub same_world : (nodes : List NodeView) (sent : List Message) (i : ℕ) (old new : NodeView) → slice_get nodes i ≡ Some old
    → new.book.office ≡ old.book.office → site_of new ≡ site_of old → world_of (set nodes i new) sent ≡ world_of nodes sent
same_world nodes sent i old new found same_office same =
    world_set nodes sent i old new found same_office
    ∙ ap (at_site (world_of nodes sent) i) (same ∙ sym (site_found nodes i old found))
    ∙ site_kept (world_of nodes sent) i

pub kept_same : (nodes : List NodeView) (sent : List Message) (i : ℕ) (old new : NodeView) → IsKept nodes sent → slice_get nodes i ≡ Some old
    → new.book.office ≡ old.book.office → site_of new ≡ site_of old
    → IsKept (set nodes i new) sent
kept_same nodes sent i old new kept found same_office same = record {
  places = kept_places nodes i old new kept.places found same_office;
  reached = subst IsReached (sym (same_world nodes sent i old new found same_office same)) kept.reached;
}

-- the site at a place, as the world has it
pub record IsAt (nodes : List NodeView) (sent : List Message) (i : ℕ) (old : NodeView) : Type 0 where
  pub found : slice_get nodes i ≡ Some old
  pub below : i < count (world_of nodes sent)
  pub site : site_numbered (world_of nodes sent) i ≡ site_of old
  pub office : office_at (world_of nodes sent) i ≡ old.book.office

pub at_place : (nodes : List NodeView) (sent : List Message) (i : ℕ) (old : NodeView) → IsKept nodes sent → i < length nodes → old ≡ get_or nodes i old
    → IsAt nodes sent i old
at_place nodes sent i old kept l is =
    let found = found_at nodes i old l is in
    record {
      found = found;
      below = omega (arith, l, length-sites nodes);
      site = site_found nodes i old found;
      office = λ k. record { me = sym (kept.places i old found) k; sites = count_found nodes i old found k; limit = limit_found nodes i old found k };
    }

-- sites that are added are in their places
pub places_added : (sites limit : ℕ) (nodes now : List NodeView) → AreInPlace nodes → AreAdded sites limit nodes now → AreInPlace now
places_added sites limit nodes now before added i n found = elim
    (get_append nodes added.more i n (subst (λ (ns : List NodeView). slice_get ns i ≡ Some n) added.behind found)) [
      | inl p ↦ before i n p.1
      | inr p ↦ ap (λ (o : SiteConfig). o.me) (added.opened p.0 n p.2).office ∙ sym p.1
    ]

-- the world with sites that are added
pub world_added : (sites limit : ℕ) (nodes now : List NodeView) (sent : List Message) → AreAdded sites limit nodes now
    → world_of now sent ≡ widened sites limit (world_of nodes sent)
world_added sites limit nodes now sent added =
    let more : List NodeView = added.more in
    let lacking : length more ≡ sites - length (map site_of nodes) = added.lacking ∙ ap (λ n. sites - n) (sym (length-sites nodes)) in
    let limits_are = map-append limit_of nodes more ∙ ap (λ ls. map limit_of nodes ++ ls)
    (all_limited limit more (λ k n found. ap (λ (o : SiteConfig). o.limit) (added.opened k n found).office) ∙ ap (λ n. replicate n limit) lacking) in
    let counts_are = map-append first_count_of nodes more ∙ ap (λ ks. map first_count_of nodes ++ ks)
    (all_counting sites more (λ k n found. ap (λ (o : SiteConfig). o.sites) (added.opened k n found).office) ∙ ap (λ n. replicate n sites) lacking) in
    let sites_are = map-append site_of nodes more ∙ ap (λ ss. map site_of nodes ++ ss)
    (all_empty more (λ k n found. ((added.opened k n found).history, (added.opened k n found).acked)) ∙ ap (λ n. replicate n no_site) lacking) in
    ap (λ (ns : List NodeView). world_of ns sent) added.behind
    ∙ (λ i. record { limits = limits_are i; counts = counts_are i; sites = sites_are i; sent = sent })

-- the sites that a world begins with
pub kept_opening : (sites limit : ℕ) (nodes : List NodeView) (sent : List Message) → sites ≤ max_sites → sent ≡ [] → AreAdded sites limit [] nodes
    → IsKept nodes sent × (world_of nodes sent ≡ opening sites limit)
kept_opening sites limit nodes sent few none added =
    let n : ℕ = length (replicate sites limit) in
    let n_is : sites ≡ n = sym (length-replicate sites limit) in
    let whole : sites - 0 ≡ sites = omega arith in
    let is : world_of nodes sent ≡ opening sites limit =
    world_added sites limit [] nodes sent added
    ∙ (λ k. record { limits = replicate (whole k) limit; counts = replicate (whole k) sites; sites = replicate (whole k) no_site; sent = sent })
    ∙ (λ k. record { limits = replicate sites limit; counts = replicate (n_is k) (n_is k); sites = replicate (n_is k) no_site; sent = none k }) in (
      record {
        places = places_added sites limit [] nodes (λ i n found. cc) added;
        reached = (replicate sites limit, omega (arith, few, n_is), [], is);
      },
      is,
    )
