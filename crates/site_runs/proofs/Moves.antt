-- A world that shows sites, once one of them has changed.
use Rattle.std.proofs.Common.{◌≡◌, ◌≢◌, ◌⊎◌, inl, inr, ℕ, zero, suc, ◌-◌, ◌≤◌, ◌<◌, Bool, true, false, cond, List, [], ◌∷◌, ◌++◌, Some, None, refl, sym, ap, ◌∙◌, arith, length, get_or, set, length-set, get_or-set_same, get_or-set_other, replicate, append-nil, leb-true}
use Rattle.std.specs.Prelude.{slice_get, nat_le}
use Rattle.std.proofs.lemmas.Option.{slice_get_within}
use Rattle.rights_lattice.specs.Sums.{max_sites}
use Rattle.rights_lattice.specs.Limits.{most_sites}
use Rattle.book_core.specs.declared.entry.Entry.{Entry}
use Rattle.book_core.specs.Decision.{SiteConfig}
use Rattle.book_core.specs.Growing as growing
use Rattle.book_core.specs.Growing.{GrowDecision, grow_decision, grown_if}
use Rattle.site_exchange.specs.declared.message.Message.{Message}
use Rattle.site_exchange.specs.Exchange.{SitePart}
use Rattle.site_desk.specs.SiteView.{SiteView, site_of}
use Rattle.world_steps.specs.World.{World, count, no_site, office_at, at_site, sends, widened, widened_by}
use Rattle.site_exchange.specs.Taking.{with_given}
use Rattle.site_runs.specs.Runs.{CallAt, Sites, moved, given_by}
use Rattle.site_runs.specs.Steps.{Shows}

-- what stands at a place behind a change: what was put there, or what stood there
pub found_after : {A : Type 0} (xs : List A) (i j : ℕ) (y x : A) → slice_get (set xs i y) j ≡ Some x
    → ((j ≡ i) × (x ≡ y)) ⊎ ((j ≢ i) × (slice_get xs j ≡ Some x))
found_after [] i j y x found = cc
found_after (z ∷ xs) zero zero y x found = inl (refl, cc)
found_after (z ∷ xs) zero (suc j) y x found = inr (λ e. cc, found)
found_after (z ∷ xs) (suc i) zero y x found = inr (λ e. cc, found)
found_after (z ∷ xs) (suc i) (suc j) y x found = elim (found_after xs i j y x found) [
  | inl p ↦ inl (ap suc p.0, p.1)
  | inr p ↦ inr (λ e. p.0 (omega (arith, e)), p.1)
]

pub set_found : {A : Type 0} (xs : List A) (i : ℕ) (old y : A) → slice_get xs i ≡ Some old → slice_get (set xs i y) i ≡ Some y
set_found [] i old y found = cc
set_found (x ∷ xs) zero old y found = refl
set_found (x ∷ xs) (suc i) old y found = set_found xs i old y found

-- the world with the site behind the event, and the message that it gave
pub shows_moved : {K : Type 0} (w : World) (s : Sites K) (e : CallAt K) (old : SiteView K) → Shows w s → slice_get s.books e.site ≡ Some old
    → e.after.book.office ≡ old.book.office
    → Shows (sends (given_by e.call) (at_site w e.site (site_of e.after))) (moved s e)
shows_moved {K} w s e old shows found same =
    let here : e.site < length w.sites = omega (arith, slice_get_within s.books e.site old found, shows.few, shows.count) in
    record {
      few = omega (arith, shows.few, length-set s.books e.site e.after);
      count = length-set w.sites e.site (site_of e.after) ∙ shows.count;
      site = λ j x is. by_place j x here (found_after s.books e.site j e.after x is);
      office = λ j x is. of_place j x (found_after s.books e.site j e.after x is);
      others = λ j past. ap (λ (p : SitePart). p.history) (get_or-set_other w.sites e.site j (site_of e.after) no_site (λ q. ne j past q))
          ∙ shows.others j (omega (arith, past, length-set s.books e.site e.after));
      sent = ap (λ (ms : List Message). with_given ms (given_by e.call)) shows.sent;
    }
  where
    by_place : (j : ℕ) (x : SiteView K) → e.site < length w.sites → ((j ≡ e.site) × (x ≡ e.after)) ⊎ ((j ≢ e.site) × (slice_get s.books j ≡ Some x))
        → get_or (set w.sites e.site (site_of e.after)) j no_site ≡ site_of x
    by_place j x here (inl p) = ap (λ k. get_or (set w.sites e.site (site_of e.after)) k no_site) p.0
        ∙ get_or-set_same w.sites e.site (site_of e.after) no_site here ∙ ap (λ (v : SiteView K). site_of v) (sym p.1)
    by_place j x here (inr p) = get_or-set_other w.sites e.site j (site_of e.after) no_site p.0 ∙ shows.site j x p.1

    of_place : (j : ℕ) (x : SiteView K) → ((j ≡ e.site) × (x ≡ e.after)) ⊎ ((j ≢ e.site) × (slice_get s.books j ≡ Some x)) → office_at w j ≡ x.book.office
    of_place j x (inl p) = ap (office_at w) p.0 ∙ shows.office e.site old found ∙ sym same ∙ ap (λ (v : SiteView K). v.book.office) (sym p.1)
    of_place j x (inr p) = shows.office j x p.1

    ne : (j : ℕ) → length (set s.books e.site e.after) ≤ j → j ≡ e.site → ⊥
    ne j past q = omega (arith, past, q, slice_get_within s.books e.site old found, length-set s.books e.site e.after)

-- where all sites that can be are there, none is added
same_widened : (w : World) (sites limit : ℕ) → sites ≤ count w → widened sites limit w ≡ w
same_widened w sites limit le =
    let none : sites - count w ≡ 0 = omega (arith, le) in
    (λ k. record {
      limits = w.limits ++ replicate (none k) limit;
      counts = w.counts ++ replicate (none k) sites;
      sites = w.sites ++ replicate (none k) no_site;
      sent = w.sent;
    })
    ∙ (λ k. record { limits = append-nil w.limits k; counts = append-nil w.counts k; sites = append-nil w.sites k; sent = w.sent })

within : (w : World) (sites : ℕ) → count w ≡ max_sites → sites ≤ most_sites → sites ≤ count w
unfolding max_sites
within w sites is le = omega (arith, is, le)

pub grow_adds_none : (w : World) (office : SiteConfig) (h : List Entry) (sites i : ℕ) → count w ≡ max_sites
    → widened_by (growing.entry_of_grow office h sites) i w ≡ w
grow_adds_none w office h sites i whole = by_test (nat_le sites most_sites) refl
  where
    by_decision : (d : GrowDecision) → sites ≤ most_sites → widened_by (grown_if d sites) i w ≡ w
    by_decision growing.Grows le = same_widened w sites (get_or w.limits i 0) (within w sites whole le)
    by_decision growing.NotMore le = refl
    by_decision growing.Full le = refl

    by_test : (b : Bool) → nat_le sites most_sites ≡ b → widened_by (cond b (grown_if (grow_decision office h sites) sites) None) i w ≡ w
    by_test true q = by_decision (grow_decision office h sites) (leb-true sites most_sites q)
    by_test false q = refl
