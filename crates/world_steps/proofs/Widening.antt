-- Sites that are added leave what holds of a world, and so does an entry with the sites that it adds.
use Rattle.std.proofs.Common.{◌≡◌, inl, inr, ℕ, zero, suc, ◌+◌, ◌-◌, ◌≤◌, ◌<◌, Bool, true, false, List, [], ◌∷◌, ◌++◌, Option, Some, None, refl, sym, ap, ◌∙◌, subst, arith, take, get_or, replicate, length-append, length-set}
use Rattle.std.specs.Prelude.{slice_get}
use Rattle.std.proofs.lemmas.Bool.{cases_lt}
use Rattle.std.proofs.lemmas.List.{append-nil, length-replicate, get_or_append_left, get_or-append_right, get_or-replicate, get_or_past}
use Rattle.rights_lattice.specs.Sums.{max_sites}
use Rattle.request_ledger.specs.declared.request.Request.{Request}
use Rattle.book_core.specs.declared.entry.Entry.{Entry}
use Rattle.book_core.specs.declared.entry.Entry.TheVariants.{Asked, Joined, Grown}
use Rattle.book_core.specs.History.{state_of}
use Rattle.book_core.specs.Decision as decided
use Rattle.book_core.specs.Decision.{SiteConfig, decision, entry_of_ask, sites_of}
use Rattle.book_core.specs.Legal.{IsNext, IsLegal}
use Rattle.book_core.proofs.Histories.{sites_of-push}
use Rattle.site_exchange.specs.declared.message.Message.{Message}
use Rattle.site_exchange.specs.declared.message.Message.TheVariants.{Delta, Ack}
use Rattle.site_exchange.specs.Exchange as exchange
use Rattle.site_exchange.specs.Exchange.{SitePart, Verdict, verdict, entry_of_take}
use Rattle.site_exchange.specs.Taking.{extended}
use Rattle.world_steps.specs.declared.step.Input.{Input}
use Rattle.world_steps.specs.declared.step.Input.TheVariants as input
use Rattle.world_steps.specs.World.{World, count, no_site, site_numbered, history_at, office_at, count_at, widened, widened_by, entered, entry_if_sent, entry_if_stored, entry_of_input, IsGrowth}
use Rattle.world_steps.proofs.Worlds.{WorldExtends, IsAcked, Sound, HasVersion, MayFollow, GoesOn, acked_extends, version_extends, sound_extends, goes_on, sound_site}

-- ---- more sites

padded : {A : Type 0} (xs : List A) (n i : ℕ) (d : A) → get_or (xs ++ replicate n d) i d ≡ get_or xs i d
padded [] zero i d = refl
padded [] (suc n) zero d = refl
padded [] (suc n) (suc i) d = padded [] n i d
padded (x ∷ xs) n zero d = refl
padded (x ∷ xs) n (suc i) d = padded xs n i d

-- each site, there or not, is the one that it was
pub site_widened : (w : World) (sites limit i : ℕ) → site_numbered (widened sites limit w) i ≡ site_numbered w i
site_widened w sites limit i = padded w.sites (sites - count w) i no_site

pub count_widened : (w : World) (sites limit : ℕ) → count (widened sites limit w) ≡ count w + (sites - count w)
count_widened w sites limit = length-append w.sites (replicate (sites - count w) no_site) ∙ ap (λ n. count w + n) (length-replicate (sites - count w) no_site)

-- each site that was there is of the office that it was of
pub office_widened : (w : World) (sites limit i : ℕ) → Sound w → i < count w → office_at (widened sites limit w) i ≡ office_at w i
office_widened w sites limit i sound l =
    let lacking : ℕ = sites - count w in
    let count_is = get_or_append_left w.counts (replicate lacking sites) 0 i (omega (arith, l, sound.counts)) in
    let limit_is = get_or_append_left w.limits (replicate lacking limit) 0 i (omega (arith, l, sound.limits)) in
    λ k. record { me = i; sites = count_is k; limit = limit_is k }

-- a site that is added counts so many
count_added : (w : World) (sites limit i : ℕ) → Sound w → count w ≤ i → i < count (widened sites limit w) → get_or (widened sites limit w).counts i 0 ≡ sites
count_added w sites limit i sound m l =
    get_or-append_right w.counts (replicate (sites - count w) sites) (count w) i 0 sound.counts m
    ∙ get_or-replicate (sites - count w) (i - count w) sites 0 (omega (arith, m, l, count_widened w sites limit))

pub widened_extends : (w : World) (sites limit : ℕ) → WorldExtends w (widened sites limit w)
widened_extends w sites limit = record {
  count = omega (arith, count_widened w sites limit);
  histories = λ i. ([], ap (λ (s : SitePart). s.history) (site_widened w sites limit i) ∙ sym (append-nil (history_at w i)));
}

pub sound_widened : (w : World) (sites limit : ℕ) → Sound w → Sound (widened sites limit w)
sound_widened w sites limit sound =
    record {
      legal = legal_at;
      versions = λ i a k. subst (λ (s : SitePart). HasVersion v k (state_of (take a s.history))) (sym (site_widened w sites limit i))
          (version_extends w v k (state_of (take a (history_at w i))) grown (sound.versions i a k));
      sent = λ k message found. sound_extends w v message grown (sound.sent k message found);
      acked = λ i j. subst (λ (s : SitePart). IsAcked v i j (get_or s.acked j 0)) (sym (site_widened w sites limit i))
          (acked_extends w v i j (get_or (site_numbered w i).acked j 0) grown (sound.acked i j));
      limits = omega (arith, sound.limits, length-append w.limits (replicate lacking limit), length-replicate lacking limit, more);
      counts = omega (arith, sound.counts, length-append w.counts (replicate lacking sites), length-replicate lacking sites, more);
      own = own_at;
      few = few_at;
    }
  where
    v : World
    v = widened sites limit w

    lacking : ℕ
    lacking = sites - count w

    more : count (widened sites limit w) ≡ count w + (sites - count w)
    more = count_widened w sites limit

    grown : WorldExtends w (widened sites limit w)
    grown = widened_extends w sites limit

    none : (i : ℕ) → count w ≤ i → history_at (widened sites limit w) i ≡ []
    none i m = ap (λ (s : SitePart). s.history) (site_widened w sites limit i ∙ get_or_past w.sites i no_site m)

    legal_at : (i : ℕ) → IsLegal (office_at (widened sites limit w) i) (history_at (widened sites limit w) i)
    legal_at i = elim (cases_lt i (count w)) [
      | inl l ↦ subst (λ (o : SiteConfig). IsLegal o (history_at (widened sites limit w) i)) (sym (office_widened w sites limit i sound l))
          (subst (λ (s : SitePart). IsLegal (office_at w i) s.history) (sym (site_widened w sites limit i)) (sound.legal i))
      | inr m ↦ λ k entry found. cc (ap (λ (h : List Entry). slice_get h k) (none i m))
    ]

    own_at : (i : ℕ) → i < count (widened sites limit w) → i < get_or (widened sites limit w).counts i 0
    own_at i l = elim (cases_lt i (count w)) [
      | inl here ↦ omega (arith, sound.own i here, ap (λ (o : SiteConfig). o.sites) (office_widened w sites limit i sound here))
      | inr m ↦ omega (arith, count_added w sites limit i sound m l, l, m, more)
    ]

    few_at : (i : ℕ) → count_at (widened sites limit w) i ≤ count (widened sites limit w)
    few_at i = elim (cases_lt i (count w)) [
      | inl l ↦ omega (
        arith,
        sound.few i,
        ap (λ (o : SiteConfig). sites_of o (history_at (widened sites limit w) i)) (office_widened w sites limit i sound l),
        ap (λ (s : SitePart). sites_of (office_at w i) s.history) (site_widened w sites limit i),
        more,
      )
      | inr m ↦ elim (cases_lt i (count (widened sites limit w))) [
        | inl l ↦ omega (
          arith,
          ap (λ (h : List Entry). sites_of (office_at (widened sites limit w) i) h) (none i m),
          count_added w sites limit i sound m l,
          m,
          l,
          more,
        )
        | inr past ↦ omega (
          arith,
          ap (λ (h : List Entry). sites_of (office_at (widened sites limit w) i) h) (none i m),
          get_or_past (widened sites limit w).counts i 0
              (omega (arith, sound.counts, length-append w.counts (replicate lacking sites), length-replicate lacking sites, more, past)),
        )
      ]
    ]

-- ---- an entry, with the sites that it adds

-- a count that an entry leaves is that of a site that is there
pub fewer : (w : World) (i : ℕ) (o : Option Entry) → Sound w → sites_of (office_at w i) (extended o (history_at w i)) ≤ count (widened_by o i w)
fewer w i None sound = sound.few i
fewer w i (Some (Asked number request reply delta)) sound = omega
    (arith, sound.few i, sites_of-push (office_at w i) (history_at w i) (Asked number request reply delta))
fewer w i (Some (Joined peer delta)) sound = omega (arith, sound.few i, sites_of-push (office_at w i) (history_at w i) (Joined peer delta))
fewer w i (Some (Grown sites)) sound =
    omega (arith, count_widened w sites (get_or w.limits i 0), sites_of-push (office_at w i) (history_at w i) (Grown sites))

pub more_by : (w : World) (i : ℕ) (o : Option Entry) → count w ≤ count (widened_by o i w)
more_by w i None = omega arith
more_by w i (Some (Asked number request reply delta)) = omega arith
more_by w i (Some (Joined peer delta)) = omega arith
more_by w i (Some (Grown sites)) = omega (arith, count_widened w sites (get_or w.limits i 0))

-- the world with the sites that an entry of site i adds
record IsWider (w v : World) (i : ℕ) : Type 0 where
  sound : Sound v
  grows : WorldExtends w v
  site : site_numbered v i ≡ site_numbered w i
  office : office_at v i ≡ office_at w i

still : (w : World) (i : ℕ) → Sound w → IsWider w w i
still w i sound = record {
  sound = sound;
  grows = record { count = omega arith; histories = λ j. ([], sym (append-nil (history_at w j))) };
  site = refl;
  office = refl;
}

wider : (w : World) (i : ℕ) (o : Option Entry) → Sound w → i < count w → IsWider w (widened_by o i w) i
wider w i None sound l = still w i sound
wider w i (Some (Asked number request reply delta)) sound l = still w i sound
wider w i (Some (Joined peer delta)) sound l = still w i sound
wider w i (Some (Grown sites)) sound l =
    let limit : ℕ = get_or w.limits i 0 in
    record {
      sound = sound_widened w sites limit sound;
      grows = widened_extends w sites limit;
      site = site_widened w sites limit i;
      office = office_widened w sites limit i sound l;
    }

-- what may follow the history of site i may do so with more sites
may_widened : (w v : World) (i : ℕ) (o : Option Entry) → IsWider w v i → MayFollow w i o → MayFollow v i o
may_widened w v i None wide may = tt
may_widened w v i (Some entry) wide may = (
  subst (λ (o : SiteConfig). IsNext o (history_at v i) entry) (sym wide.office)
      (subst (λ (s : SitePart). IsNext (office_at w i) s.history entry) (sym wide.site) may.0),
  λ k ne. subst (λ (s : SitePart). HasVersion v k (state_of (s.history ++ entry ∷ []))) (sym wide.site)
      (version_extends w v k (state_of (history_at w i ++ entry ∷ [])) wide.grows (may.1 k ne)),
)

-- an entry that may follow keeps what holds, with the sites that it adds
pub sound_entered : (w : World) (i : ℕ) (o : Option Entry) (site : SitePart) → Sound w → i < count w → MayFollow w i o
    → site.history ≡ extended o (history_at w i)
    → ((j : ℕ) → IsAcked w i j (get_or site.acked j 0)) → Sound (entered o i site w)
sound_entered w i o site sound l may is acked =
    let v : World = widened_by o i w in
    let wide = wider w i o sound l in
    let history_is : extended o (history_at v i) ≡ site.history = ap (λ (s : SitePart). extended o s.history) wide.site ∙ sym is in
    sound_site v i site wide.sound (omega (arith, l, wide.grows.count))
    (subst (GoesOn v i) history_is (goes_on v i o wide.sound (may_widened w v i o wide may)))
    (omega (arith, fewer w i o sound, ap (λ (f : SiteConfig). sites_of f site.history) wide.office, ap (sites_of (office_at w i)) is))
    (λ j. acked_extends w v i j (get_or site.acked j 0) wide.grows (acked j))

-- no more sites than there can be are added
pub few_entered : (w : World) (i : ℕ) (o : Option Entry) (site : SitePart) → MayFollow w i o → count w ≤ max_sites → count (entered o i site w) ≤ max_sites
unfolding max_sites
few_entered w i o site may few = omega (arith, length-set (widened_by o i w).sites i site, by_entry o may)
  where
    by_entry : (o : Option Entry) → MayFollow w i o → count (widened_by o i w) ≤ 64
    by_entry None may = few
    by_entry (Some (Asked number request reply delta)) may = few
    by_entry (Some (Joined peer delta)) may = few
    by_entry (Some (Grown sites)) may = omega (arith, few, may.0.few, count_widened w sites (get_or w.limits i 0))

-- asking adds no sites
pub ask_adds_none : (office : SiteConfig) (h : List Entry) (number : ℕ) (request : Request) (i : ℕ) (w : World)
    → widened_by (entry_of_ask office h number request) i w ≡ w
ask_adds_none office h number request i w = by_decision (decision office h number request)
  where
    by_decision : (d : decided.Decision) → widened_by (decided.entry_if d office h number request) i w ≡ w
    by_decision (decided.Again place reply) = refl
    by_decision (decided.Reused place) = refl
    by_decision decided.Full = refl
    by_decision (decided.Fresh reply) = refl

-- nor does taking a message
pub take_adds_none : (office : SiteConfig) (h : List Entry) (message : Message) (i : ℕ) (w : World) → widened_by (entry_of_take office h message) i w ≡ w
take_adds_none office h message i w = by_verdict (verdict office h message) message
  where
    by_verdict : (v : Verdict) (m : Message) → widened_by (exchange.taken_if v m) i w ≡ w
    by_verdict exchange.Joins (Delta by to upto delta) = refl
    by_verdict exchange.Joins (Ack by to upto) = refl
    by_verdict exchange.NothingNew m = refl
    by_verdict exchange.Acks m = refl
    by_verdict (exchange.Refuses fault) m = refl

-- nor does a stop in the midst of either
pub input_adds_none : (office : SiteConfig) (h : List Entry) (sent : List Message) (in_hand : Input) → (IsGrowth in_hand → ⊥)
    → (stored : Bool) (i : ℕ) (w : World)
    → widened_by (entry_if_stored stored (entry_of_input office h sent in_hand)) i w ≡ w
input_adds_none office h sent in_hand kind false i w = refl
input_adds_none office h sent (input.Request number request) kind true i w = ask_adds_none office h number request i w
input_adds_none office h sent (input.Grow sites) kind true i w = absurd (kind tt)
input_adds_none office h sent (input.Take index) kind true i w = by_message (slice_get sent index)
  where
    by_message : (o : Option Message) → widened_by (entry_if_sent office h o) i w ≡ w
    by_message None = refl
    by_message (Some message) = take_adds_none office h message i w
