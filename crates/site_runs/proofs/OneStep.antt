-- A call of a site is a step of its world, or none.
use Rattle.std.proofs.Common.{◌≡◌, inl, inr, ℕ, zero, suc, ◌<◌, Bool, true, false, cond, not, ◌&&◌, ◌||◌, List, [], ◌∷◌, ◌++◌, Option, Some, None, refl, sym, ap, ◌∙◌, subst, arith, length, set, eqb-true, ne_eqb}
use Rattle.std.specs.Prelude.{slice_get, nat_lt, nat_le, ◌==◌}
use Rattle.std.proofs.lemmas.Bool.{cases_eq, lt-ltb, or_parts, not-false}
use Rattle.std.proofs.lemmas.Option.{slice_get_within}
use Rattle.rights_lattice.specs.Sums.{max_sites}
use Rattle.request_ledger.specs.declared.request.Request.{Request}
use Rattle.book_core.specs.declared.entry.Entry.{Entry}
use Rattle.book_core.specs.Decision.{SiteConfig, entry_of_ask, office_after, sites_of}
use Rattle.book_core.specs.Growing.{entry_of_grow}
use Rattle.site_exchange.specs.declared.message.Message.{Message}
use Rattle.site_exchange.specs.declared.message.Message.TheVariants.{Delta, Ack}
use Rattle.site_exchange.specs.declared.message.CheckFault.{CheckFault}
use Rattle.site_exchange.specs.declared.message.CheckFault.TheVariants as check_fault
use Rattle.site_exchange.specs.Exchange as exchange
use Rattle.site_exchange.specs.Exchange.{SitePart, Verdict, ack_for, addressed, check, entry_of_take, next, or_stray, receiver, unchecked, verdict, verdict_if, zeros}
use Rattle.site_exchange.specs.Taking.{ack_due, site_after, with_entry}
use Rattle.site_desk.specs.declared.answer.Taken.{Taken}
use Rattle.site_desk.specs.declared.answer.Taken.TheVariants as taken
use Rattle.site_desk.specs.Answers.{IsTaken, ack_of, is_peer}
use Rattle.site_desk.specs.SiteView.{SiteView, entry_in, growth_in, site_of, verdict_in}
use Rattle.world_steps.specs.declared.step.Step.{Step}
use Rattle.world_steps.specs.declared.step.Step.TheVariants.{Ask, Send, Deliver, Grow}
use Rattle.world_steps.specs.World.{World, count, site_numbered, history_at, office_at, at_site, are_peers, sends, asks, grows, judged, taken_with, delivered, entered, after, run}
use Rattle.world_steps.proofs.Worlds.{site_kept}
use Rattle.site_runs.specs.Runs.{IsOneOf, Sites}
use Rattle.site_runs.specs.Steps.{Shows}
use Rattle.site_runs.proofs.Moves.{grow_adds_none}

-- some steps put this site in its place and send this message, if any
pub record Made (w : World) (i : ℕ) (site : SitePart) (message : Option Message) : Type 0 where
  pub steps : List Step
  pub made : run steps w ≡ sends message (at_site w i site)

pub by_none : (w : World) (i : ℕ) (site : SitePart) → site ≡ site_numbered w i → Made w i site None
by_none w i site same = record { steps = []; made = sym (ap (at_site w i) same ∙ site_kept w i) }

pub by_one : (w : World) (i : ℕ) (site : SitePart) (message : Option Message) (step : Step) → after w step ≡ sends message (at_site w i site)
    → Made w i site message
by_one w i site message step is = record { steps = step ∷ []; made = is }

pub run-append : (steps more : List Step) (w : World) → run (steps ++ more) w ≡ run more (run steps w)
run-append [] more w = refl
run-append (step ∷ steps) more w = run-append steps more (after w step)

set_twice : {A : Type 0} (xs : List A) (i : ℕ) (x y : A) → set (set xs i x) i y ≡ set xs i y
set_twice [] i x y = refl
set_twice (z ∷ xs) zero x y = refl
set_twice (z ∷ xs) (suc i) x y = ap (λ zs. z ∷ zs) (set_twice xs i x y)

-- some steps, and then those that put this site in the same place
pub by_more : (w : World) (i : ℕ) (first site : SitePart) (message : Option Message) → Made w i first None → Made (at_site w i first) i site message
    → Made w i site message
by_more w i first site message begun rest = record {
  steps = begun.steps ++ rest.steps;
  made = run-append begun.steps rest.steps w ∙ ap (run rest.steps) begun.made ∙ rest.made
      ∙ ap (λ (ss : List SitePart). sends message (record w { sites = ss })) (set_twice w.sites i first site);
}

-- the site of a world that shows it
pub record IsHere {K : Type 0} (w : World) (i : ℕ) (old : SiteView K) : Type 0 where
  pub below : i < count w
  pub site : site_numbered w i ≡ site_of old
  pub office : office_at w i ≡ old.book.office

pub is_here : {K : Type 0} (w : World) (s : Sites K) (i : ℕ) (old : SiteView K) → Shows w s → slice_get s.books i ≡ Some old → IsHere w i old
is_here w s i old shows found = record {
  below = omega (arith, slice_get_within s.books i old found, shows.few, shows.count);
  site = shows.site i old found;
  office = shows.office i old found;
}

pub ask_step : {K : Type 0} (w : World) (i : ℕ) (old new : SiteView K) (number : ℕ) (request : Request) → IsHere w i old
    → site_of new ≡ with_entry (entry_in old.book number request) (site_of old)
    → Made w i (site_of new) None
ask_step w i old new number request here made =
    let there : nat_lt i (count w) ≡ true = lt-ltb i (count w) here.below in
    let is : with_entry (asks w i number request) (site_numbered w i) ≡ site_of new =
    (λ k. with_entry (entry_of_ask (here.office k) (here.site k).history number request) (here.site k)) ∙ sym made in
    by_one w i (site_of new) None (Ask i number request)
    (ap (λ b. cond b (at_site w i (with_entry (asks w i number request) (site_numbered w i))) w) there ∙ ap (at_site w i) is)

pub grow_step : {K : Type 0} (w : World) (i : ℕ) (old new : SiteView K) (sites : ℕ) → count w ≡ max_sites → IsHere w i old
    → site_of new ≡ with_entry (growth_in old.book sites) (site_of old)
    → Made w i (site_of new) None
grow_step w i old new sites whole here made =
    let there : nat_lt i (count w) ≡ true = lt-ltb i (count w) here.below in
    let is : with_entry (grows w i sites) (site_numbered w i) ≡ site_of new =
    (λ k. with_entry (entry_of_grow (here.office k) (here.site k).history sites) (here.site k)) ∙ sym made in
    by_one w i (site_of new) None (Grow i sites) (
    ap (λ b. cond b (entered (grows w i sites) i (with_entry (grows w i sites) (site_numbered w i)) w) w) there
    ∙ ap (λ v. at_site v i (with_entry (grows w i sites) (site_numbered w i))) (grow_adds_none w (office_at w i) (history_at w i) sites i whole)
    ∙ ap (at_site w i) is
    )

-- a message that is not refused is for the site that took it
to_me : (office : SiteConfig) (by to : ℕ) → addressed office by to ≡ None → to ≡ office.me
to_me office by to e = go (not (to == office.me) || (by == office.me)) (nat_le office.sites by) refl e
  where
    go : (a b : Bool) → (not (to == office.me) || (by == office.me)) ≡ a
        → cond a (Some check_fault.NotForMe) (cond b (Some check_fault.UnknownSite) None) ≡ None → to ≡ office.me
    go true b q found = cc
    go false b q found = eqb-true to office.me (not-false (to == office.me) (or_parts (not (to == office.me)) (by == office.me) q).0)

abbrev IsNotRefused : Verdict → Type 0
IsNotRefused (exchange.Refuses fault) = ⊥
IsNotRefused _ = Unit {0}

checked_none : (office : SiteConfig) (h : List Entry) (message : Message) → IsNotRefused (verdict office h message) → check office h message ≡ None
checked_none office h message ok = go (check office h message) ok
  where
    go : (o : Option CheckFault) → IsNotRefused (verdict_if o office h message) → o ≡ None
    go None ok = refl
    go (Some fault) ok = absurd ok

for_site : (office : SiteConfig) (h : List Entry) (message : Message) → check office h message ≡ None → receiver message ≡ office.me
for_site office h (Delta by to upto delta) e = to_me (office_after office h) by to e
for_site office h (Ack by to upto) e = to_me (office_after office h) by to (go (addressed (office_after office h) by to) e)
  where
    go : (o : Option CheckFault) → or_stray o upto (length h) ≡ None → o ≡ None
    go None e = refl
    go (Some fault) e = cc

taken_ok : (v : Verdict) (ack : Option Message) (t : Taken) → IsTaken v ack t → IsNotRefused v
taken_ok v ack (taken.Joined given) is = subst IsNotRefused (sym is.0) tt
taken_ok v ack (taken.NothingNew given) is = subst IsNotRefused (sym is.0) tt
taken_ok v ack taken.Acked is = subst IsNotRefused (sym is) tt

due_of : (v : Verdict) (message : Message) (t : Taken) → IsTaken v (ack_for message) t → ack_due v message ≡ ack_of t
due_of v message (taken.Joined given) is = ap (λ x. ack_due x message) is.0 ∙ is.1
due_of v message (taken.NothingNew given) is = ap (λ x. ack_due x message) is.0 ∙ is.1
due_of v message taken.Acked is = ap (λ x. ack_due x message) is

pub take_step : {K : Type 0} (w : World) (i : ℕ) (old new : SiteView K) (message : Message) (t : Taken) → old.book.office.me ≡ i → IsHere w i old
    → IsOneOf w.sent message
    → IsTaken (verdict_in old.book message) (ack_for message) t → site_of new ≡ site_after (verdict_in old.book message) message (site_of old)
    → Made w i (site_of new) (ack_of t)
take_step w i old new message t me here one is made =
    let v : Verdict = verdict_in old.book message in
    let to : receiver message ≡ i = for_site old.book.office old.book.history message
    (checked_none old.book.office old.book.history message (taken_ok v (ack_for message) t is)) ∙ me in
    let at_me : taken_with (judged w message) message w ≡ sends (ack_due (verdict (office_at w i) (history_at w i) message) message)
    (at_site w i (site_after (verdict (office_at w i) (history_at w i) message) message (site_numbered w i))) =
    λ k. sends (ack_due (verdict (office_at w (to k)) (history_at w (to k)) message) message)
    (at_site w (to k) (site_after (verdict (office_at w (to k)) (history_at w (to k)) message) message (site_numbered w (to k)))) in
    let as_seen : sends (ack_due (verdict (office_at w i) (history_at w i) message) message)
    (at_site w i (site_after (verdict (office_at w i) (history_at w i) message) message (site_numbered w i))) ≡ sends (ack_due v message)
    (at_site w i (site_after v message (site_of old))) =
    λ k. sends (ack_due (verdict (here.office k) (here.site k).history message) message)
    (at_site w i (site_after (verdict (here.office k) (here.site k).history message) message (here.site k))) in
    let told : sends (ack_due v message) (at_site w i (site_after v message (site_of old))) ≡ sends (ack_of t) (at_site w i (site_of new)) =
    λ k. sends (due_of v message t is k) (at_site w i (sym made k)) in
    by_one w i (site_of new) (ack_of t) (Deliver one.0) (ap (λ o. delivered w o) one.1 ∙ at_me ∙ as_seen ∙ told)

peer_same : (i j : ℕ) → (j == i) ≡ (i == j)
peer_same i j = elim (cases_eq i j) [
  | inl e ↦ ap (λ n. n == i) (sym e) ∙ ap (λ n. i == n) e
  | inr ne ↦ ne_eqb j i (λ e. ne (sym e)) ∙ sym (ne_eqb i j ne)
]

pub next_step : {K : Type 0} (w : World) (i : ℕ) (old new : SiteView K) (to : ℕ) (message : Option Message) → old.book.office.me ≡ i → IsHere w i old
    → new ≡ old → (is_peer old.book.office old.book.history to ≡ true) × (message ≡ next old.book.office.me (site_of old) to)
    → Made w i (site_of new) message
next_step {K} w i old new to message me here same is =
    let there : nat_lt i (count w) ≡ true = lt-ltb i (count w) here.below in
    let counted : sites_of (office_at w i) (history_at w i) ≡ sites_of old.book.office old.book.history = λ k. sites_of (here.office k) (here.site k).history in
    let peers : are_peers w i to ≡ true =
    (λ k. there k && nat_lt to (counted k) && not (i == to))
    ∙ ap (λ b. nat_lt to (sites_of old.book.office old.book.history) && not b) (sym (peer_same i to) ∙ ap (λ n. to == n) (sym me)) ∙ is.0 in
    let due : next i (site_numbered w i) to ≡ message = (λ k. next (sym me k) (here.site k) to) ∙ sym is.1 in
    let stays : w ≡ at_site w i (site_of new) = sym (ap (at_site w i) (ap (λ (v : SiteView K). site_of v) same ∙ sym here.site) ∙ site_kept w i) in
    by_one w i (site_of new) message (Send i to) (ap (λ b. cond b (sends (next i (site_numbered w i) to) w) w) peers ∙ (λ k. sends (due k) (stays k)))
