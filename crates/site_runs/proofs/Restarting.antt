-- What a stop may leave of a site, and that a start from it is a step.
use Rattle.std.proofs.Common.{◌≡◌, ◌≢◌, ◌⊎◌, inl, inr, ℕ, zero, suc, Bool, true, false, cond, ◌&&◌, List, [], ◌∷◌, ◌++◌, Option, Some, None, refl, sym, ap, ◌∙◌, subst, length}
use Rattle.std.specs.Prelude.{slice_get, nat_lt, Result, Err, IfErr, OnErr}
use Rattle.std.proofs.lemmas.Bool.{lt-ltb}
use Rattle.std.proofs.lemmas.Option.{slice_get_within, same_Some}
use Rattle.rights_lattice.specs.Sums.{max_sites}
use Rattle.request_ledger.specs.declared.request.Request.{Request}
use Rattle.book_core.specs.declared.entry.Entry.{Entry}
use Rattle.book_core.specs.Decision.{SiteConfig, entry_of_ask}
use Rattle.book_core.specs.Growing.{entry_of_grow}
use Rattle.site_exchange.specs.declared.message.Message.{Message}
use Rattle.site_exchange.specs.Exchange.{SitePart, entry_of_take, zeros}
use Rattle.site_exchange.specs.Taking.{extended, restarted, with_entry, with_given}
use Rattle.history_keeper.specs.Keeping.{LeavesEither, LeavesOnly}
use Rattle.site_desk.specs.SiteView.{SiteView, site_of}
use Rattle.world_steps.specs.declared.step.Input.{Input}
use Rattle.world_steps.specs.declared.step.Input.TheVariants as input
use Rattle.world_steps.specs.declared.step.Step.TheVariants.{Restart, Stop}
use Rattle.world_steps.specs.World.{World, count, site_numbered, history_at, office_at, at_site, widened_by, entry_if_sent, entry_of_input, is_there, stopped_in}
use Rattle.world_steps.proofs.Widening.{ask_adds_none, take_adds_none}
use Rattle.site_desk.specs.declared.answer.Answer.{Answer}
use Rattle.site_desk.specs.declared.fault.AskFault.{AskFault}
use Rattle.site_desk.specs.declared.fault.AskFault.TheVariants as ask
use Rattle.site_desk.specs.Batch.{AreAnswered, LeavesAsked}
use Rattle.site_desk.specs.Calls.{AskAllCall, Keeping, SiteCall}
use Rattle.site_runs.specs.Runs.{IsOneOf, Restarted, Starts, IsGenuine, IsLeft, Call, Asks, AsksAll, Takes, Grows, Gives, Restarts, Crashes}
use Rattle.site_runs.proofs.Asking.{asked_restart}
use Rattle.site_runs.proofs.Moves.{grow_adds_none}
use Rattle.site_runs.proofs.OneStep.{Made, by_one, IsHere}

-- what a site had in hand when its store failed
pub data Held : Type 0 where
  OfRequest : (number : ℕ) → (request : Request) → Held
  OfMessage : (message : Message) → Held
  OfGrowth : (sites : ℕ) → Held

abbrev pub entry_held : Held → SiteConfig → List Entry → Option Entry
entry_held (OfRequest number request) office h = entry_of_ask office h number request
entry_held (OfMessage message) office h = entry_of_take office h message
entry_held (OfGrowth sites) office h = entry_of_grow office h sites

abbrev pub IsHeld : List Message → Held → Type 0
IsHeld given (OfRequest number request) = Unit {0}
IsHeld given (OfMessage message) = IsOneOf given message
IsHeld given (OfGrowth sites) = Unit {0}

-- a stop may leave the history, or it with the one entry that was in hand
abbrev pub LeavesHeld : {K : Type 0} → Keeping K → List Message → SiteView K → Type 0
LeavesHeld k given site = (held : Held) × IsHeld given held
    × LeavesEither site.book.history (entry_held held site.book.office site.book.history) (k.may_leave site.keeper)

-- a stop may leave the history, or it with all that the requests that were in hand make of it
abbrev pub LeavesAll : {K : Type 0} → Keeping K → SiteView K → Type 0
LeavesAll k site = (requests : List (ℕ × Request))
    × LeavesAsked site.book.office site.book.history requests (k.is_trusted site.keeper) (k.may_leave site.keeper)

-- what a stop may leave of the site
pub record CanRestart {K : Type 0} (k : Keeping K) (given : List Message) (site : SiteView K) : Type 0 where
  pub opened : site.closed ≡ false → k.is_trusted site.keeper → LeavesOnly site.book.history (k.may_leave site.keeper)
  pub shut : site.closed ≡ true → k.is_trusted site.keeper → LeavesHeld k given site ⊎ LeavesAll k site

pub came_keeps : {K T F : Type 0} (k : Keeping K) (given : List Message) (old new : SiteView K) (held : Held) (due : SitePart) (closed store : F)
    (answer : Result T F)
    → SiteCall k old new (entry_held held old.book.office old.book.history) due closed store answer → (closed ≡ store → ⊥)
    → (answer ≡ Err store → IsHeld given held) → CanRestart k given old → CanRestart k given new
came_keeps {K} {T} {F} k given old new held due closed store answer came ne is_held can =
    record {
      opened = came.rests;
      shut = λ is trusted. by_cause trusted (came.closes.0 is);
    }
  where
    by_cause : k.is_trusted new.keeper → (old.closed ≡ true) ⊎ (answer ≡ Err store) → LeavesHeld k given new ⊎ LeavesAll k new
    by_cause trusted (inl was) =
        let q : answer ≡ Err closed = came.shut.1 was in
        let kept : new.keeper ≡ old.keeper = subst (λ (a : Result T F). IfErr a (λ fault. fault ≢ store → new.keeper ≡ old.keeper)) q came.untouched ne in
        let same : site_of new ≡ site_of old = subst (λ (a : Result T F). OnErr a (site_of new ≡ site_of old)) q came.unchanged in
        elim (can.shut was (subst k.is_trusted kept trusted)) [
          | inl before ↦ inl (
            before.0,
            before.1,
            subst (λ (o : SiteConfig). LeavesEither new.book.history (entry_held before.0 o new.book.history) (k.may_leave new.keeper)) (sym came.office)
                (subst (λ (s : SitePart). LeavesEither s.history (entry_held before.0 old.book.office s.history) (k.may_leave new.keeper)) (sym same)
                (subst (λ (p : K). LeavesEither old.book.history (entry_held before.0 old.book.office old.book.history) (k.may_leave p)) (sym kept) before.2)),
          )
          | inr before ↦ inr (
            before.0,
            subst (λ (o : SiteConfig). LeavesAsked o new.book.history before.0 (k.is_trusted new.keeper) (k.may_leave new.keeper)) (sym came.office)
                (subst (λ (s : SitePart). LeavesAsked old.book.office s.history before.0 (k.is_trusted new.keeper) (k.may_leave new.keeper)) (sym same)
                (subst (λ (p : K). LeavesAsked old.book.office old.book.history before.0 (k.is_trusted p) (k.may_leave p)) (sym kept) before.1)),
          )
        ]
    by_cause trusted (inr failed) =
        let same : site_of new ≡ site_of old = subst (λ (a : Result T F). OnErr a (site_of new ≡ site_of old)) failed came.unchanged in
        inl (
          held,
          is_held failed,
          subst (λ (o : SiteConfig). LeavesEither new.book.history (entry_held held o new.book.history) (k.may_leave new.keeper)) (sym came.office)
              (subst (λ (s : SitePart). LeavesEither s.history (entry_held held old.book.office s.history) (k.may_leave new.keeper)) (sym same)
              (came.stopped failed trusted)),
        )

-- the same behind several requests
pub asked_all_keeps : {K : Type 0} (k : Keeping K) (given : List Message) (old new : SiteView K) (requests : List (ℕ × Request))
    (result : Result (List (Result Answer AskFault)) AskFault)
    → AskAllCall k old new requests result → CanRestart k given old → CanRestart k given new
asked_all_keeps {K} k given old new requests result came can =
    record {
      opened = came.rests;
      shut = λ is trusted. by_cause is trusted (came.closes.0 is);
    }
  where
    by_cause : new.closed ≡ true → k.is_trusted new.keeper → (old.closed ≡ true) ⊎ (result ≡ Err ask.Store) → LeavesHeld k given new ⊎ LeavesAll k new
    by_cause is trusted (inl was) =
        let same : new ≡ old = subst (λ (a : Result (List (Result Answer AskFault)) AskFault). IfErr a (λ fault. fault ≢ ask.Store → new ≡ old))
        (came.shut.1 was) came.untouched (λ e. cc) in
        (subst (CanRestart k given) (sym same) can).shut is trusted
    by_cause is trusted (inr failed) =
        let same : new.book.history ≡ old.book.history = subst
        (λ (a : Result (List (Result Answer AskFault)) AskFault). OnErr a (new.book.history ≡ old.book.history)) failed came.unchanged in
        inr (
          requests,
          subst (λ (o : SiteConfig). LeavesAsked o new.book.history requests (k.is_trusted new.keeper) (k.may_leave new.keeper)) (sym came.office)
              (subst (λ (h : List Entry). LeavesAsked old.book.office h requests (k.is_trusted new.keeper) (k.may_leave new.keeper)) (sym same)
              (came.stopped failed)),
        )

pub started_can : {K : Type 0} (k : Keeping K) (given : List Message) (old new : SiteView K) (h : List Entry) → Starts k old new h → CanRestart k given new
started_can k given old new h r = record { opened = λ q trusted. r.rests trusted; shut = λ q. cc (q, r.opened) }

-- messages stay where they are
pub sent_stays : (given : List Message) (m : Option Message) (index : ℕ) (message : Message) → slice_get given index ≡ Some message
    → slice_get (with_given given m) index ≡ Some message
sent_stays given None index message found = found
sent_stays given (Some more) index message found = go given index found
  where
    go : (ms : List Message) (j : ℕ) → slice_get ms j ≡ Some message → slice_get (ms ++ more ∷ []) j ≡ Some message
    go [] j found = cc
    go (x ∷ ms) zero found = found
    go (x ∷ ms) (suc j) found = go ms j found

held_stays : (given : List Message) (m : Option Message) (held : Held) → IsHeld given held → IsHeld (with_given given m) held
held_stays given m (OfRequest number request) is = is
held_stays given m (OfMessage message) is = (is.0, sent_stays given m is.0 message is.1)
held_stays given m (OfGrowth sites) is = is

pub can_stays : {K : Type 0} (k : Keeping K) (given : List Message) (m : Option Message) (site : SiteView K) → CanRestart k given site
    → CanRestart k (with_given given m) site
can_stays k given m site can = record {
  opened = can.opened;
  shut = λ q trusted. elim (can.shut q trusted) [
    | inl was ↦ inl (was.0, held_stays given m was.0 was.1, was.2)
    | inr was ↦ inr was
  ];
}

-- what was in hand, as an input of the world
record InHand (w : World) (i : ℕ) (held : Held) : Type 0 where
  in_hand : Input
  there : is_there w.sent in_hand ≡ true
  entry : entry_of_input (office_at w i) (history_at w i) w.sent in_hand ≡ entry_held held (office_at w i) (history_at w i)
  none : widened_by (entry_held held (office_at w i) (history_at w i)) i w ≡ w

in_hand_of : (w : World) (i : ℕ) (held : Held) → count w ≡ max_sites → IsHeld w.sent held → InHand w i held
in_hand_of w i (OfRequest number request) whole is =
    record { in_hand = input.Request number request; there = refl; entry = refl; none = ask_adds_none (office_at w i) (history_at w i) number request i w }
in_hand_of w i (OfMessage message) whole is =
    record {
      in_hand = input.Take is.0;
      there = lt-ltb is.0 (length w.sent) (slice_get_within w.sent is.0 message is.1);
      entry = ap (entry_if_sent (office_at w i) (history_at w i)) is.1;
      none = take_adds_none (office_at w i) (history_at w i) message i w;
    }
in_hand_of w i (OfGrowth sites) whole is =
    record { in_hand = input.Grow sites; there = refl; entry = refl; none = grow_adds_none w (office_at w i) (history_at w i) sites i whole }

restart_same : {K : Type 0} (w : World) (i : ℕ) (old new : SiteView K) → IsHere w i old → new.book.history ≡ old.book.history → new.acked ≡ zeros
    → Made w i (site_of new) None
restart_same w i old new here same acked =
    let is : restarted (site_numbered w i) ≡ site_of new = ap restarted here.site ∙ sym (λ k. record { history = same k; acked = acked k }) in
    by_one w i (site_of new) None (Restart i) (ap (λ b. cond b (at_site w i (restarted (site_numbered w i))) w) (lt-ltb i (count w) here.below)
    ∙ ap (at_site w i) is)

stop_step : {K : Type 0} (w : World) (i : ℕ) (old new : SiteView K) (held : Held) (entry : Entry) → IsHere w i old → InHand w i held
    → entry_held held old.book.office old.book.history ≡ Some entry
    → new.book.history ≡ old.book.history ++ entry ∷ [] → new.acked ≡ zeros → Made w i (site_of new) None
stop_step w i old new held entry here hand q more acked =
    let added : Option Entry = entry_of_input (office_at w i) (history_at w i) w.sent hand.in_hand in
    let due : Option Entry = entry_held held (office_at w i) (history_at w i) in
    let there : nat_lt i (count w) && is_there w.sent hand.in_hand ≡ true = λ k. lt-ltb i (count w) here.below k && hand.there k in
    by_one w i (site_of new) None (Stop i hand.in_hand true) (
    ap (λ b. cond b (stopped_in w i added true) w) there
    ∙ ap (λ (e : Option Entry). at_site (widened_by e i w) i (restarted (with_entry e (site_numbered w i)))) hand.entry
    ∙ ap (λ (v : World). at_site v i (restarted (with_entry due (site_numbered w i)))) hand.none
    ∙ (λ k. at_site w i (restarted (with_entry (entry_held held (here.office k) (here.site k).history) (here.site k))))
    ∙ ap (λ (e : Option Entry). at_site w i (restarted (with_entry e (site_of old)))) q
    ∙ ap (at_site w i) (sym (λ k. record { history = more k; acked = acked k }))
    )

-- a start from what a stop left is a step
pub restart_step : {K : Type 0} (k : Keeping K) (w : World) (i : ℕ) (old new : SiteView K) → count w ≡ max_sites → IsHere w i old → CanRestart k w.sent old
    → Restarted k old new → Made w i (site_of new) None
restart_step {K} k w i old new whole here can r = by_closed old.closed refl
  where
    by_entry : (held : Held) → IsHeld w.sent held → (o : Option Entry) → entry_held held old.book.office old.book.history ≡ o
        → LeavesEither old.book.history o (k.may_leave old.keeper) → Made w i (site_of new) None
    by_entry held is None q either = absurd either
    by_entry held is (Some entry) q either = elim (either (Some new.book.history) r.left) [
      | inl same ↦ restart_same w i old new here (same_Some new.book.history old.book.history same) r.starts.acked
      | inr more ↦ stop_step w i old new held entry here (in_hand_of w i held whole is) q
          (same_Some new.book.history (old.book.history ++ entry ∷ []) more) r.starts.acked
    ]

    by_requests : LeavesAll k old → Made w i (site_of new) None
    by_requests was = elim (was.1.leaves r.trusted (Some new.book.history) r.left) [
      | inl same ↦ restart_same w i old new here (same_Some new.book.history old.book.history same) r.starts.acked
      | inr all ↦ asked_restart w i old new was.0 was.1.answers here
          (subst (AreAnswered old.book.office old.book.history was.0 was.1.answers) (sym (same_Some new.book.history was.1.after all)) was.1.answered)
          r.starts.acked
    ]

    by_closed : (b : Bool) → old.closed ≡ b → Made w i (site_of new) None
    by_closed false q = restart_same w i old new here
        (same_Some new.book.history old.book.history ((can.opened q r.trusted).alone (Some new.book.history) r.left)) r.starts.acked
    by_closed true q = elim (can.shut q r.trusted) [
      | inl was ↦ by_entry was.0 was.1 (entry_held was.0 old.book.office old.book.history) refl was.2
      | inr was ↦ by_requests was
    ]

-- a start from what was left by a stop with this in hand
held_step : {K : Type 0} (w : World) (i : ℕ) (old new : SiteView K) (held : Held) (stored : Bool) → count w ≡ max_sites → IsHere w i old → IsHeld w.sent held
    → new.book.history ≡ extended (cond stored (entry_held held old.book.office old.book.history) None) old.book.history → new.acked ≡ zeros
    → Made w i (site_of new) None
held_step w i old new held false whole here is left acked = restart_same w i old new here left acked
held_step {K} w i old new held true whole here is left acked = by_entry (entry_held held old.book.office old.book.history) refl
  where
    by_entry : (o : Option Entry) → entry_held held old.book.office old.book.history ≡ o → Made w i (site_of new) None
    by_entry None q = restart_same w i old new here (left ∙ ap (λ (o : Option Entry). extended o old.book.history) q) acked
    by_entry (Some entry) q = stop_step w i old new held entry here (in_hand_of w i held whole is) q
        (left ∙ ap (λ (o : Option Entry). extended o old.book.history) q) acked

none_left : (stored : Bool) (h : List Entry) → extended (cond stored None None) h ≡ h
none_left true h = refl
none_left false h = refl

-- a stop in the midst of a call, and the start behind it, are a step; those of several requests that were stored are one for each, and a restart
pub crash_step : {K : Type 0} (w : World) (i : ℕ) (old new : SiteView K) (in_hand : Call) (stored : Bool) → count w ≡ max_sites → IsHere w i old
    → IsGenuine w.sent in_hand
    → IsLeft old.book in_hand stored new.book.history → new.acked ≡ zeros → Made w i (site_of new) None
crash_step w i old new (Asks number request answer) stored whole here is left acked = held_step w i old new (OfRequest number request) stored whole here tt
    left acked
crash_step w i old new (AsksAll requests result) true whole here is left acked = asked_restart w i old new requests left.0 here left.1 acked
crash_step w i old new (AsksAll requests result) false whole here is left acked = restart_same w i old new here left acked
crash_step w i old new (Takes message answer) stored whole here is left acked = held_step w i old new (OfMessage message) stored whole here is left acked
crash_step w i old new (Grows sites answer) stored whole here is left acked = held_step w i old new (OfGrowth sites) stored whole here tt left acked
crash_step w i old new (Gives to answer) stored whole here is left acked = restart_same w i old new here (left ∙ none_left stored old.book.history) acked
crash_step w i old new Restarts stored whole here is left acked = restart_same w i old new here (left ∙ none_left stored old.book.history) acked
crash_step w i old new (Crashes in_hand done) stored whole here is left acked = restart_same w i old new here (left ∙ none_left stored old.book.history) acked
