-- The promises, from what holds of every world that steps lead to.
use Rattle.std.proofs.Common.{◌≡◌, ℕ, zero, suc, ◌≤◌, ◌<◌, inl, inr, List, sym, ap, ◌∙◌, subst, arith, take, get_or}
use Rattle.std.specs.Prelude.{Result, Ok, Err, OnOk, OnErr}
use Rattle.std.proofs.lemmas.Bool.{cases_eq}
use Rattle.std.proofs.lemmas.List.Sums.{sum_by-append}
use Rattle.std.proofs.Math.Seq.{take-length}
use Rattle.rights_lattice.specs.State.{State, At, join, AtOrBelow}
use Rattle.rights_lattice.specs.Sums.{max_sites}
use Rattle.rights_lattice.proofs.StateLaws.{at-join, same_states}
use Rattle.local_rights.proofs.PositionLaws.{sold_within}
use Rattle.book_core.specs.declared.entry.Entry.{Entry}
use Rattle.book_core.specs.History.{state_of}
use Rattle.book_core.specs.Decision.{Selling, Refunding}
use Rattle.book_core.specs.Legal.{IsLegal}
use Rattle.book_core.specs.Operations.{operations, operations_below, counted, sold, refunded}
use Rattle.book_core.proofs.Refunds.{legal_refunds}
use Rattle.site_exchange.specs.declared.message.Message.TheVariants.{Delta, Ack}
use Rattle.world_steps.specs.declared.step.Step.{Step}
use Rattle.world_steps.specs.declared.step.Outcome.{Outcome}
use Rattle.world_steps.specs.declared.step.WorldFault.{WorldFault}
use Rattle.world_steps.specs.World.{IsReached, World, count, after, run, history_at, state_at}
use Rattle.world_steps.specs.Promises.{NeverOversold, RefundsWithinSales, NoSeatIsLost, OperationsAreDistinct, ViewsBelowOwners, DeltasBelowOwners, RowsAreVersions, JoinsAreCausal, AcknowledgedIsHeld, AcksAreTrue, AgreeOnceAcknowledged, ViewsArePositions, ViewsNotOversold, CountedAreThere, ReceiversAreThere, HoldsPromises, own_state}
use Rattle.world_steps.proofs.Positions.{sound_position}
use Rattle.world_steps.proofs.Balance.{office_numbered, not_oversold}
use Rattle.world_steps.proofs.FlatList.{distinct_below}
use Rattle.world_steps.proofs.Seats.{seats_add_up}
use Rattle.world_steps.proofs.Worlds.{Sound, HasVersion, sound_views, sound_rows, sound_version}
use Rattle.world_steps.proofs.Delivering.{receiver_there}
use Rattle.world_steps.proofs.Reached.{no_history, sound_in, count_in, reached_after, reached_run}

pub never_oversold : (w : World) → Sound w → count w ≤ max_sites → NeverOversold w
never_oversold w sound few event =
    omega (
      arith,
      not_oversold (history_at w) (λ i. get_or w.counts i 0) (λ i. get_or w.limits i 0) (count w) event few (no_history w) sound.legal
          (λ i cell. sound_views w sound i event cell),
    )

-- where each history is legal, no more is given back than was sold
pub refunds_below : (m : ℕ) (n limit : ℕ → ℕ) (h : ℕ → List Entry) (event : List ℕ) → ((i : ℕ) → IsLegal (office_numbered i (n i) (limit i)) (h i))
    → refunded event (operations_below m h) ≤ sold event (operations_below m h)
refunds_below zero n limit h event legal = omega arith
refunds_below (suc m) n limit h event legal =
    omega (
      arith,
      refunds_below m n limit h event legal,
      legal_refunds (office_numbered m (n m) (limit m)) (h m) (legal m) event,
      sum_by-append (counted Refunding event) (operations_below m h) (operations m (h m)),
      sum_by-append (counted Selling event) (operations_below m h) (operations m (h m)),
    )

pub refunds_within_sales : (w : World) → Sound w → RefundsWithinSales w
refunds_within_sales w sound event = refunds_below (count w) (λ i. get_or w.counts i 0) (λ i. get_or w.limits i 0) (history_at w) event sound.legal

pub no_seat_is_lost : (w : World) → Sound w → count w ≤ max_sites → NoSeatIsLost w
no_seat_is_lost w sound few event = seats_add_up w sound few event (refunds_within_sales w sound event)

pub operations_are_distinct : (w : World) → OperationsAreDistinct w
operations_are_distinct w = distinct_below (count w) (history_at w)

pub views_below_owners : (w : World) → Sound w → ViewsBelowOwners w
views_below_owners w sound i event cell = sound_views w sound i event cell

pub deltas_below_owners : (w : World) → Sound w → DeltasBelowOwners w
deltas_below_owners w sound k by to upto delta found event cell =
    omega (arith, (sound.sent k (Delta by to upto delta) found).1.part (At event cell), sound_rows w by upto sound event cell)

pub rows_are_versions : (w : World) → Sound w → RowsAreVersions w
rows_are_versions w sound i k =
    let version : HasVersion w k (state_of (history_at w i)) = sound_version w i k sound in
    (version.0, version.1.length, λ event cell own. omega (arith, version.1.row event cell own, version.1.knows (At event cell)))

pub joins_are_causal : (w : World) → Sound w → JoinsAreCausal w
joins_are_causal w sound k by to upto delta found =
    let ok = (sound.sent k (Delta by to upto delta) found).1 in
    let here : State = own_state w to in
    let whole : State = state_at (history_at w by) upto in
    (ok.length, same_states (join here delta) (join here whole) (λ s. omega (arith, at-join here delta s, at-join here whole s, ok.part s, ok.causal s)))

pub acknowledged_is_held : (w : World) → Sound w → AcknowledgedIsHeld w
acknowledged_is_held w sound i j = (sound.acked i j).1

pub acks_are_true : (w : World) → Sound w → AcksAreTrue w
acks_are_true w sound k i j upto found = (sound.sent k (Ack j i upto) found).1.1

pub agree_once_acknowledged : (w : World) → Sound w → AgreeOnceAcknowledged w
agree_once_acknowledged w sound all i j l m = elim (cases_eq i j) [
  | inl e ↦ ap (own_state w) e
  | inr ne ↦ same_states (own_state w i) (own_state w j) (λ s. omega (arith, held i j l m ne s, held j i m l (λ e. ne (sym e)) s))
]
  where
    held : (i j : ℕ) → i < count w → j < count w → (i ≡ j → ⊥) → AtOrBelow (own_state w i) (own_state w j)
    held i j l m ne =
        subst (λ h. AtOrBelow (state_of h) (own_state w j)) (ap (λ a. take a (history_at w i)) (all i j l m ne) ∙ take-length (history_at w i))
        (sound.acked i j).1

pub views_are_positions : (w : World) → Sound w → ViewsArePositions w
views_are_positions w sound i event = sound_position w sound i event

pub views_not_oversold : (w : World) → Sound w → ViewsNotOversold w
views_not_oversold w sound i event = sold_within (own_state w i).cells event (views_are_positions w sound i event)

pub counted_are_there : (w : World) → Sound w → CountedAreThere w
counted_are_there w sound = sound.few

pub receivers_are_there : (w : World) → Sound w → ReceiversAreThere w
receivers_are_there w sound k message found = receiver_there w message (sound.sent k message found)

-- every promise holds of a reached world
pub promises_hold : (w : World) → IsReached w → HoldsPromises w
promises_hold w h =
    let sound = sound_in w h in
    let few = count_in w h in
    record {
      never_oversold = never_oversold w sound few;
      refunds_within_sales = refunds_within_sales w sound;
      no_seat_is_lost = no_seat_is_lost w sound few;
      operations_are_distinct = operations_are_distinct w;
      views_below_owners = views_below_owners w sound;
      deltas_below_owners = deltas_below_owners w sound;
      rows_are_versions = rows_are_versions w sound;
      joins_are_causal = joins_are_causal w sound;
      acknowledged_is_held = acknowledged_is_held w sound;
      acks_are_true = acks_are_true w sound;
      agree_once_acknowledged = agree_once_acknowledged w sound;
      rights_not_negative = views_are_positions w sound;
      views_not_oversold = views_not_oversold w sound;
      counted_are_there = counted_are_there w sound;
      receivers_are_there = receivers_are_there w sound;
    }

-- and of the world after a step, whether it was made or not
pub promises_after : (w v : World) (step : Step) (result : Result Outcome WorldFault) → IsReached w → OnOk result (v ≡ after w step) → OnErr result (v ≡ w)
    → HoldsPromises v
promises_after w v step (Ok outcome) h made same = subst HoldsPromises (sym made) (promises_hold (after w step) (reached_after w step h))
promises_after w v step (Err fault) h made same = subst HoldsPromises (sym same) (promises_hold w h)

-- and of the world after a list of steps
pub promises_run : (w v : World) (steps : List Step) → IsReached w → v ≡ run steps w → HoldsPromises v
promises_run w v steps h made = subst HoldsPromises (sym made) (promises_hold (run steps w) (reached_run steps w h))
