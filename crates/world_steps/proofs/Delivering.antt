-- A delivery: what taking a message that was sent does.
use Rattle.std.proofs.Common.{◌≡◌, ℕ, ◌<◌, ◌⊎◌, List, Option, Some, refl, subst, sym, ap, ◌∙◌, arith, length, get_or, set, map}
use Rattle.std.specs.Prelude.{slice_get, Result, Ok, IsSome, IsSomeAnd}
use Rattle.std.proofs.lemmas.Option.{same_Some, slice_get_read}
use Rattle.book_core.specs.BookView.{BookView}
use Rattle.book_core.specs.Decision.{SiteConfig}
use Rattle.site_exchange.specs.declared.message.Message.{Message}
use Rattle.site_exchange.specs.declared.message.Message.TheVariants.{Delta, Ack}
use Rattle.site_exchange.specs.Exchange.{SitePart, Verdict, receiver, verdict}
use Rattle.site_exchange.specs.Taking.{MayTake, site_after, ack_due}
use Rattle.world_steps.specs.NodeView.{NodeView}
use Rattle.world_steps.specs.declared.node.Judged.{Judged}
use Rattle.world_steps.specs.declared.step.Step.TheVariants.{Deliver}
use Rattle.world_steps.specs.declared.step.Outcome.{Outcome}
use Rattle.world_steps.specs.declared.step.WorldFault.{WorldFault}
use Rattle.world_steps.specs.Nodes.{site_of, limit_of, first_count_of, verdict_told}
use Rattle.world_steps.specs.Outcomes.{outcome, delivered_as, taken_as, MayWantMemory}
use Rattle.world_steps.specs.Reaching.{world_of, IsKept}
use Rattle.world_steps.specs.World.{World, count, site_numbered, history_at, office_at, at_site, judged, delivered, after}
use Rattle.site_exchange.specs.Taking.{with_given}
use Rattle.world_steps.proofs.Reached.{sound_in}
use Rattle.world_steps.proofs.Sites.{at_place, found_at, made_at, length-sites}
use Rattle.world_steps.proofs.Worlds.{IsSound}

-- the message read at a place is the one that was sent
pub message_at : (sent now : List Message) (index : ℕ) (message : Message) → now ≡ sent → index < length sent → message ≡ get_or now index message
    → slice_get sent index ≡ Some message
message_at sent now index message same l is = slice_get_read sent (length sent) index message refl l
    (is ∙ ap (λ (ms : List Message). get_or ms index message) same)

pub receiver_there : (w : World) (message : Message) → IsSound w message → receiver message < count w
receiver_there w (Delta by to upto delta) ok = ok.0.1
receiver_there w (Ack by to upto) ok = ok.0.1

pub receiver_below : (nodes : List NodeView) (sent : List Message) (index i : ℕ) (message : Message) → IsKept nodes sent
    → slice_get sent index ≡ Some message → i ≡ receiver message → i < length nodes
receiver_below nodes sent index i message kept found is =
    let w : World = world_of nodes sent in
    omega (arith, is, receiver_there w message ((sound_in w kept.reached).sent index message found), length-sites nodes)

-- a message that is read again is the same
pub same_message : (sent now : List Message) (index : ℕ) (message again : Message) → now ≡ sent → index < length sent → message ≡ get_or sent index message
    → again ≡ get_or now index again
    → again ≡ message
same_message sent now index message again same l is is_again =
    same_Some again message (sym (message_at sent now index again same l is_again) ∙ message_at sent sent index message refl l is)

-- so is a site
pub same_node : (nodes : List NodeView) (i : ℕ) (node again : NodeView) → i < length nodes → node ≡ get_or nodes i node → again ≡ get_or nodes i again
    → node ≡ again
same_node nodes i node again l is is_again = same_Some node again (sym (found_at nodes i node l is) ∙ found_at nodes i again l is_again)

-- a verdict by the book that a site shows is the site's
pub verdict_by : (told : Verdict) (message : Message) (shown book : BookView) → told ≡ verdict shown.office shown.history message → shown ≡ book
    → told ≡ verdict book.office book.history message
verdict_by told message shown book is same = is ∙ ap (λ (b : BookView). verdict b.office b.history message) same

-- a message that was sent, and the place of its receiver
pub record IsFor (nodes : List NodeView) (sent : List Message) (index i : ℕ) (message : Message) : Type 0 where
  pub sent_is : slice_get sent index ≡ Some message
  pub to : i ≡ receiver message
  pub below : i < length nodes

pub is_for : (nodes : List NodeView) (sent : List Message) (index i : ℕ) (message : Message) → IsKept nodes sent → index < length sent
    → message ≡ get_or sent index message → i ≡ receiver message
    → IsFor nodes sent index i message
is_for nodes sent index i message kept l is to =
    let found = message_at sent sent index message refl l is in
    record { sent_is = found; to = to; below = receiver_below nodes sent index i message kept found to }

judged_is : (nodes : List NodeView) (sent : List Message) (i : ℕ) (message : Message) (old : NodeView) → IsKept nodes sent → i ≡ receiver message
    → i < length nodes → old ≡ get_or nodes i old
    → verdict old.book.office old.book.history message ≡ judged (world_of nodes sent) message
judged_is nodes sent i message old kept to l is =
    let w : World = world_of nodes sent in
    let here = at_place nodes sent i old kept l is in
    ap (λ (f : SiteConfig). verdict f old.book.history message) (sym here.office)
    ∙ ap (λ (s : SitePart). verdict (office_at w i) s.history message) (sym here.site)
    ∙ ap (λ k. verdict (office_at w k) (history_at w k) message) to

-- a delivery that wants memory is acknowledged, or is taken with more memory
pub deliver_wants : (nodes : List NodeView) (sent : List Message) (index i : ℕ) (message : Message) (old : NodeView) → IsKept nodes sent
    → slice_get sent index ≡ Some message
    → i ≡ receiver message → i < length nodes → old ≡ get_or nodes i old
    → IsSome (ack_due (verdict old.book.office old.book.history message) message)
    ⊎ MayTake (verdict old.book.office old.book.history message) (site_of old) message
    → MayWantMemory (world_of nodes sent) (Deliver index)
deliver_wants nodes sent index i message old kept sent_is to l is wants =
    let w : World = world_of nodes sent in
    let here = at_place nodes sent i old kept l is in
    let site_is : site_of old ≡ site_numbered w (receiver message) = sym here.site ∙ ap (site_numbered w) to in
    subst (λ (o : Option Message). IsSomeAnd o (λ m. IsSome (ack_due (judged w m) m) ⊎ MayTake (judged w m) (site_numbered w (receiver m)) m)) (sym sent_is)
    (subst (λ (s : SitePart). IsSome (ack_due (judged w message) message) ⊎ MayTake (judged w message) s message) site_is
    (subst (λ (v : Verdict). IsSome (ack_due v message) ⊎ MayTake v (site_of old) message) (judged_is nodes sent i message old kept to l is) wants))

-- what a delivery gives
pub record IsDelivered (nodes : List NodeView) (sent : List Message) (now : List NodeView) (sent_now : List Message) (index : ℕ) (given : Outcome) : Type 0
  where
    pub kept : IsKept now sent_now
    pub made : world_of now sent_now ≡ after (world_of nodes sent) (Deliver index)
    pub outcome : outcome (world_of nodes sent) (Deliver index) ≡ Ok given

pub deliver_gives : (nodes : List NodeView) (sent : List Message) (index i : ℕ) (message : Message) (old new : NodeView) (taken : Judged)
    → IsKept nodes sent → slice_get sent index ≡ Some message
    → i ≡ receiver message → i < length nodes → old ≡ get_or nodes i old → new.book.office ≡ old.book.office
    → verdict_told taken ≡ verdict old.book.office old.book.history message
    → site_of new ≡ site_after (verdict old.book.office old.book.history message) message (site_of old)
    → IsDelivered nodes sent (set nodes i new) (with_given sent (ack_due (verdict_told taken) message)) index (taken_as (verdict_told taken) (length sent))
deliver_gives nodes sent index i message old new taken kept sent_is to l is office taken_is changed =
    let w : World = world_of nodes sent in
    let here = at_place nodes sent i old kept l is in
    let verdict_is = judged_is nodes sent i message old kept to l is in
    let told_is : verdict_told taken ≡ judged w message = taken_is ∙ verdict_is in
    let site_is : site_of new ≡ site_after (judged w message) message (site_numbered w i) =
    changed ∙ ap (λ v. site_after v message (site_of old)) verdict_is ∙ ap (λ (s : SitePart). site_after (judged w message) message s) (sym here.site) in
    let after_is : after w (Deliver index) ≡ at_site (world_of nodes (with_given sent (ack_due (verdict_told taken) message))) i (site_of new) =
    ap (delivered w) sent_is
    ∙ (λ k. record {
      limits = map limit_of nodes;
      counts = map first_count_of nodes;
      sites = set (map site_of nodes) (sym to k) (site_after (judged w message) message (site_numbered w (sym to k)));
      sent = with_given sent (ack_due (sym told_is k) message);
    })
    ∙ ap (at_site (world_of nodes (with_given sent (ack_due (verdict_told taken) message))) i) (sym site_is) in
    let made = made_at nodes sent (with_given sent (ack_due (verdict_told taken) message)) i old new (Deliver index) kept here.found office after_is in
    record {
      kept = made.kept;
      made = made.made;
      outcome =
          ap (delivered_as w) sent_is
          ∙ ap (λ (v : Verdict). let r : Result Outcome WorldFault = Ok (taken_as v (length sent)) in r) (sym told_is);
    }
