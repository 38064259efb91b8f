use Rattle.std.proofs.Common.{◌≡◌, ℕ, true, List, subst, sym, rules}
use Rattle.std.specs.Prelude.{OnOk, slice_set}
use Rattle.site_exchange.specs.declared.message.Message.{Message}
use Rattle.world_steps.specs.declared.step.Step.TheVariants.{Stop}
use Rattle.site_exchange.specs.Taking.{stopped_with}
use Rattle.world_steps.specs.World.{World, is_there, entry_of_input}
use Rattle.world_steps.specs.Nodes.{site_of}
use Rattle.world_steps.specs.Outcomes.{MakesStep, MayStore}
use Rattle.world_steps.specs.Reaching.{world_of}
use Rattle.world_steps.proofs.Making.{IsGiven, stop_gives, stop_wants}
use Rattle.world_steps.proofs.world.World.stop.Goals as goal

given : (c : goal.After-self-1)
    → IsGiven c.self.inside.sites.items c.self.inside.sent.items (slice_set c.self.inside.sites.items c.number-place.result c.stop.new.node)
    (Stop c.number-place.result c.args.input c.args.stored) c.stop.result
given c =
    stop_gives c.self.inside.sites.items c.self.inside.sent.items c.number-place.result c.args.input c.args.stored c.index_mut-node.result.now
    c.stop.new.node c.stop.result
    c.self.invariant (search rules) c.index_mut-node.ensures.value
    (subst (λ (w : World). is_there w.sent c.args.input ≡ true) (sym c.self.view_is) (sym c.if-not-has_message_of.ensures))
    (search rules) c.stop.ensures.site.office c.stop.ensures.outcome c.stop.ensures.memory
    (subst (λ (sent : List Message).
    OnOk c.stop.result (site_of c.stop.new.node ≡ stopped_with
    (entry_of_input c.index_mut-node.result.now.book.office c.index_mut-node.result.now.book.history sent c.args.input) c.args.stored
    (site_of c.index_mut-node.result.now))) c.deref.ensures.value c.stop.ensures.site.changed)
    c.stop.ensures.site.unchanged

pub invariant_of-self : goal.invariant_of-self
invariant_of-self c = (given c).kept

pub returns : goal.returns
returns c =
    let now : World = world_of (slice_set c.self.inside.sites.items c.number-place.result c.stop.new.node) c.self.inside.sent.items in
    let it = given c in
    let old = c.index_mut-node.result.now in
    subst (λ (n : ℕ). MakesStep c.args.self.now (Stop n c.args.input c.args.stored) now c.stop.result) c.number-place.ensures.number
    (subst (λ (w : World). MakesStep w (Stop c.number-place.result c.args.input c.args.stored) now c.stop.result) c.self.view_is (record {
      outcome = it.outcome;
      fault = it.due;
      memory = λ refused. stop_wants c.self.inside.sites.items c.self.inside.sent.items c.number-place.result c.args.input c.args.stored old
          c.self.invariant (search rules) c.index_mut-node.ensures.value (c.stop.ensures.stores refused)
          (subst (λ (sent : List Message). MayStore old.book.office old.book.history sent c.args.input) c.deref.ensures.value (c.stop.ensures.wanted refused));
      made = it.made;
      unchanged = it.unchanged;
    }))
