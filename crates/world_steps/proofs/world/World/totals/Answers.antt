use Rattle.std.proofs.Common.{◌≡◌, ◌+◌, ◌*◌, ◌≤◌, List, arith, sym, ap, ◌∙◌, subst, length, get_or}
use Rattle.std.specs.Prelude.{slice_get, Some}
use Rattle.rights_lattice.specs.Cells.{greatest_value}
use Rattle.rights_lattice.specs.Sums.{max_sites}
use Rattle.book_core.specs.BookView.{BookView}
use Rattle.world_steps.specs.NodeView.{NodeView}
use Rattle.world_steps.specs.Reaching.{world_of}
use Rattle.world_steps.specs.Promises.{HoldsPromises}
use Rattle.world_steps.specs.World.{IsReached, World, count, history_at}
use Rattle.world_steps.proofs.Promised.{promises_hold}
use Rattle.world_steps.proofs.Reached.{sound_in, count_in}
use Rattle.world_steps.proofs.Sites.{found_at, history_found, length-sites}
use Rattle.world_steps.proofs.Totals.{AreOwn, own_none, own_all_more, own_fits, one_more, own_totals}
use Rattle.world_steps.proofs.world.World.totals.Goals as goal

pub loop-node-init : goal.loop-node-init
loop-node-init c = record {
  own = own_none (history_at c.args.self.now) c.args.event;
  bound = record { released = omega arith; sold = omega arith; refunded = omega arith };
}

pub loop-node-preserved : goal.loop-node-preserved
loop-node-preserved c =
    let i = c.loop-node.node-index in
    let node = c.node-item.result in
    let book = c.book.result.now in
    let found : slice_get c.self.inside.sites.items i ≡ Some node =
    subst (λ (nodes : List NodeView). slice_get nodes i ≡ Some node) c.deref-node-items.ensures.value
    (found_at c.deref-node-items.result.now i node c.loop-node-test.true c.node-item.is) in
    let here : book.office.me ≡ i = ap (λ (b : BookView). b.office.me) c.book.ensures ∙ c.self.invariant.places i node found in
    let is : history_at c.args.self.now i ≡ book.history =
    ap (λ (w : World). history_at w i) (sym c.self.view_is)
    ∙ history_found c.self.inside.sites.items c.self.inside.sent.items i node found
    ∙ ap (λ (b : BookView). b.history) (sym c.book.ensures) in
    record {
      own = subst (AreOwn (i + 1) (history_at c.args.self.now) c.args.event) (sym c.with_own-totals.ensures.sums)
          (own_all_more (history_at c.args.self.now) c.args.event i book c.loop-node.totals here is c.loop-node.invariant.own);
      bound = one_more i c.with_own-totals.result (c.with_own-totals.ensures.bound (greatest_value * i) c.loop-node.invariant.bound);
    }

pub with_own-totals-requires : goal.with_own-totals-requires
with_own-totals-requires c =
    let few : count (world_of c.self.inside.sites.items c.self.inside.sent.items) ≤ max_sites = count_in _ c.self.invariant.reached in
    record {
      small = own_fits c.loop-node.node-index (length c.deref-node-items.result.now) c.loop-node.totals c.loop-node-test.true
          (omega (arith, few, length-sites c.self.inside.sites.items, ap length c.deref-node-items.ensures.value)) c.loop-node.invariant.bound;
    }

pub returns-clause-totals : goal.returns-clause-totals
returns-clause-totals c =
    let w = c.args.self.now in
    let sound = sound_in w (subst IsReached c.self.view_is c.self.invariant.reached) in
    let all : c.loop-node.node-index ≡ count w =
    omega (
      arith,
      c.loop-node.auto.node-index-end,
      c.loop-node-test.false,
      ap length c.deref-node-items.ensures.value,
      length-sites c.self.inside.sites.items,
      ap count c.self.view_is,
    ) in
    own_totals (count w) c.loop-node.node-index (history_at w) (λ i. get_or w.counts i 0) (λ i. get_or w.limits i 0) c.args.event c.loop-node.totals
    sound.legal all c.loop-node.invariant.own

promises : (c : goal.After-loop-node) → HoldsPromises c.args.self.now
promises c = subst HoldsPromises c.self.view_is (promises_hold (world_of c.self.inside.sites.items c.self.inside.sent.items) c.self.invariant.reached)

pub returns-clause-never_oversold : goal.returns-clause-never_oversold
returns-clause-never_oversold c = (promises c).never_oversold c.args.event

pub returns-clause-refunds : goal.returns-clause-refunds
returns-clause-refunds c = (promises c).refunds_within_sales c.args.event
