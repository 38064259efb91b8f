use Rattle.std.proofs.Common.{◌≡◌, ℕ, List, sym, ap, subst, ◌∙◌, arith, length}
use Rattle.std.specs.Prelude.{IfOk, Some, slice_get}
use Rattle.book_core.specs.BookView.{BookView}
use Rattle.book_core.proofs.Deltas.{no_names_listed}
use Rattle.world_steps.specs.NodeView.{NodeView}
use Rattle.world_steps.specs.World.{World, count, history_at, events_of, events_below}
use Rattle.world_steps.proofs.Sites.{found_at, history_found, length-sites}
use Rattle.world_steps.proofs.Names.{known_more}
use Rattle.world_steps.proofs.world.World.events.Goals as goal

pub loop-node-init : goal.loop-node-init
loop-node-init c = c.new-names.ensures.empty ∙ sym no_names_listed

pub loop-node-preserved : goal.loop-node-preserved
loop-node-preserved c =
    let i = c.loop-node.node-index in
    let node = c.node-item.result in
    let found : slice_get c.self.inside.sites.items i ≡ Some node =
    subst (λ (nodes : List NodeView). slice_get nodes i ≡ Some node) c.deref-node-items.ensures.value
    (found_at c.deref-node-items.result.now i node c.loop-node-test.true c.node-item.is) in
    let is : history_at c.args.self.now i ≡ c.book.result.now.history =
    ap (λ (w : World). history_at w i) (sym c.self.view_is)
    ∙ history_found c.self.inside.sites.items c.self.inside.sent.items i node found
    ∙ ap (λ (b : BookView). b.history) (sym c.book.ensures) in
    known_more (history_at c.args.self.now) i c.book.result.now.history c.loop-node.names.keys c.add_names.new.names.keys is c.loop-node.invariant
    c.in_ok-add_names.ensures

pub returns : goal.returns
returns c =
    let w = c.args.self.now in
    let whole : c.loop-node.node-index ≡ count w =
    omega (
      arith,
      c.loop-node.auto.node-index-end,
      c.loop-node-test.false,
      ap length c.deref-node-items.ensures.value,
      length-sites c.self.inside.sites.items,
      ap count c.self.view_is,
    ) in
    let all : c.loop-node.names.keys ≡ events_of w = c.loop-node.invariant ∙ ap (λ n. events_below n (history_at w)) whole in
    subst (λ (xs : List (List ℕ)). IfOk c.listed.result (λ list. list.items ≡ xs)) all c.listed.ensures
