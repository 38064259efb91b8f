use Rattle.std.proofs.Common.{◌≡◌, ◌∙◌, ◌++◌, ◌∷◌, [], ap, map, subst, sym}
use Rattle.std.specs.Prelude.{All}
use Rattle.std.proofs.lemmas.Iterator.Adapters.{YieldsList-from_vec}
use Rattle.std.proofs.lemmas.Iterator.Consumers.{YieldsList-end}
use Rattle.std.proofs.lemmas.List.{map-append, map-id}
use Rattle.std.proofs.lemmas.List.Elements.{All-nil, All-push, All-same}
use Rattle.session_server.specs.Mesh.{CameTo, IsNewPeer, each_with, linkage_of}
use Rattle.session_server.proofs.Meshes.{came_begun, came_then, named_more, new_then}
use Rattle.session_server.proofs.Rows.{mapped_push}
use Rattle.session_server.proofs.links.linked_with.Goals as goal

pub loop-one-init : goal.loop-one-init
loop-one-init g c = record {
  sites = ap (map (λ one. one.site)) c.new-linked.ensures.items;
  came = came_begun (λ one. one.peers.items) c.new-linked.result.items c.new-peers.result.items c.new-linked.ensures.items c.new-peers.ensures.items;
  new = All-same IsNewPeer c.new-peers.result.items [] c.new-peers.ensures.items (All-nil IsNewPeer);
  kept = λ _. All-same (λ one. All IsNewPeer one.peers.items) c.new-linked.result.items [] c.new-linked.ensures.items
      (All-nil (λ one. All IsNewPeer one.peers.items));
  others_named = ap (map (λ one. map (λ p. p.to) one.peers.items)) c.new-linked.ensures.items;
  own_named = ap (map (λ p. p.to)) c.new-peers.ensures.items;
}

-- one more site got its peer
pub loop-one-preserved : goal.loop-one-preserved
loop-one-preserved g c =
    let i = c.loop-one.invariant in
    record {
      sites =
          mapped_push (λ one. one.site) c.push.new.self.items c.loop-one.linked.items c.in_ok-other.other c.in_ok-push.ensures.items
          ∙ (λ k. i.sites k ++ c.in_ok-other.ensures.site k ∷ [])
          ∙ sym (map-append (λ one. one.site) c.loop-one.yielded (c.in-Some.one ∷ []));
      came = came_then (λ one. one.peers.items) c.loop-one.yielded c.in-Some.one c.loop-one.linked.items c.push.new.self.items c.in_ok-other.other
          c.loop-one.peers.items c.push-in-loop-one.new.self.items c.in_ok-other.here
          i.came c.in_ok-other.ensures.peers c.in_ok-push.ensures.items c.in_ok-push-2.ensures.items;
      new = All-same IsNewPeer c.push-in-loop-one.new.self.items (c.loop-one.peers.items ++ c.in_ok-other.here ∷ []) c.in_ok-push-2.ensures.items
          (All-push IsNewPeer c.loop-one.peers.items c.in_ok-other.here i.new c.in_ok-other.ensures.peers.4);
      kept = new_then (λ one. one.peers.items) c.loop-one.yielded c.in-Some.one c.loop-one.linked.items c.push.new.self.items c.in_ok-other.other
          c.in_ok-other.here i.kept c.in_ok-other.ensures.peers c.in_ok-push.ensures.items;
      others_named = named_more (λ one. map (λ p. p.to) one.peers.items) c.args.me c.loop-one.yielded c.in-Some.one c.loop-one.linked.items
          c.push.new.self.items c.in_ok-other.other i.others_named c.in_ok-other.ensures.named.0 c.in_ok-push.ensures.items;
      own_named =
          mapped_push (λ p. p.to) c.push-in-loop-one.new.self.items c.loop-one.peers.items c.in_ok-other.here c.in_ok-push-2.ensures.items
          ∙ (λ k. i.own_named k ++ c.in_ok-other.ensures.named.1 k ∷ [])
          ∙ sym (map-append (λ one. one.site.book.book.office.me) c.loop-one.yielded (c.in-Some.one ∷ []));
    }

pub returns-clause-sites : goal.returns-clause-sites
returns-clause-sites g c =
    let begins = c.into_iter-one-iterator.ensures.into_iter_gives in
    let road = YieldsList-from_vec {s = c.into_iter-one-iterator.result} c.args.earlier.items begins.0 (begins.1 ∙ c.args.earlier.ok.0) in
    let all : c.loop-one.yielded ≡ c.args.earlier.items = sym (map-id c.loop-one.yielded)
    ∙ (YieldsList-end road c.loop-one.yielded _ c.loop-one.yielded_by _ c.next.new.self c.in-None.is c.next.ensures.steps).0 in
    c.loop-one.invariant.sites ∙ ap (map (λ one. one.site)) all

pub returns-clause-came : goal.returns-clause-came
returns-clause-came g c =
    let begins = c.into_iter-one-iterator.ensures.into_iter_gives in
    let road = YieldsList-from_vec {s = c.into_iter-one-iterator.result} c.args.earlier.items begins.0 (begins.1 ∙ c.args.earlier.ok.0) in
    let all : c.loop-one.yielded ≡ c.args.earlier.items = sym (map-id c.loop-one.yielded)
    ∙ (YieldsList-end road c.loop-one.yielded _ c.loop-one.yielded_by _ c.next.new.self c.in-None.is c.next.ensures.steps).0 in
    subst (λ l. CameTo (map (λ one. map linkage_of one.peers.items) l) (map (λ one. map linkage_of one.peers.items) c.loop-one.linked.items)
    (map linkage_of c.loop-one.peers.items)) all c.loop-one.invariant.came

pub returns-clause-new : goal.returns-clause-new
returns-clause-new g c =
    let begins = c.into_iter-one-iterator.ensures.into_iter_gives in
    let road = YieldsList-from_vec {s = c.into_iter-one-iterator.result} c.args.earlier.items begins.0 (begins.1 ∙ c.args.earlier.ok.0) in
    let all : c.loop-one.yielded ≡ c.args.earlier.items = sym (map-id c.loop-one.yielded)
    ∙ (YieldsList-end road c.loop-one.yielded _ c.loop-one.yielded_by _ c.next.new.self c.in-None.is c.next.ensures.steps).0 in (
      c.loop-one.invariant.new,
      subst (λ l. All (λ one. All IsNewPeer one.peers.items) l
          → All (λ one. All IsNewPeer one.peers.items) c.loop-one.linked.items) all c.loop-one.invariant.kept,
    )

pub returns-clause-named : goal.returns-clause-named
returns-clause-named g c =
    let begins = c.into_iter-one-iterator.ensures.into_iter_gives in
    let road = YieldsList-from_vec {s = c.into_iter-one-iterator.result} c.args.earlier.items begins.0 (begins.1 ∙ c.args.earlier.ok.0) in
    let all : c.loop-one.yielded ≡ c.args.earlier.items = sym (map-id c.loop-one.yielded)
    ∙ (YieldsList-end road c.loop-one.yielded _ c.loop-one.yielded_by _ c.next.new.self c.in-None.is c.next.ensures.steps).0 in
    let i = c.loop-one.invariant in (
      i.others_named ∙ ap (λ l. each_with (map (λ one. map (λ p. p.to) one.peers.items) l) (map (λ one. c.args.me) l)) all,
      i.own_named ∙ ap (map (λ one. one.site.book.book.office.me)) all,
    )
