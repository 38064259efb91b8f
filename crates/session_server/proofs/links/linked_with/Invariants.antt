use Rattle.std.proofs.Common.{◌≡◌}
use Rattle.std.specs.Prelude.{All, map}
use Rattle.session_server.specs.Mesh.{CameTo, IsNewPeer, each_with, linkage_of}
use Rattle.session_server.proofs.links.linked_with.Given as goal

abbrev pub invariant-loop-one : goal.invariant-loop-one
invariant-loop-one g l = record {
  sites : map (λ one. one.site) l.linked.items ≡ map (λ one. one.site) l.yielded;
  came : CameTo (map (λ one. map linkage_of one.peers.items) l.yielded) (map (λ one. map linkage_of one.peers.items) l.linked.items)
      (map linkage_of l.peers.items);
  new : All IsNewPeer l.peers.items;
  kept : All (λ one. All IsNewPeer one.peers.items) l.yielded → All (λ one. All IsNewPeer one.peers.items) l.linked.items;
  others_named : map (λ one. map (λ p. p.to) one.peers.items) l.linked.items ≡ each_with (map (λ one. map (λ p. p.to) one.peers.items) l.yielded)
      (map (λ one. l.me) l.yielded);
  own_named : map (λ p. p.to) l.peers.items ≡ map (λ one. one.site.book.book.office.me) l.yielded;
}
