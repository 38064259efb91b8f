use Rattle.std.proofs.Common.{◌≡◌}
use Rattle.std.specs.Prelude.{All, map}
use Rattle.session_server.specs.Mesh.{IsMesh, IsNewPeer, linkage_of, others_of}
use Rattle.session_server.proofs.links.link_all.Given as goal

abbrev pub invariant-loop-site : goal.invariant-loop-site
invariant-loop-site g l = record {
  sites : map (λ one. one.site) l.linked.items ≡ l.yielded;
  mesh : IsMesh (map (λ one. map linkage_of one.peers.items) l.linked.items);
  new : All (λ one. All IsNewPeer one.peers.items) l.linked.items;
  named : map (λ one. map (λ p. p.to) one.peers.items) l.linked.items ≡ others_of (map (λ one. one.site.book.book.office.me) l.linked.items);
}
