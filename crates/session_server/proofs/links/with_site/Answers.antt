use Rattle.std.proofs.Common.{◌≡◌, ◌∙◌, ap, rules, map, subst, sym}
use Rattle.std.specs.Prelude.{All}
use Rattle.std.proofs.lemmas.List.Elements.{All-push, All-same}
use Rattle.session_server.specs.Mesh.{IsMesh, IsNewPeer, linkage_of}
use Rattle.session_server.proofs.Meshes.{mesh_with, named_then}
use Rattle.session_server.proofs.Rows.{map_after, mapped_push}
use Rattle.session_server.proofs.links.with_site.Goals as goal

pub returns-clause-mesh : goal.returns-clause-mesh
returns-clause-mesh g c =
    subst IsMesh (sym (mapped_push (λ one. map linkage_of one.peers.items) c.push.new.self.items c.in_ok-linked.linked.items _ c.in_ok-push.ensures.items))
    (mesh_with (map (λ one. map linkage_of one.peers.items) c.args.earlier.items) (map (λ one. map linkage_of one.peers.items) c.in_ok-linked.linked.items)
    (map linkage_of c.in_ok-linked.peers.items) c.requires.mesh c.in_ok-linked.ensures.came)

pub returns-clause-new : goal.returns-clause-new
returns-clause-new g c =
    All-same (λ one. All IsNewPeer one.peers.items) c.push.new.self.items _ c.in_ok-push.ensures.items
    (All-push (λ one. All IsNewPeer one.peers.items) c.in_ok-linked.linked.items _ (c.in_ok-linked.ensures.new.1 c.requires.new) c.in_ok-linked.ensures.new.0)

pub returns-clause-named : goal.returns-clause-named
returns-clause-named g c =
    let linked = c.in_ok-linked.linked.items in
    let numbers : map (λ one. one.site.book.book.office.me) linked ≡ map (λ one. one.site.book.book.office.me) c.args.earlier.items =
    sym (map_after (λ one. one.site) (λ s. s.book.book.office.me) linked) ∙ ap (map (λ s. s.book.book.office.me)) c.in_ok-linked.ensures.sites
    ∙ map_after (λ one. one.site) (λ s. s.book.book.office.me) c.args.earlier.items in
    named_then (λ one. map (λ p. p.to) one.peers.items) (λ one. one.site.book.book.office.me) c.args.earlier.items linked c.push.new.self.items
    (record { site = c.args.site; peers = c.in_ok-linked.peers }) _
    c.requires.named numbers c.in_ok-linked.ensures.named.0 c.in_ok-linked.ensures.named.1 (search rules) c.in_ok-push.ensures.items
