use Rattle.std.proofs.Common.{◌∙◌, ap, arith, length, map, rules, subst, sym}
use Rattle.std.proofs.lemmas.List.{length-map}
use Rattle.std.specs.Prelude.{IfOk, slice_index_or}
use Rattle.std.specs.List.{AllZip}
use Rattle.session_server.specs.Exchanged.{AnyGiven, AnyMessage, Exchanged}
use Rattle.session_server.specs.Mesh.{IsMesh, linkage_left, linkage_of, others_of}
use Rattle.session_server.specs.Settled.{AreLinksTold}
use Rattle.session_server.specs.Visited.{HasRun, IsSiteLeft, visit_ended}
use Rattle.session_server.proofs.Exchanges.{exchanged_as, rows_left, rows_linked, rows_named}
use Rattle.session_server.proofs.Rows.{map_after}
use Rattle.session_server.proofs.Settles.{all_acknowledged, all_counted, all_named, all_within}
use Rattle.session_server.proofs.Sites.{pairs_through, renamed, same_through, through, with_first}
use Rattle.session_server.proofs.run.run_all.Goals as goal

pub work_all-requires-clause-keeps : goal.work_all-requires-clause-keeps
work_all-requires-clause-keeps g c κs within = λ k d lt left post.
    let at = with_first _ c.in_ok-linked.linked.items c.begun.new.jobs.items c.begun.ensures.begun k d lt in
    let same = at.1.1 ∙ sym at.1.0 in
    let job = slice_index_or c.begun.new.jobs.items k d in
    let told : IfOk left (HasRun c.args.rounds job.0.site.book.book job.0.site.sessions.items job.0.peers.items) = search rules in
    let same_run = subst (λ l. IfOk left (HasRun c.args.rounds l.site.book.book l.site.sessions.items l.peers.items)) (sym same) told in
    let linked = job.1.linked.value in
    subst (λ n. IfOk left (HasRun n linked.site.book.book linked.site.sessions.items linked.peers.items)) (sym at.1.2) same_run

-- what the exchanges left of new links, row by row
pub link_ends-requires : goal.link_ends-requires
link_ends-requires g c =
    let linked = c.in_ok-linked.linked.items in
    let ends = c.gathered.new.peers.items in
    let rows : AllZip (λ one with. AllZip (Exchanged AnyMessage AnyMessage AnyGiven c.args.rounds) one.peers.items with.items) linked ends =
    through _ _ _ (λ one with. AllZip (Exchanged AnyMessage AnyMessage AnyGiven c.args.rounds) one.peers.items with.items) _ _ _ _
    (λ one job left with r s t. exchanged_as _ _ _ _ _ _ r.2 (ap (λ l. l.peers.items) r.1) (ap (λ v. v.items) t) s.exchanged)
    c.begun.ensures.begun c.in_ok-done.ensures c.gathered.ensures.peers in
    let links = rows_linked c.args.rounds (λ one. one.peers.items) (λ with. with.items) linked ends rows in
    record {
      count = omega (
        arith,
        ap length links,
        length-map ends (λ with. map linkage_left with.items),
        length-map linked (λ one. map linkage_of one.peers.items),
        ap length c.in_ok-linked.ensures.sites,
        length-map linked (λ one. one.site),
        ap length c.in_ok-ids.ensures,
        length-map c.args.sites.items (λ s. s.book.book.office.me),
        ap length c.as_slice.ensures.value,
        c.gathered.new.peers.ok.0,
      );
      mesh = subst IsMesh (sym links) c.in_ok-linked.ensures.mesh;
      named =
          rows_named c.args.rounds (λ one. one.peers.items) (λ with. with.items) linked ends rows
          ∙ c.in_ok-linked.ensures.named
          ∙ ap others_of (sym (map_after (λ one. one.site) (λ s. s.book.book.office.me) linked)
          ∙ ap (map (λ s. s.book.book.office.me)) c.in_ok-linked.ensures.sites ∙ sym c.in_ok-ids.ensures ∙ sym c.as_slice.ensures.value);
    }

pub returns-clause-visits : goal.returns-clause-visits
returns-clause-visits g c =
    same_through _ _ _ c.in_ok-linked.linked.items c.begun.new.jobs.items c.in_ok-done.done.items c.gathered.new.ends.items c.args.sites.items (λ l. l.site) _ _
    (λ one job left end r s t. ap (λ v. map visit_ended v.items) t.1 ∙ s.visited ∙ ap (λ l. l.site.sessions.items) r.1)
    c.begun.ensures.begun c.in_ok-done.ensures c.gathered.ensures.ends c.in_ok-linked.ensures.sites

pub returns-clause-left : goal.returns-clause-left
returns-clause-left g c =
    pairs_through _ _ _ c.in_ok-linked.linked.items c.begun.new.jobs.items c.in_ok-done.done.items c.gathered.new.ends.items c.args.sites.items (λ l. l.site)
    (λ site end. IsSiteLeft site.book.book end.book.book end.sessions.items end.finished)
    (λ one job left end r s t.
    let of = subst (λ l. IsSiteLeft l.site.book.book left.0.book left.1.items left.2.0) r.1 s.left_book in
    renamed left.0 end.book left.1 end.sessions left.2.0 end.finished
    (λ book sessions finished. IsSiteLeft one.site.book.book book.book sessions.items finished) t.0 t.1 t.2 of)
    c.begun.ensures.begun c.in_ok-done.ensures c.gathered.ensures.ends c.in_ok-linked.ensures.sites

-- the links tell what the exchanges left of new ones
pub returns-clause-links : goal.returns-clause-links
returns-clause-links g c =
    let linked = c.in_ok-linked.linked.items in
    let peers = c.gathered.new.peers.items in
    let rows : AllZip (λ one with. AllZip (Exchanged AnyMessage AnyMessage AnyGiven c.args.rounds) one.peers.items with.items) linked peers =
    through _ _ _ (λ one with. AllZip (Exchanged AnyMessage AnyMessage AnyGiven c.args.rounds) one.peers.items with.items) _ _ _ _
    (λ one job left with r s t. exchanged_as _ _ _ _ _ _ r.2 (ap (λ l. l.peers.items) r.1) (ap (λ v. v.items) t) s.exchanged)
    c.begun.ensures.begun c.in_ok-done.ensures c.gathered.ensures.peers in
    let new = rows_left c.args.rounds (λ one. one.peers.items) (λ with. with.items) linked peers c.in_ok-linked.ensures.new rows in
    let told = subst (λ ids. AreLinksTold c.args.rounds ids c.in_ok-links.links.items) (c.as_slice.ensures.value ∙ c.in_ok-ids.ensures)
    (c.in_ok-links.ensures c.args.rounds new) in
    record {
      names = all_named _ _ _ told;
      told = told;
      counted = all_counted _ _ _ told;
      within = all_within _ _ _ told;
      acknowledged = all_acknowledged _ _ _ told;
    }
