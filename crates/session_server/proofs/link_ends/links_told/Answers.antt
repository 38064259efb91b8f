use Rattle.std.proofs.Common.{◌≡◌, ◌++◌, ◌+◌, ◌<◌, ◌∙◌, drop, length, map, rules, take}
use Rattle.std.proofs.lemmas.List.{get_or_default, take_rest}
use Rattle.session_server.specs.Settled.{ends_to}
use Rattle.session_server.proofs.Rows.{mapped_at}
use Rattle.session_server.proofs.Settles.{site_added}
use Rattle.session_server.proofs.link_ends.links_told.Goals as goal

-- the links of one site more
pub loop-k-preserved : goal.loop-k-preserved
loop-k-preserved c =
    let k = c.loop-k.k in
    let sites = c.args.sites.now in
    let by = c.index-sites-k.result in
    let row = c.as_slice-row.result.now in
    let in_sites : k < length sites = search rules in
    let in_told : k < length c.args.told.now.items = search rules in
    let one_less : length row + 1 ≡ length sites = search rules in
    let before : c.add_links.new.links.items ≡ c.loop-k.links.items ++ ends_to by (take k sites) (take k row) = search rules in
    let behind : c.add_links-in-loop-k.new.links.items ≡ c.add_links.new.links.items ++ ends_to by (drop (k + 1) sites) (drop k row) =
    c.in_ok-add_links-2.ensures ∙ (λ i. c.add_links.new.links.items ++ ends_to by (take_rest sites (k + 1) i) (take_rest row k i)) in
    site_added sites (map (λ row. row.items) c.args.told.now.items) k by row c.loop-k.links.items c.add_links.new.links.items
    c.add_links-in-loop-k.new.links.items
    in_sites one_less (c.index-sites-k.is ∙ get_or_default sites k by 0 in_sites)
    (c.as_slice-row.ensures.value ∙ mapped_at (λ row. row.items) c.args.told.now.items k c.index.result.now _ in_told c.index.ensures)
    c.loop-k.invariant before behind
