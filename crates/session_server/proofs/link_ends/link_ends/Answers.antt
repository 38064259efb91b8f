use Rattle.std.proofs.Common.{◌≡◌, ◌∙◌, arith, length, map}
use Rattle.std.proofs.lemmas.List.{length-map}
use Rattle.session_server.proofs.Rows.{map_after}
use Rattle.session_server.proofs.Settles.{all_told, rows_told, told_of_each, told_of_others}
use Rattle.session_server.proofs.Sites.{if_ok_then}
use Rattle.session_server.proofs.link_ends.link_ends.Goals as goal

pub links_told-requires-clause-sites : goal.links_told-requires-clause-sites
links_told-requires-clause-sites c =
    let each = told_of_each _ _ c.in_ok-told.ensures in
    omega (
      arith,
      each,
      length-map c.in_ok-told.told.items (λ row. row.items),
      length-map c.args.ends.items (λ row. row.items),
      c.requires.count,
      c.in_ok-told.told.ok.0,
      c.args.ends.ok.0,
    )

pub links_told-requires-clause-others : goal.links_told-requires-clause-others
links_told-requires-clause-others c =
    let others = told_of_others _ _ c.in_ok-told.ensures in
    let count : length (map (λ row. row.items) c.args.ends.items) ≡ length c.args.sites.now = omega
    (arith, length-map c.args.ends.items (λ row. row.items), c.requires.count, c.args.ends.ok.0) in
    rows_told (λ row. row.items) _ (λ row. row.ok.0) c.in_ok-told.told.items _ _ count others

pub returns : goal.returns
returns c =
    let count : length (map (λ row. row.items) c.args.ends.items) ≡ length c.args.sites.now = omega
    (arith, length-map c.args.ends.items (λ row. row.items), c.requires.count, c.args.ends.ok.0) in
    if_ok_then _ _ c.links_told.result
    (λ links e rounds left. all_told rounds c.args.sites.now links.items _ _ c.in_ok-told.ensures count left
    (map_after (λ row. row.items) (map (λ e. e.to)) c.args.ends.items ∙ c.requires.named) e) c.links_told.ensures
