use Rattle.std.proofs.Common.{◌≡◌, [], ap, arith, map, rules}
use Rattle.std.proofs.lemmas.List.{length-map}
use Rattle.session_server.specs.Mesh.{linkage_left}
use Rattle.session_server.proofs.Meshes.{came_to_each, last_joined}
use Rattle.session_server.proofs.Rows.{mapped_push}
use Rattle.session_server.proofs.Settles.{last_undone, mesh_left, none_settled, settled_then, told_of_each}
use Rattle.session_server.proofs.Sites.{if_ok_then}
use Rattle.session_server.proofs.settling.+settle_all.Goals as goal

pub settle_last-requires-clause-len : goal.settle_last-requires-clause-len
settle_last-requires-clause-len t c =
    let u = last_undone (λ row. row.items) c.args.ends.items c.pop.new.self.items c.in-Some.last c.in-Some.ensures.items c.requires in
    let each = came_to_each _ _ _ u.came in
    omega (
      arith,
      each,
      length-map c.pop.new.self.items (λ row. map linkage_left row.items),
      length-map c.in-Some.last.items linkage_left,
      c.pop.new.self.ok.0,
      c.in-Some.last.ok.0,
    )

pub settle_last-requires-clause-joined : goal.settle_last-requires-clause-joined
settle_last-requires-clause-joined t c =
    let u = last_undone (λ row. row.items) c.args.ends.items c.pop.new.self.items c.in-Some.last c.in-Some.ensures.items c.requires in
    last_joined (λ row. row.items) u.before c.pop.new.self.items c.in-Some.last.items u.came

pub settle_all-requires : goal.settle_all-requires
settle_all-requires t c =
    let u = last_undone (λ row. row.items) c.args.ends.items c.pop.new.self.items c.in-Some.last c.in-Some.ensures.items c.requires in (
      search rules,
      mesh_left (λ row. row.items) c.pop.new.self.items c.settle_last.new.fronts.items c.in-Some.last.items c.settle_last.new.pairs.items u
          c.settle_last.ensures.settled,
    )

pub with_last-requires : goal.with_last-requires
with_last-requires t c =
    let each = told_of_each _ _ c.in_ok-told.ensures in
    record {
      len = omega (
        arith,
        each,
        length-map c.in_ok-told.told.items (λ row. row.items),
        length-map c.settle_last.new.fronts.items (λ row. row.items),
        c.settle_last.ensures.room,
        c.in_ok-told.told.ok.0,
        c.settle_last.new.fronts.ok.0,
      );
    }

pub returns-in_default : goal.returns-in_default
returns-in_default t c =
    let rows : c.args.ends.items ≡ [] = search rules in
    none_settled _ _ (ap (map (λ row. row.items)) rows) (ap (map (λ row. row.items)) c.new.ensures.items)

pub returns : goal.returns
returns t c =
    if_ok_then _ _ c.with_last.result
    (λ told e. settled_then _ (map (λ row. row.items) c.pop.new.self.items) c.in-Some.last.items (map (λ row. row.items) c.settle_last.new.fronts.items) _
    (map (λ row. row.items) c.in_ok-told.told.items) c.settle_last.new.pairs.items
    (mapped_push (λ row. row.items) _ _ _ c.in-Some.ensures.items) c.settle_last.ensures.settled c.in_ok-told.ensures e)
    c.with_last.ensures
