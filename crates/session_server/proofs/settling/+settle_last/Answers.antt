use Rattle.std.proofs.Common.{◌≡◌, [], ap, map, rules}
use Rattle.session_server.specs.Settled.{EndsJoined}
use Rattle.session_server.proofs.Rows.{last_pair, mapped_push}
use Rattle.session_server.proofs.Settles.{has_last, joined_last, none_settled_with, settled_more}
use Rattle.session_server.proofs.settling.+settle_last.Goals as goal

pub unreachable-requires-in_default-pop-2 : goal.unreachable-requires-in_default-pop-2
unreachable-requires-in_default-pop-2 t c =
    let joined = last_pair (λ row other. EndsJoined row.items other) c.args.ends.items c.pop.new.self.items c.in-Some.row c.args.last.items
    c.pop-2.new.self.items c.in-Some-pop.other c.in-Some.ensures.items c.in-Some-pop.ensures.items c.requires.joined in
    has_last c.in-Some.row.items c.in-Some-pop.other joined.1 (search rules)

pub settle_last-requires : goal.settle_last-requires
settle_last-requires t c =
    let joined = last_pair (λ row other. EndsJoined row.items other) c.args.ends.items c.pop.new.self.items c.in-Some.row c.args.last.items
    c.pop-2.new.self.items c.in-Some-pop.other c.in-Some.ensures.items c.in-Some-pop.ensures.items c.requires.joined in
    (search rules, (search rules, (joined.0, (search rules, search rules))))

pub settle_pair-requires : goal.settle_pair-requires
settle_pair-requires t c =
    let joined = last_pair (λ row other. EndsJoined row.items other) c.args.ends.items c.pop.new.self.items c.in-Some.row c.args.last.items
    c.pop-2.new.self.items c.in-Some-pop.other c.in-Some.ensures.items c.in-Some-pop.ensures.items c.requires.joined in
    joined_last c.in-Some.row.items c.pop-3.new.self.items c.in-Some-pop-2.one c.in-Some-pop.other c.in-Some-pop-2.ensures.items joined.1

pub returns-in_default-clause-settled : goal.returns-in_default-clause-settled
returns-in_default-clause-settled t c =
    let rows : c.args.ends.items ≡ [] = search rules in
    let last : c.args.last.items ≡ [] = search rules in
    none_settled_with _ _ _ _ (ap (map (λ row. row.items)) rows) (ap (map (λ row. row.items)) c.requires.empty.0) last c.requires.empty.1

pub returns-clause-settled : goal.returns-clause-settled
returns-clause-settled t c =
    settled_more _ _ _ _ _ _ _ _ _ _ _ _ c.in-Some-pop-2.one
    (mapped_push (λ row. row.items) _ _ _ c.in-Some.ensures.items) c.in-Some-pop.ensures.items
    (mapped_push (λ row. row.items) _ _ _ c.push_reserved.ensures.items) c.push_reserved-2.ensures.items
    c.in-Some-pop-2.ensures.items c.settle_pair.ensures.went c.settle_pair.ensures.in_order c.settle_last.ensures.settled
