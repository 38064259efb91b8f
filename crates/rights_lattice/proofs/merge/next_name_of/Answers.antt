use Rattle.std.proofs.Common.{◌<◌, length, arith, sym, ◌∙◌}
use Rattle.rights_lattice.proofs.NameLaws.{take_left, take_right, take_both, past_end, not_yet, turned}
use Rattle.rights_lattice.proofs.merge.next_name_of.Goals as goal

pub returns-then-right-b-clause-merged : goal.returns-then-right-b-clause-merged
returns-then-right-b-clause-merged c = λ out h.
    take_left c.args.a.now c.args.b.now out c.args.left c.args.right c.index-a-left.result (omega (arith, c.requires.has_next.more, c.if-right-b.true))
    c.index-a-left.is
    (past_end c.index-a-left.result c.args.b.now c.args.right (omega (arith, c.if-right-b.true))) h

pub returns-then-left-a-clause-merged : goal.returns-then-left-a-clause-merged
returns-then-left-a-clause-merged c = λ out h.
    take_right c.args.a.now c.args.b.now out c.args.left c.args.right c.index-b-right.result (omega (arith, c.requires.has_next.more, c.if-left-a.true))
    c.index-b-right.is
    (past_end c.index-b-right.result c.args.a.now c.args.left (omega (arith, c.if-left-a.true))) h

pub returns-in-Less-clause-merged : goal.returns-in-Less-clause-merged
returns-in-Less-clause-merged c = λ out h.
    let x = c.index-a-left-2.result in
    let y = c.index-b-right-2.result in
    let a_lt : c.args.left < length c.args.a.now = omega (arith, c.requires.has_next.left_within, c.if-left-a.false) in
    let b_lt : c.args.right < length c.args.b.now = omega (arith, c.requires.has_next.right_within, c.if-right-b.false) in
    take_left c.args.a.now c.args.b.now out c.args.left c.args.right x a_lt c.index-a-left-2.is
    (not_yet x y c.args.b.now c.args.right b_lt c.index-b-right-2.is (sym c.cmp.ensures ∙ c.in-Less.is)) h

pub returns-in-Greater-clause-merged : goal.returns-in-Greater-clause-merged
returns-in-Greater-clause-merged c = λ out h.
    let x = c.index-a-left-2.result in
    let y = c.index-b-right-2.result in
    let a_lt : c.args.left < length c.args.a.now = omega (arith, c.requires.has_next.left_within, c.if-left-a.false) in
    let b_lt : c.args.right < length c.args.b.now = omega (arith, c.requires.has_next.right_within, c.if-right-b.false) in
    take_right c.args.a.now c.args.b.now out c.args.left c.args.right y b_lt c.index-b-right-2.is
    (not_yet y x c.args.a.now c.args.left a_lt c.index-a-left-2.is (turned x y (sym c.cmp.ensures ∙ c.in-Greater.is))) h

pub returns-in-Equal-clause-merged : goal.returns-in-Equal-clause-merged
returns-in-Equal-clause-merged c = λ out h.
    let x = c.index-a-left-2.result in
    let y = c.index-b-right-2.result in
    let a_lt : c.args.left < length c.args.a.now = omega (arith, c.requires.has_next.left_within, c.if-left-a.false) in
    let b_lt : c.args.right < length c.args.b.now = omega (arith, c.requires.has_next.right_within, c.if-right-b.false) in
    take_both c.args.a.now c.args.b.now out c.args.left c.args.right x y a_lt b_lt c.index-a-left-2.is c.index-b-right-2.is
    (sym c.cmp.ensures ∙ c.in-Equal.is) h
