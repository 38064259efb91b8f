use Rattle.std.proofs.Common.{inl, inr, rules}
use Rattle.paired_records.specs.Marks.{Says, names_in}
use Rattle.paired_records.proofs.MarkLemmas.{one_pairing}
use Rattle.paired_records.proofs.marks.are_of_one_pairing.Goals as goal

pub returns-then-not-is_same-clause-unpaired : goal.returns-then-not-is_same-clause-unpaired
returns-then-not-is_same-clause-unpaired g c = λ _.
    let first : Says g.S.Store c.args.first.now c.pairing_of.new.conn (names_in c.in-Some.one.row) = search rules in
    let second : Says g.S.Store c.args.second.now c.pairing_of-2.new.conn (names_in c.in-Some-2.other.row) = search rules in
    inr (names_in c.in-Some.one.row, names_in c.in-Some-2.other.row, first, second, inl (c.is_same_as-is_same.ensures.other c.if-not-is_same.true))

pub returns-then-is_for_looking-clause-unpaired : goal.returns-then-is_for_looking-clause-unpaired
returns-then-is_for_looking-clause-unpaired g c = λ _.
    let first : Says g.S.Store c.args.first.now c.pairing_of.new.conn (names_in c.in-Some.one.row) = search rules in
    let second : Says g.S.Store c.args.second.now c.pairing_of-2.new.conn (names_in c.in-Some-2.other.row) = search rules in
    inr (
      names_in c.in-Some.one.row,
      names_in c.in-Some-2.other.row,
      first,
      second,
      inr (c.is_for_looking-is_for_looking.ensures.looking c.if-is_for_looking.true),
    )

pub returns-clause-paired : goal.returns-clause-paired
returns-clause-paired g c = λ _.
    let first : Says g.S.Store c.args.first.now c.pairing_of.new.conn (names_in c.in-Some.one.row) = search rules in
    let second : Says g.S.Store c.args.second.now c.pairing_of-2.new.conn (names_in c.in-Some-2.other.row) = search rules in
    one_pairing g.S.Store c.args.first.now c.pairing_of.new.conn c.args.second.now c.pairing_of-2.new.conn c.in-Some.one.row c.in-Some-2.other.row
    first second (c.is_for_looking-is_for_looking.ensures.selling c.if-is_for_looking.false) (c.is_same_as-is_same.ensures.same c.if-not-is_same.false)
