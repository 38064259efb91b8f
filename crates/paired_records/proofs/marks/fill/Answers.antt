use Rattle.std.proofs.Common.{Ok, refl, subst, arith}
use Rattle.sqlite.specs.State.{ExecutesInside}
use Rattle.sqlite.specs.Held.{state}
use Rattle.paired_records.specs.Marks.{names_text}
use Rattle.paired_records.proofs.marks.fill.Goals as goal

pub returns-clause-runs : goal.returns-clause-runs
returns-clause-runs g c clean =
    let first = c.execute.new.self.conn.now in
    let second = c.execute-2.new.self.conn.now in
    let one = c.in_ok-execute.ensures.runs (omega (arith, c.execute-2.ensures.survives.clean)) c.requires.inside in
    let two = c.in_ok-execute-2.ensures.runs clean one.1.mode in
    let given = subst (λ p. ExecutesInside 0 names_text p (state g.S.Store first) (state g.S.Store second) (Ok c.in_ok-execute-2.field-0))
    c.names_row-row.ensures two in
    (first, c.in_ok-execute.field-0, one, (second, c.in_ok-execute-2.field-0, given, refl))
