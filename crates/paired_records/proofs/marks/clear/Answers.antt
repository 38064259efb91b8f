use Rattle.std.proofs.Common.{refl}
use Rattle.paired_records.proofs.marks.clear.Goals as goal

pub returns-clause-runs : goal.returns-clause-runs
returns-clause-runs g c clean =
    (c.execute.new.self.conn.now, c.in_ok-execute.field-0, c.in_ok-execute.ensures.runs clean c.requires.inside, refl)
