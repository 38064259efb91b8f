use Rattle.std.proofs.Common.{◌≡◌, ◌<◌, length, ap, sym, subst, arith}
use Rattle.sql_records.specs.Rows.{AreWholeIn, IsDamagedAt, rows_from_0}
use Rattle.sql_records.specs.Opening.{AreRowsFault}
use Rattle.sql_records.proofs.OpeningLemmas.{StopsReading, damaged_above, damaged_below, if_err, length_whole, part_from_0}
use Rattle.sql_records.proofs.opening.read_all.Goals as goal

pub returns-in_err-entries-clause-fault : goal.returns-in_err-entries-clause-fault
returns-in_err-entries-clause-fault c =
    let rows = c.args.rows.now in
    let own = part_from_0 rows c.rows_below-below.result c.rows_below-below.ensures.value in
    if_err c.from_residual.result (AreRowsFault c.args.read rows) _ c.from_residual.ensures.1
    (λ f e. rw e (damaged_above c.args.read rows c.in_err-entries.field-0.0
    (subst (λ l. StopsReading c.args.read l c.in_err-entries.field-0.0) own c.in_err-entries.ensures.fault)))

pub returns-then-below-gt0-clause-fault : goal.returns-then-below-gt0-clause-fault
returns-then-below-gt0-clause-fault c =
    let rows = c.args.rows.now in
    let own = part_from_0 rows c.rows_below-below.result c.rows_below-below.ensures.value in
    let whole = subst (AreWholeIn c.args.read 0) own c.in_ok-entries.ensures.whole in
    let place : c.len.result ≡ length (rows_from_0 rows) =
    omega (
      arith,
      c.len.ensures,
      c.in_ok-entries.entries.ok.0,
      ap length c.in_ok-entries.ensures.entries,
      length_whole _ 0 c.in_ok-entries.ensures.whole.0,
      ap length own,
    ) in
    subst (λ n. IsDamagedAt c.args.read n rows) (sym place)
    (damaged_below c.args.read rows (subst (λ n. 0 < n) c.rows_below-below.ensures.value c.if-below-gt0.true) whole)
