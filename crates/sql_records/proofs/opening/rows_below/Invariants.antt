use Rattle.std.proofs.Common.{◌≡◌, ◌+◌, drop}
use Rattle.std.specs.List.{prefix_len}
use Rattle.sqlite.specs.Order.{Row, column}
use Rattle.sql_records.specs.Rows.{is_below, rows_below}
use Rattle.sql_records.proofs.opening.rows_below.Given as goal

abbrev pub invariant-rows : goal.invariant-rows
invariant-rows l = rows_below l.rows ≡ l.at + prefix_len (λ (r : Row). is_below (column r 0)) (drop l.at l.rows)
