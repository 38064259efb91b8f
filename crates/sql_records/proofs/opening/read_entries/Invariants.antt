use Rattle.std.proofs.Common.{◌≡◌, take}
use Rattle.std.specs.List.{filter_map}
use Rattle.sql_records.specs.Rows.{entry_of, AreWholeIn}
use Rattle.sql_records.proofs.opening.read_entries.Given as goal

abbrev pub invariant-rows : goal.invariant-rows
invariant-rows l = record { whole : AreWholeIn l.fn.read 0 (take l.place l.rows); entries : l.entries.items ≡ filter_map entry_of (take l.place l.rows) }
