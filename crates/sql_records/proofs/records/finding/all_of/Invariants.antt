use Rattle.std.proofs.Common.{◌≡◌, map, take, Some}
use Rattle.sql_records.specs.Lookups.{listed_of}
use Rattle.sql_records.proofs.records.finding.all_of.Given as goal

abbrev pub invariant-rows : goal.invariant-rows
invariant-rows l = map Some l.all.items ≡ map listed_of (take l.row-index l.rows)
