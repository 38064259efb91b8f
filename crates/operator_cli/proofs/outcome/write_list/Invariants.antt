use Rattle.std.proofs.Common.{take}
use Rattle.std.specs.List.{flat_map}
use Rattle.std.specs.Io.KnownBytes.{Appends}
use Rattle.live_office.specs.RecordLines.{row_line}
use Rattle.operator_cli.proofs.outcome.write_list.Given as goal

abbrev pub invariant-rows : goal.invariant-rows
invariant-rows g l = Appends (g.W.Write.contents l.fn.out) (g.W.Write.contents l.out) (flat_map row_line (take l.row-index l.rows))
