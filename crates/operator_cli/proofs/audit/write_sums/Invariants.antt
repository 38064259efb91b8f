use Rattle.std.proofs.Common.{take}
use Rattle.std.specs.Io.KnownBytes.{Appends}
use Rattle.operator_cli.specs.Audited.{sum_lines}
use Rattle.operator_cli.proofs.audit.write_sums.Given as goal

abbrev pub invariant-sums : goal.invariant-sums
invariant-sums g l = Appends (g.W.Write.contents l.fn.out) (g.W.Write.contents l.out) (sum_lines (take l.event-index l.sums))
