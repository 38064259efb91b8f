use Rattle.std.proofs.Common.{take}
use Rattle.std.specs.List.{flat_map}
use Rattle.std.specs.Io.KnownBytes.{Appends}
use Rattle.live_office.specs.RecordLines.{event_line}
use Rattle.operator_cli.proofs.outcome.write_known.Given as goal

abbrev pub invariant-events : goal.invariant-events
invariant-events g l = Appends (g.W.Write.contents l.fn.out) (g.W.Write.contents l.out) (flat_map event_line (take l.event-index l.events))
