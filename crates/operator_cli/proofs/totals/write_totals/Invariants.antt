use Rattle.std.proofs.Common.{take}
use Rattle.std.specs.List.{flat_map}
use Rattle.std.specs.Io.KnownBytes.{Appends}
use Rattle.world_steps.specs.World.{totals_of}
use Rattle.operator_cli.specs.Script.{total_line}
use Rattle.operator_cli.proofs.totals.write_totals.Given as goal

abbrev pub invariant-loop-event : goal.invariant-loop-event
invariant-loop-event g l = Appends (g.W.Write.contents l.fn.out) (g.W.Write.contents l.out)
    (flat_map (λ event. total_line event (totals_of l.world event)) (take l.event-index l.event-items))
