use Rattle.std.proofs.Common.{◌-◌}
use Rattle.delta_buffer.proofs.intervals.+interval.Given as goal

abbrev pub decreases-interval : goal.decreases-interval
decreases-interval l = l.upto - l.from
