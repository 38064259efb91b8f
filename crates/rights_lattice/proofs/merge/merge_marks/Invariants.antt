use Rattle.std.proofs.Common.{◌+◌, ◌-◌, length}
use Rattle.rights_lattice.specs.Merging.{IsMerged}
use Rattle.rights_lattice.proofs.merge.merge_marks.Given as goal

abbrev pub invariant-loop-left : goal.invariant-loop-left
invariant-loop-left l = IsMerged l.a l.b l.merged.items l.left l.right

abbrev pub decreases-loop-left : goal.decreases-loop-left
decreases-loop-left l = length l.a + length l.b - l.left - l.right
