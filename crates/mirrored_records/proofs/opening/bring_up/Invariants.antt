use Rattle.std.proofs.Common.{◌≡◌, ◌≤◌, ◌-◌, length, take}
use Rattle.mirrored_records.specs.Mirrored.{IsBroughtUp}
use Rattle.mirrored_records.proofs.opening.bring_up.Given as goal

-- what is before this place was brought up
abbrev pub invariant-loop-place : goal.invariant-loop-place
invariant-loop-place g l = (l.count ≤ l.place) × (l.place ≤ length l.whole) × IsBroughtUp g.K.Keeper l.fn.keeper l.keeper (take l.place l.whole)

abbrev pub decreases-loop-place : goal.decreases-loop-place
decreases-loop-place g l = length l.whole - l.place
