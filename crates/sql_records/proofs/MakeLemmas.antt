-- A disk that is clean now was clean before.
use Rattle.std.proofs.Common.{arith}
use Rattle.sqlite.specs.Tree.{Trees}
use Rattle.sqlite.specs.State.{State, HasCleanDisk, Survives}

-- a disk that is clean now was clean before
pub was_clean : (old new : State) (Commits : Trees → Type 0) → Survives old new Commits → HasCleanDisk new → HasCleanDisk old
was_clean old new Commits survives clean = omega (arith, survives.clean, clean)
