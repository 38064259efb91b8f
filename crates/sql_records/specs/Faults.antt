-- Why a statement over the records fails. (Our own.)
use Rattle.std.specs.Prelude.{◌≡◌, ◌⊎◌, false, IsSome}
use Rattle.sqlite_disk.specs.Disk.{MoreFaults}
use Rattle.sqlite.specs.declared.error.Error.{Error}
use Rattle.sqlite.specs.declared.error.Error.TheVariants.{SqliteFailure}
use Rattle.sqlite.specs.declared.error.ErrorCode.TheVariants.{OutOfMemory}
use Rattle.sqlite.specs.State.{State, Fails}

-- the fault for want of memory, and the one for each other error
abbrev pub told : {F : Type 0} → F → F → Error → F
told memory disk (SqliteFailure OutOfMemory) = memory
told memory disk _ = disk

-- What want of memory in the store leaves: what was begun is undone. The toolchain says no more of it, and of records at rest
-- it is that they are as they were.
abbrev pub IsUndoneForMemory : State → State → Type 0
IsUndoneForMemory old new = Fails old new ⊥ (SqliteFailure OutOfMemory)

-- the disk has failed or refused since, the connection was shut, or the steps of its statements are limited
abbrev pub HasDiskCause : State → State → Type 0
HasDiskCause old new = MoreFaults old.faults new.faults ⊎ ((old.is_open ≡ false) ⊎ IsSome old.step_limit)
