-- What commands over two copies of a site's records come to. (Our own.)
use Rattle.std.specs.Prelude.{◌≡◌, ◌⊎◌, ℕ, List, Bool, Option, Some, true, false}
use Rattle.plain_words.specs.Writing.{AppendsFront}
use Rattle.sqlite.specs.Store.{Ghosts}
use Rattle.sqlite.specs.State.{HasCleanDisk}
use Rattle.sqlite.specs.Held.{Held, state}
use Rattle.history_keeper.specs.declared.keeper.KeepFault.{KeepFault}
use Rattle.history_keeper.specs.declared.keeper.KeepFault.TheVariants as keep
use Rattle.paired_records.specs.declared.marks.MarkFault.{MarkFault}
use Rattle.paired_records.specs.declared.marks.MarkFault.TheVariants as mark
use Rattle.paired_records.specs.declared.opening.PairFault.{PairFault}
use Rattle.paired_records.specs.declared.opening.PairFault.TheVariants as pair
use Rattle.mirrored_records.specs.Mirrored.{MirrorView}
use Rattle.paired_records.specs.Marks.{AreOfOnePairing, AreUnpaired, IsChangedBy, LeavesAsBeforeOr, is_marked, marking, unmarking}
use Rattle.paired_records.specs.Pairs.{ComesBack, IsPairBook, RefusesPair}
use Rattle.sql_records.specs.Held.{LeavesNoMore, RecordsView}
use Rattle.site_desk.specs.SiteView.{SiteView}
use Rattle.operator_cli.specs.declared.outcome.Outcome.{Outcome}
use Rattle.operator_cli.specs.declared.outcome.Outcome.TheVariants.{Tells, Fails}
use Rattle.operator_cli.specs.declared.command_fault.CommandFault.{CommandFault}
use Rattle.operator_cli.specs.declared.command_fault.CommandFault.TheVariants as fault
use Rattle.operator_cli.specs.declared.told.CommandReply.TheVariants.{Alone, NotPaired, OtherSite, Differs}
use Rattle.operator_cli.specs.declared.status.Status.{Status}
use Rattle.operator_cli.specs.declared.status.Status.TheVariants.{Failed}
use Rattle.operator_cli.specs.Opened.{CannotOpen, IsOpened}
use Rattle.operator_cli.specs.Outcomes.{IsPrinted}
use Rattle.operator_cli.specs.CommandReply.{of_open_fault, of_replay_fault, command_fault_line}

abbrev pub of_mark_fault : MarkFault → CommandFault
of_mark_fault mark.Memory = fault.Memory
of_mark_fault mark.Disk = fault.Disk

abbrev pub of_keep_fault : KeepFault → CommandFault
of_keep_fault keep.Memory = fault.Memory
of_keep_fault keep.Disk = fault.Disk
of_keep_fault keep.Shut = fault.Disk

-- what is told of two copies that do not become one site
abbrev pub outcome_of_pair : PairFault → Outcome
outcome_of_pair pair.NotPaired = Tells NotPaired
outcome_of_pair pair.OtherSite = Tells OtherSite
outcome_of_pair (pair.Differs place) = Tells (Differs place)
outcome_of_pair (pair.Opening cause) = Fails (of_open_fault cause)
outcome_of_pair (pair.Short cause) = Fails (of_keep_fault cause)
outcome_of_pair (pair.Replay cause) = Fails (of_replay_fault cause)

module _ {S : Type 0} (g : Ghosts S) (first first_now second second_now : Held S) where
  -- it was asked of two databases whether they are of one pairing, which wrote nothing
  pub record WereAsked : Type 0 where
    pub first_left : HasCleanDisk (state g first_now) → LeavesNoMore (state g first) (state g first_now)
    pub second_left : HasCleanDisk (state g second_now) → LeavesNoMore (state g second) (state g second_now)

  -- they are not, or that could not be read
  abbrev pub RefusesPairing : Outcome → Type 0
  RefusesPairing outcome = (AreUnpaired g first first_now second second_now × (outcome ≡ Tells NotPaired))
      ⊎ ((why : MarkFault) × (outcome ≡ Fails (of_mark_fault why)))

module _ {S : Type 0} (g : Ghosts S) (first second : Held S) (is_first : Bool) where
  -- the book of two databases that are of one pairing
  pub record IsBookOfCopies (book : SiteView (MirrorView (RecordsView S) (RecordsView S))) : Type 0 where
    pub one : Held S
    pub other : Held S
    pub asked : WereAsked g first one second other
    pub paired : AreOfOnePairing g first one second other
    pub opened : IsPairBook g one other is_first book

  -- they do not become one site, which is told by this outcome, and this comes back of them
  pub record RefusesCopies (back back_too : Option (Held S)) (outcome : Outcome) : Type 0 where
    pub one : Held S
    pub other : Held S
    pub asked : WereAsked g first one second other
    pub cause : (RefusesPairing g first one second other outcome × ComesBack back one × ComesBack back_too other)
        ⊎ (AreOfOnePairing g first one second other
        × ((fault : PairFault) × (outcome ≡ outcome_of_pair fault) × RefusesPair g one other is_first back back_too fault))

  -- and that is told
  abbrev pub TellsRefusal : Option (Held S) → Option (Held S) → Option (List ℕ) → Option (List ℕ) → Option (List ℕ) → Option (List ℕ) → Status → Type 0
  TellsRefusal back back_too old_out new_out old_err new_err status =
      (outcome : Outcome) × RefusesCopies back back_too outcome × IsPrinted outcome old_out new_out old_err new_err status

module _ {S : Type 0} (g : Ghosts S) (conn : Held S) where
  -- the records of the connection were opened, which changed nothing, and it comes back
  pub record IsLookedAt (after : Held S) : Type 0 where
    pub book : SiteView (RecordsView S)
    pub opened : IsOpened g conn book
    pub back : after ≡ book.keeper.conn

  module _ (file copy : List ℕ) where
    -- The records of a site, which had no mark, were looked at and then marked, which a crash leaves.
    pub record Marks (after : Held S) : Type 0 where
      pub once : is_marked conn.schema ≡ false
      pub seen : Held S
      pub looked : IsLookedAt seen
      pub marked : is_marked after.schema ≡ true
      pub changed : HasCleanDisk (state g after) → IsChangedBy g (marking file copy) seen after
      pub clean : HasCleanDisk (state g after) → HasCleanDisk (state g seen)

    -- they were looked at, and the mark could not be set: a crash leaves it or not
    pub record CannotMark (cause : CommandFault) (after : Held S) : Type 0 where
      pub seen : Held S
      pub looked : IsLookedAt seen
      pub told : (why : MarkFault) × (cause ≡ of_mark_fault why)
      pub crash : HasCleanDisk (state g after) → LeavesAsBeforeOr g (marking file copy) seen after

    -- they are not marked: they have a mark, or are not opened as the records of a site, or the mark could not be set
    abbrev pub RefusesMark : CommandFault → Option (Held S) → Type 0
    RefusesMark cause back =
        ((is_marked conn.schema ≡ true) × (cause ≡ fault.OneOfTwo) × (back ≡ Some conn))
        ⊎ ((is_marked conn.schema ≡ false) × (CannotOpen g conn cause back ⊎ ((after : Held S) × (back ≡ Some after) × CannotMark cause after)))

    -- and that is told
    abbrev pub TellsUnmarked : Option (List ℕ) → Option (List ℕ) → Status → Option (Held S) → Type 0
    TellsUnmarked old_err new_err status back = (status ≡ Failed)
        × ((cause : CommandFault) × RefusesMark cause back × AppendsFront old_err new_err (command_fault_line cause))

-- The mark is taken off, which a crash leaves; or there was none, or it could not be, and a crash leaves it or not.
pub record Unmarks {S : Type 0} (g : Ghosts S) (old new : Held S) (outcome : Outcome) : Type 0 where
  pub told : ((outcome ≡ Tells NotPaired) ⊎ (outcome ≡ Tells Alone)) ⊎ ((cause : MarkFault) × (outcome ≡ Fails (of_mark_fault cause)))
  pub none : is_marked old.schema ≡ false → (outcome ≡ Tells NotPaired) × (new ≡ old)
  pub only : outcome ≡ Tells NotPaired → is_marked old.schema ≡ false
  pub alone : outcome ≡ Tells Alone → (is_marked old.schema ≡ true) × (is_marked new.schema ≡ false)
  pub changed : HasCleanDisk (state g new) → outcome ≡ Tells Alone → IsChangedBy g unmarking old new
  pub crash : HasCleanDisk (state g new) → LeavesAsBeforeOr g unmarking old new
