-- What an open finds after a crash, over the states alone. (Our own.)
use Rattle.std.specs.Prelude.{◌≡◌, List, Some, Result, Ok, Err, IfOk, IfErr}
use Rattle.sqlite.specs.Effect.{IsDatabase}
use Rattle.sqlite.specs.Held.{Held, state}
use Rattle.sqlite.specs.State.{State}
use Rattle.sqlite.specs.Store.{Ghosts}
use Rattle.book_core.specs.declared.entry.Entry.{Entry}
use Rattle.sql_records.specs.declared.fault.OpenFault.{OpenFault}
use Rattle.history_keeper.specs.declared.meta.Meta.{Meta}
use Rattle.sql_records.specs.Held.{Finds, IsSiteIn, LeavesSite, MayLeaveIn, opened_in}
use Rattle.history_keeper.specs.Keeping.{CanBeOpened, LeavesOnly}
use Rattle.sql_records.specs.Opening.{IsAfterStop, IsOpenFault}

-- what an open of a database reports: a site's numbers and its entries, or what is at fault
abbrev pub Opens : State → State → Result (Meta × List Entry) OpenFault → Type 0
Opens old new (Ok found) = IsSiteIn found.0 old.now.trees × (opened_in old.now.trees ≡ Some found.1)
Opens old new (Err fault) = IsOpenFault old new fault

module _ {S : Type 0} (g : Ghosts S) where
  -- an open of a database that a crash may leave
  pub record Reopens (crashed again after : Held S) (answer : Result (Meta × List Entry) OpenFault) : Type 0 where
    pub left : (state g crashed).may_leave (state g again).now.trees
    pub sound : IsDatabase (state g again).now
    pub opens : Opens (state g again) (state g after) answer

  -- What is found was left. The numbers are the site's where only databases of this site can be left, and the entries are
  -- the list where only this list can be left. Where all that can be left reads, memory or the disk is at fault.
  pub record FindsWhatIsLeft (crashed : Held S) (answer : Result (Meta × List Entry) OpenFault) : Type 0 where
    pub found : IfOk answer (λ found. Finds (state g crashed) found.0 found.1)
    pub numbers : (meta : Meta) → LeavesSite (state g crashed) meta → IfOk answer (λ found. found.0 ≡ meta)
    pub entries : (list : List Entry) → LeavesOnly list (MayLeaveIn (state g crashed)) → IfOk answer (λ found. found.1 ≡ list)
    pub fault : (meta : Meta) → LeavesSite (state g crashed) meta → CanBeOpened (MayLeaveIn (state g crashed))
        → IfErr answer (λ fault. IsAfterStop (Some fault))

  abbrev pub CrashesAreSurvived : Type 0
  CrashesAreSurvived = (crashed again after : Held S) (answer : Result (Meta × List Entry) OpenFault) → Reopens crashed again after answer
      → FindsWhatIsLeft crashed answer
