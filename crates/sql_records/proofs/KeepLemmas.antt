-- Why an entry is not known to be kept.
use Rattle.std.proofs.Common.{inl, inr, ℕ, length, Err, sym, subst}
use Rattle.book_core.specs.declared.entry.Entry.{Entry}
use Rattle.sqlite.specs.Store.{Ghosts}
use Rattle.sqlite.specs.declared.error.Error.{Error}
use Rattle.sqlite.specs.State.{Executes}
use Rattle.sqlite.specs.Held.{state}
use Rattle.history_keeper.specs.declared.keeper.KeepFault.TheVariants.{Memory, Disk}
use Rattle.sql_records.specs.Faults.{told}
use Rattle.sql_records.specs.Texts.{insert_text}
use Rattle.sql_records.specs.Rows.{columns_of}
use Rattle.sql_records.specs.Held.{RecordsView, IsAtRest, IsKeepFault, kept_in}
use Rattle.sql_records.proofs.FaultLemmas.{told_either}
use Rattle.sql_records.proofs.OpeningLemmas.{rest_count}

-- an INSERT that failed is told as it failed
pub told_keep : {S : Type 0} (g : Ghosts S) (old new : RecordsView S) (entry : Entry) (count : ℕ) (e : Error) → IsAtRest (state g old.conn) count
    → Executes insert_text (columns_of count entry) (state g old.conn) (state g new.conn) (Err e) → IsKeepFault g old new entry (told Memory Disk e)
told_keep g old new entry count e rest h =
    let at = subst (λ n. Executes insert_text (columns_of n entry) (state g old.conn) (state g new.conn) (Err e))
    (sym (rest_count (state g old.conn) count rest)) h in
    elim (told_either Memory Disk e) [
      | inl memory ↦ subst (IsKeepFault g old new entry) (sym memory.1)
          (inr (subst (λ x. Executes insert_text (columns_of (length (kept_in g old)) entry) (state g old.conn) (state g new.conn) (Err x)) memory.0 at))
      | inr other ↦ subst (IsKeepFault g old new entry) (sym other.1) (inr (e, other.0, at))
    ]
