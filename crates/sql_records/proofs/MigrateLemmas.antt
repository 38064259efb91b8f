-- What is told of records that are not migrated, and what is left of those that are.
use Rattle.std.proofs.Common.{◌≡◌, inl, inr, List, [], Bool, true, false, Err, IsTrue, sym, subst, ◌∙◌}
use Rattle.std.proofs.lemmas.Bool.{cases_Bool}
use Rattle.sqlite.specs.State.{State, Executes, IsUnchanged}
use Rattle.sqlite.specs.Store.{Ghosts}
use Rattle.sqlite.specs.Held.{Held, state}
use Rattle.sqlite.specs.declared.error.Error.{Error}
use Rattle.book_core.specs.declared.entry.Entry.{Entry}
use Rattle.book_core.specs.declared.plan.ReplayFault.{ReplayFault}
use Rattle.book_core.specs.declared.plan.ReplayFault.TheVariants.{IllegalAt, Memory as NoMemory}
use Rattle.book_core.specs.Replay.{IsReplayFault}
use Rattle.history_keeper.specs.declared.meta.Meta.{Meta}
use Rattle.sql_records.specs.declared.version.Version.TheVariants.{First}
use Rattle.sql_records.specs.declared.fault.OpenFault.{OpenFault}
use Rattle.sql_records.specs.declared.fault.OpenFault.TheVariants.{NotOurs, OtherSchema, Damaged, Memory, Disk}
use Rattle.sql_records.specs.declared.fault.MigrateFault.{MigrateFault}
use Rattle.sql_records.specs.declared.fault.MigrateFault.TheVariants as migrate
use Rattle.sql_records.specs.Texts.{update_text}
use Rattle.sql_records.specs.Faults.{told}
use Rattle.history_keeper.specs.Meta.{office_of}
use Rattle.sql_records.specs.Layout.{IsOurs, HasOtherSchema}
use Rattle.sql_records.specs.Held.{history_in}
use Rattle.sql_records.specs.Opening.{IsForeignCauseAs, IsOurFault, IsReadFault}
use Rattle.sql_records.specs.Migrating.{AreRecordsIn, IsToldAs, of_replay, IsUnread, IsUnfit, IsMigrateFault}
use Rattle.sql_records.proofs.FaultLemmas.{told_either}

-- what is at fault in records of ours is told as it is
unread : (old new : State) (ours : Bool) (cause : OpenFault) (fault : MigrateFault) → ours ≡ true → IsOurs old.now.schema → IsReadFault First old new cause
    → IsToldAs ours cause fault → IsUnread old new fault
unread old new ours cause fault is schema (inl foreign) told = absurd (foreign.0 schema)
unread old new ours cause fault is schema (inr found) told = by_cause cause found.1 (subst (λ b. IsToldAs b cause fault) is told)
  where
    by_cause : (c : OpenFault) → IsOurFault First old new c → IsToldAs true c fault → IsUnread old new fault
    by_cause NotOurs h is = subst (IsUnread old new) (sym is) h
    by_cause (OtherSchema version) h (inl (same, is)) = subst (IsUnread old new) (sym is) (subst (λ v. HasOtherSchema First v old.now.trees) same h)
    by_cause (OtherSchema version) h (inr (differs, is)) = subst (IsUnread old new) (sym is) (differs, h)
    by_cause (Damaged place) h is = subst (IsUnread old new) (sym is) (inl h)
    by_cause Memory (inl h) is = subst (IsUnread old new) (sym is) (inl h)
    by_cause Memory (inr (same, h)) is = subst (IsUnread old new) (sym is) (inr (same, inl h))
    by_cause Disk h is = subst (IsUnread old new) (sym is) h

-- what a reading answered is told as it is, where the tables are ours or not
pub unfit : {S : Type 0} (g : Ghosts S) (conn after : Held S) (ours : Bool) (cause : OpenFault) (fault : MigrateFault) → conn.in_transaction ≡ false
    → (IsTrue ours → IsOurs conn.schema) → (IsOurs conn.schema → IsTrue ours)
    → (¬ IsOurs conn.schema → IsForeignCauseAs g conn First cause) → IsReadFault First (state g conn) (state g after) cause → IsToldAs ours cause fault
    → IsUnfit g conn after fault
unfit g conn after ours cause fault outside to from foreign found tells = elim (cases_Bool ours) [
  | inl ours_are ↦ inr (outside, inr (to ours_are, unread (state g conn) (state g after) ours cause fault ours_are (to ours_are) found tells))
  | inr are_not ↦ (
      let strange : ¬ IsOurs conn.schema = λ is. (let e : false ≡ true = sym are_not ∙ from is in cc) in
      inr (outside, inl (strange, (cause, foreign strange, subst (λ b. IsToldAs b cause fault) are_not tells))))
]

-- so is a history that is not legal
pub no_history : (old new : State) (meta : Meta) (entries : List Entry) (cause : ReplayFault) (fault : MigrateFault) → IsUnchanged old new
    → AreRecordsIn First meta old.now.trees → entries ≡ history_in old.now.trees
    → IsReplayFault (office_of meta) entries cause → fault ≡ of_replay cause → IsUnread old new fault
no_history old new meta entries (IllegalAt place) fault same first is found told =
    subst (IsUnread old new) (sym told)
    (inr (record { meta = meta; first = first; found = subst (λ l. IsReplayFault (office_of meta) l (IllegalAt place)) is found }))
no_history old new meta entries NoMemory fault same first is found told =
    subst (IsUnread old new) (sym told)
    (inr (same, inr (record { meta = meta; first = first; found = subst (λ l. IsReplayFault (office_of meta) l NoMemory) is found })))

-- what the UPDATE was answered with is told as it is
pub unset : {S : Type 0} (g : Ghosts S) (conn mid after : Held S) (e : Error) → IsOurs conn.schema → IsUnchanged (state g conn) (state g mid)
    → Executes update_text [] (state g mid) (state g after) (Err e)
    → IsMigrateFault g conn after (told migrate.Memory migrate.Disk e)
unset g conn mid after e ours same fails =
    elim (told_either migrate.Memory migrate.Disk e) [
      | inl memory ↦ subst (IsMigrateFault g conn after) (sym memory.1)
          (inr (ours, (mid, same, subst (λ x. Executes update_text [] (state g mid) (state g after) (Err x)) memory.0 fails)))
      | inr other ↦ subst (IsMigrateFault g conn after) (sym other.1) (inr (ours, (e, other.0, (mid, same, fails))))
    ]
