-- What the UPDATE makes of records at rest, and what a stop may leave.
use Rattle.std.proofs.Common.{◌≡◌, ◌⊎◌, inl, inr, ℕ, List, [], ◌∷◌, length, map, false, Ok, Err, IsTrue, sym, ap, subst, ◌∙◌}
use Rattle.std.proofs.lemmas.Bool.{cases_Bool}
use Rattle.sqlite.specs.declared.error.Error.{Error}
use Rattle.sqlite.specs.Order.{Row}
use Rattle.sqlite.specs.Command.TheVariants.{Commit, Release}
use Rattle.sqlite.specs.Tree.{Trees}
use Rattle.sqlite.specs.Listing.{understood}
use Rattle.sqlite.specs.State.{State, HasCleanDisk, Survives, Executes, ExecutesIn, IsNotRun, CommitsBy, mode_of, IsNewestNamed, names_in, begins_at, shows_rows, IsUnchanged, IsRolledBack}
use Rattle.sqlite.proofs.Callers.{statement_of, runs_as}
use Rattle.history_keeper.specs.declared.meta.Meta.{Meta}
use Rattle.sql_records.proofs.MakeLemmas.{was_clean}
use Rattle.sql_records.specs.declared.version.Version.TheVariants.{First, Second}
use Rattle.sql_records.specs.Texts.{update_text}
use Rattle.sql_records.specs.Layout.{IsOurs, ours_and, meta_shown, HasMeta, HasMetaAs, AreNumbers}
use Rattle.sql_records.specs.Held.{IsAtRest, LeavesSite, MayLeaveIn, history_in, opened_in, rows_in}
use Rattle.std.specs.List.{AllByRecursion}
use Rattle.sql_records.specs.Rows.{AreWhole, AreWholeIn, IsOfVersion, in_order, shown, history_of, entries_from}
use Rattle.history_keeper.specs.Keeping.{LeavesOnly}
use Rattle.sql_records.specs.Migrating.{AreRecordsIn, IsLegalFirst, IsMigrated, LeavesAsBeforeOrMigrated, LeavesItOrMigrated, LeavesSameEntries}
use Rattle.sql_records.proofs.AppendLemmas.{commits_as}
use Rattle.sql_records.proofs.RowLemmas.{read_from}
use Rattle.sql_records.proofs.OpeningLemmas.{leaves_only, leaves_site, one_meta}
use Rattle.sql_records.proofs.UpdateLemmas.{update_command, update_is, update_plain, updates}

-- a statement that fails leaves the connection as it was, or as the last commit left it
err_keeps : (sql : List ℕ) (params : Row) (old new : State) (e : Error) → Executes sql params old new (Err e) → IsUnchanged old new ⊎ IsRolledBack old new
unfolding ExecutesIn IsNotRun
err_keeps sql params old new e (inl (inl h)) = inl h.1
err_keeps sql params old new e (inl (inr fails)) = inr fails.3
err_keeps sql params old new e (inr h) = elim (cases_Bool (shows_rows false h.0)) [
  | inl shows ↦ inl (rw shows at h.2).1
  | inr runs ↦ (elim (rw runs at h.2) [
    | inl refused ↦ inl refused.1
    | inr fails ↦ inr fails.3
  ])
]

abbrev text_in : {s : _} → IsOurs s → List ℕ
text_in ours = statement_of update_text (understood (ours_and ours.tables ours.indexes ours.views) update_text)

module _ (old new : State) (place : ℕ) (rest : IsAtRest old place) where
  -- an UPDATE that fails changes nothing that is shown or committed, and leaves no transaction
  as_before : (e : Error) → Executes update_text [] old new (Err e) → IsTrue new.is_open → (new.now ≡ old.now) × (new.committed ≡ old.committed)
      × (new.in_transaction ≡ old.in_transaction)
  as_before e h is_open = elim (err_keeps update_text [] old new e h) [
    | inl same ↦ (same.0.now_is, same.0.committed_is, same.0.mode)
    | inr undone ↦ ((undone.undone is_open).0 ∙ rest.settled, (undone.undone is_open).1, undone.autocommit ∙ sym rest.autocommit)
  ]

  module _ (meta : Meta) (is : HasMetaAs First meta old.now.trees) where
    ok : (count : ℕ) → Executes update_text [] old new (Ok count) → IsAtRest new place × IsMigrated old.now.trees new.now.trees
    ok count h =
        let ours = rest.schema in
        let w = runs_as update_text [] old new (ours_and ours.tables ours.indexes ours.views) ours.is update_command
        (update_is ours.tables ours.indexes ours.views) (update_plain ours.tables ours.indexes ours.views) count h in
        let it = updates meta old.step_limit (mode_of old) old.now.schema old.now.trees new.now (text_in ours) w.tally ours is w.changed in
        let rows : rows_in new.now.trees ≡ rows_in old.now.trees = ap (λ t. in_order (map shown t)) it.entries in (
          record {
            is_open = w.shown.is_open;
            autocommit = w.shown.mode ∙ rest.autocommit;
            settled = rw rest.autocommit at w.shown.committed_is;
            schema = record { tables = ours.tables; indexes = ours.indexes; views = ours.views; is = it.same; bare = ours.bare };
            sound = w.sound;
            whole = subst (AreWhole 0) (sym rows) rest.whole;
            counted = ap length rows ∙ rest.counted;
          },
          record { meta = meta; was = is; is = ap (map meta_shown) it.row; entries = it.entries },
        )

    never_ends : ((update_command ≡ Commit)
        ⊎ ((name : List ℕ) × (at : ℕ) × (update_command ≡ Release name) × IsNewestNamed (names_in old) name at × IsTrue (begins_at old at))) → ⊥
    never_ends (inl is) = cc
    never_ends (inr release) = let is = release.2 in cc

    commits : (db : Trees) → CommitsBy update_text [] old db → IsMigrated old.now.trees db
    commits db h =
        let ours = rest.schema in
        elim (commits_as update_text [] old (ours_and ours.tables ours.indexes ours.views) ours.is update_command
        (update_is ours.tables ours.indexes ours.views) (update_plain ours.tables ours.indexes ours.views) db h) [
          | inl ends ↦ absurd (never_ends ends.0)
          | inr writes ↦ (
              let it = updates meta old.step_limit (mode_of old) old.now.schema old.now.trees writes.2 (text_in ours) writes.1 ours is writes.3 in
              record {
                meta = meta;
                was = is;
                is = ap (λ (t : Trees). map meta_shown (t 0)) writes.5
                    ∙ ap (map meta_shown) it.row;
                entries = ap (λ (t : Trees). t 1) writes.5 ∙ it.entries;
              })
        ]

-- over any statement that was run, as a function's clauses speak of it
module _ (old new : State) (rest : HasCleanDisk old → (place : ℕ) × IsAtRest old place) (good : HasCleanDisk old → IsLegalFirst old.now.trees)
    (survives : Survives old new (CommitsBy update_text [] old)) where
  pub leaves_either : HasCleanDisk new → LeavesAsBeforeOrMigrated old new
  leaves_either clean db left =
      let at_rest = rest (was_clean old new _ survives clean) in
      let legal = good (was_clean old new _ survives clean) in
      elim (survives.crash clean db left) [
        | inl before ↦ inl before
        | inr commit ↦ inr (legal, commits old new at_rest.0 at_rest.1 legal.meta legal.first.numbers db commit)
      ]

  pub stays_as : (e : Error) → Executes update_text [] old new (Err e) → HasCleanDisk new → IsTrue new.is_open
      → (new.now ≡ old.now) × (new.committed ≡ old.committed) × (new.in_transaction ≡ old.in_transaction)
  stays_as e h clean = let at_rest = rest (was_clean old new _ survives clean) in as_before old new at_rest.0 at_rest.1 e h

  module _ (count : ℕ) (runs : HasCleanDisk new → Executes update_text [] old new (Ok count)) (clean : HasCleanDisk new) where
    both : IsAtRest new (rest (was_clean old new _ survives clean)).0 × IsMigrated old.now.trees new.now.trees
    both = let at_rest = rest (was_clean old new _ survives clean) in let legal = good (was_clean old new _ survives clean) in ok old new at_rest.0
        at_rest.1 legal.meta legal.first.numbers count (runs clean)

    pub migrated : IsMigrated old.now.trees new.now.trees
    migrated = both.1

    pub rests : (place : ℕ) → IsAtRest old place → IsAtRest new place
    rests place at_rest = let legal = good (was_clean old new _ survives clean)
        in (ok old new place at_rest legal.meta legal.first.numbers count (runs clean)).0

    same_history : history_in new.now.trees ≡ history_in old.now.trees
    same_history = ap history_of both.1.entries

    -- `only` and `stays` are the laws of the store: while it is open, a crash leaves the last commit
    module _ (only : (db : Trees) → IsTrue new.is_open → new.may_leave db → db ≡ new.committed.trees) where
      pub leaves_list : (IsTrue new.is_open → new.may_leave new.committed.trees) → LeavesOnly (history_in old.now.trees) (MayLeaveIn new)
      leaves_list stays = subst (λ list. LeavesOnly list (MayLeaveIn new)) same_history
          (leaves_only new (rest (was_clean old new _ survives clean)).0 both.0 only stays)

      pub leaves_numbers : (meta : Meta) → HasMetaAs First meta old.now.trees → LeavesSite new meta
      leaves_numbers meta was =
          let had = good (was_clean old new _ survives clean) in
          let same = one_meta First had.meta meta old.now.trees had.first.numbers was in
          let also = one_meta First both.1.meta meta old.now.trees both.1.was was in
          leaves_site new (rest (was_clean old new _ survives clean)).0 both.0 only meta (subst AreNumbers same had.first.within)
          (subst (λ m. HasMeta m new.now.trees) also both.1.is)

-- ---- what is read of what a stop leaves

-- each row of the second version is any
any_rows : (rows : List Row) → AllByRecursion (IsOfVersion Second) rows
any_rows [] = tt
any_rows (values ∷ rows) = (tt, any_rows rows)

pub same_entries : (trees : Trees) (s : State) → LeavesItOrMigrated trees s → LeavesSameEntries trees s
same_entries trees s either meta first db left = elim (either db left) [
  | inl same ↦ (
      let is : db ≡ trees = same in
      (inl (subst (AreRecordsIn First meta) (sym is) first), ap opened_in is ∙ read_from 0 (rows_in trees) first.whole.0))
  | inr made ↦ (
      let it = made.1 in
      let rows : rows_in db ≡ rows_in trees = ap (λ t. in_order (map shown t)) it.entries in
      let one = one_meta First it.meta meta trees it.was first.numbers in
      let whole : AreWholeIn Second 0 (rows_in db) = (subst (AreWhole 0) (sym rows) first.whole.0, any_rows (rows_in db)) in (
        inr (record { numbers = subst (λ m. HasMetaAs Second m db) one it.is; within = first.within; whole = whole }),
        ap (entries_from 0) rows ∙ read_from 0 (rows_in trees) first.whole.0,
      ))
]
