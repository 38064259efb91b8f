-- What one transaction over several entries makes of the history, and what a stop may leave.
use Rattle.std.proofs.Common.{◌≡◌, ◌≢◌, ◌⊎◌, inl, inr, ℕ, ◌+◌, ◌<◌, List, [], ◌∷◌, ◌++◌, map, take, get_or, Some, IsTrue, true, false, length, refl, sym, ap, subst, ◌∙◌, append-nil}
use Rattle.std.proofs.lemmas.List.{append_assoc}
use Rattle.sqlite.specs.Store.{Ghosts}
use Rattle.sqlite.specs.Held.{Held, state}
use Rattle.sqlite.proofs.Callers.{survives_begin}
use Rattle.sqlite.specs.Tree.{Trees}
use Rattle.sqlite.specs.Effect.{Database, IsDatabase}
use Rattle.sqlite.specs.State.{State, HasCleanDisk, Survives, Shows}
use Rattle.book_core.specs.declared.entry.Entry.{Entry}
use Rattle.history_keeper.specs.declared.meta.Meta.{Meta}
use Rattle.sql_records.specs.Layout.{IsOurs, HasMeta, meta_shown}
use Rattle.sql_records.specs.Rows.{AreWhole}
use Rattle.sql_records.specs.Held.{Adds, HasMore, IsAdding, IsAtRest, IsSiteIn, MayLeaveIn, LeavesSite, history_in, opened_in, rows_in}
use Rattle.history_keeper.specs.Keeping.{LeavesAllOrNone}
use Rattle.sqlite.specs.Steps.{FailsToCommit}
use Rattle.sqlite.specs.declared.error.Error.{Error}
use Rattle.history_keeper.specs.declared.keeper.KeepFault.{KeepFault}
use Rattle.history_keeper.specs.declared.keeper.KeepFault.TheVariants.{Memory, Disk, Shut}
use Rattle.sql_records.specs.Adding.{FailsToKeep, FailsToPutAll, IsKeepAllFault, inserting}
use Rattle.sql_records.specs.Faults.{told}
use Rattle.sql_records.specs.Making.{RunInTurn}
use Rattle.sql_records.proofs.FaultLemmas.{told_either}
use Rattle.sql_records.proofs.OpeningLemmas.{rest_count}
use Rattle.sql_records.proofs.AddingLemmas.{take_more}
use Rattle.sql_records.proofs.MakeLemmas.{was_clean}
use Rattle.sql_records.proofs.RowLemmas.{read_from}

-- a transaction that begins over records at rest has added nothing
pub begins_adding : (old : State) (count : ℕ) → IsAtRest old count → IsAdding old.now (record old { in_transaction = true }) count []
begins_adding old count rest = record {
  is_open = rest.is_open;
  inside = refl;
  schema = rest.schema;
  sound = rest.sound;
  whole = rest.whole;
  counted = rest.counted;
  history = sym (append-nil (history_in old.now.trees));
  meta = refl;
}

-- `only` and `stays` are the laws of the store: while it is open, a stop leaves the last commit and nothing else
module _ (old : State) (place : ℕ) (rest : IsAtRest old place) (only : (db : Trees) → IsTrue old.is_open → old.may_leave db → db ≡ old.committed.trees) where
  left_as_before : (db : Trees) → old.may_leave db → opened_in db ≡ Some (history_in old.now.trees)
  left_as_before db left = ap opened_in (only db rest.is_open left ∙ ap (λ (d : Database). d.trees) rest.settled)
      ∙ read_from 0 (rows_in old.now.trees) rest.whole

  -- what ends with nothing committed leaves the list as it was
  pub leaves_none : (entries : List Entry) (new : State) → ((db : Trees) → new.may_leave db → old.may_leave db)
      → LeavesAllOrNone (history_in old.now.trees) entries (MayLeaveIn new)
  leaves_none entries new before left h = inl (h.2 ∙ left_as_before h.0 (before h.0 h.1))

  module _ (filled new : State) (next : ℕ) (entries : List Entry) (adding : IsAdding old.now filled next entries) (before : (db : Trees)
      → filled.may_leave db → old.may_leave db)
      (crash : (db : Trees) → new.may_leave db → filled.may_leave db ⊎ (db ≡ filled.now.trees)) where
    pub leaves_all : LeavesAllOrNone (history_in old.now.trees) entries (MayLeaveIn new)
    leaves_all left h =
        elim (crash h.0 h.1) [
          | inl was ↦ inl (h.2 ∙ left_as_before h.0 (before h.0 was))
          | inr is ↦ inr (h.2 ∙ ap opened_in is ∙ read_from 0 (rows_in filled.now.trees) adding.whole ∙ ap Some adding.history)
        ]

    pub site_all : (IsTrue old.is_open → old.may_leave old.committed.trees) → (meta : Meta) → LeavesSite old meta → LeavesSite new meta
    site_all stays meta had db left =
        elim (crash db left) [
          | inl was ↦ had db (before db was)
          | inr is ↦ (
              let were = had old.committed.trees (stays rest.is_open) in
              let now : HasMeta meta old.now.trees = subst (λ (d : Database). HasMeta meta d.trees) rest.settled were.numbers in
              subst (IsSiteIn meta) (sym is)
              (record {
                schema = filled.now.schema;
                ours = adding.schema;
                sound = adding.sound;
                numbers = ap (map meta_shown) adding.meta
                    ∙ now;
                within = were.within;
              }))
        ]

-- a commit leaves records at rest, with all entries
module _ (old filled new : State) (next : ℕ) (entries : List Entry) (adding : IsAdding old.now filled next entries)
    (shows : Shows filled new filled.now filled.now false) where
  rests_all : IsAtRest new next
  rests_all = record {
    is_open = shows.is_open;
    autocommit = shows.mode;
    settled = shows.committed_is ∙ sym shows.now_is;
    schema = subst (λ (d : Database). IsOurs d.schema) (sym shows.now_is) adding.schema;
    sound = subst IsDatabase (sym shows.now_is) adding.sound;
    whole = subst (λ (d : Database). AreWhole 0 (rows_in d.trees)) (sym shows.now_is) adding.whole;
    counted = ap (λ (d : Database). length (rows_in d.trees)) shows.now_is ∙ adding.counted;
  }

  adds_all : history_in new.now.trees ≡ history_in old.now.trees ++ entries
  adds_all = ap (λ (d : Database). history_in d.trees) shows.now_is ∙ adding.history

-- one entry more behind those that were added
pub more_behind : (added entries : List Entry) (k : ℕ) (entry : Entry) → k < length entries → entry ≡ get_or entries k entry
    → added ++ take (k + 1) entries ≡ (added ++ take k entries) ++ entry ∷ []
more_behind added entries k entry within is = ap (λ xs. added ++ xs) (take_more entries k entry within is)
    ∙ sym (append_assoc added (take k entries) (entry ∷ []))

-- a transaction over records at rest, up to before its end
module _ {S : Type 0} (g : Ghosts S) (conn begun filled : Held S) (is : begun ≡ record conn { in_transaction = true }) (place : ℕ) (entries : List Entry)
    (rest : HasCleanDisk (state g conn) → IsAtRest (state g conn) place)
    (survives : Survives (state g begun) (state g filled) (λ _. ⊥)) (only : (db : Trees) → IsTrue (state g conn).is_open → (state g conn).may_leave db
    → db ≡ (state g conn).committed.trees) where
  since : Survives (state g conn) (state g filled) (λ _. ⊥)
  since = survives_begin g conn (state g filled) _ (subst (λ b. Survives (state g b) (state g filled) (λ _. ⊥)) is survives)

  rested : HasCleanDisk (state g filled) → IsAtRest (state g conn) place
  rested clean = rest (was_clean (state g conn) (state g filled) _ since clean)

  before : HasCleanDisk (state g filled) → (db : Trees) → (state g filled).may_leave db → (state g conn).may_leave db
  before clean db left = elim (since.crash clean db left) [
    | inl was ↦ was
    | inr none ↦ absurd none
  ]

  pub undone_leaves : (last : Held S) → Survives (state g filled) (state g last) (λ _. ⊥) → HasCleanDisk (state g last)
      → LeavesAllOrNone (history_in (state g conn).now.trees) entries (MayLeaveIn (state g last))
  undone_leaves last ends clean =
      let was = was_clean (state g filled) (state g last) _ ends clean in
      leaves_none (state g conn) place (rested was) only entries (state g last) (λ db left. elim (ends.crash clean db left) [
        | inl still ↦ before was db still
        | inr none ↦ absurd none
      ])

  -- why it is undone, or its commit fails
  begun_inside : (state g begun).in_transaction ≡ true
  begun_inside = subst (λ b. (state g b).in_transaction ≡ true) (sym is) refl

  told_all : (new : Held S) (fault : KeepFault) → fault ≢ Shut
      → FailsToKeep g (record { conn = conn; failures = 0 }) (record { conn = new; failures = 1 }) entries fault
      → IsKeepAllFault g (record { conn = conn; failures = 0 }) (record { conn = new; failures = 1 }) entries fault
  told_all new Memory named fails = fails
  told_all new Disk named fails = inr fails
  told_all new Shut named fails = absurd (named refl)

  pub adding_fails : (new : Held S) (fault : KeepFault) → HasCleanDisk (state g filled) → fault ≢ Shut
      → ((state g begun).in_transaction ≡ true → FailsToPutAll g place entries begun filled fault)
      → IsKeepAllFault g (record { conn = conn; failures = 0 }) (record { conn = new; failures = 1 }) entries fault
  adding_fails new fault clean named fails =
      let at = rest_count (state g conn) place (rested clean) in
      told_all new fault named (inl (
        filled,
        clean,
        subst (λ n. FailsToPutAll g n entries (record conn { in_transaction = true }) filled fault) (sym at)
            (subst (λ b. FailsToPutAll g place entries b filled fault) is (fails begun_inside)),
      ))

  pub commit_fails : (new : Held S) (e : Error) (fault : KeepFault) → HasCleanDisk (state g filled) → fault ≡ told Memory Disk e
      → ((state g begun).in_transaction ≡ true → RunInTurn g (inserting place entries) begun filled)
      → FailsToCommit (state g filled) (state g new) e
      → IsKeepAllFault g (record { conn = conn; failures = 0 }) (record { conn = new; failures = 1 }) entries fault
  commit_fails new e fault clean is_told runs commit =
      let at = rest_count (state g conn) place (rested clean) in
      told_all new fault (never_shut e fault is_told) (inr (record {
        filled = filled;
        runs = subst (λ n. RunInTurn g (inserting n entries) (record conn { in_transaction = true }) filled) (sym at)
            (subst (λ b. RunInTurn g (inserting place entries) b filled) is (runs begun_inside));
        error = e;
        commit = commit;
        told_so = is_told;
      }))
    where
      never_shut : (e : Error) (fault : KeepFault) → fault ≡ told Memory Disk e → fault ≢ Shut
      never_shut e fault is_told is_shut =
          elim (told_either Memory Disk e) [
            | inl memory ↦ (let h : Memory ≡ Shut = sym memory.1 ∙ sym is_told ∙ is_shut in cc)
            | inr other ↦ (let h : Disk ≡ Shut = sym other.1 ∙ sym is_told ∙ is_shut in cc)
          ]

  module _ (adds : HasCleanDisk (state g filled) → Adds (state g begun) (state g filled) place entries) where
    adding : HasCleanDisk (state g filled) → IsAdding (state g conn).now (state g filled) (place + length entries) entries
    adding clean = adds clean (state g conn).now []
        (subst (λ b. IsAdding (state g conn).now (state g b) place []) (sym is) (begins_adding (state g conn) place (rested clean)))

    module _ (last : Held S) (ends : Survives (state g filled) (state g last) (λ db. db ≡ (state g filled).now.trees))
        (clean : HasCleanDisk (state g last)) where
      pub stored_leaves : LeavesAllOrNone (history_in (state g conn).now.trees) entries (MayLeaveIn (state g last))
      stored_leaves =
          let was = was_clean (state g filled) (state g last) _ ends clean in
          leaves_all (state g conn) place (rested was) only (state g filled) (state g last) (place + length entries) entries (adding was) (before was)
          (ends.crash clean)

      pub stored_site : (IsTrue (state g conn).is_open → (state g conn).may_leave (state g conn).committed.trees) → (meta : Meta)
          → LeavesSite (state g conn) meta → LeavesSite (state g last) meta
      stored_site stays =
          let was = was_clean (state g filled) (state g last) _ ends clean in
          site_all (state g conn) place (rested was) only (state g filled) (state g last) (place + length entries) entries (adding was) (before was)
          (ends.crash clean) stays

      pub stored_more : Shows (state g filled) (state g last) (state g filled).now (state g filled).now false
          → HasMore (state g conn) (state g last) place entries
      stored_more shows =
          let is = adding (was_clean (state g filled) (state g last) _ ends clean) in
          record {
            rest = rests_all (state g conn) (state g filled) (state g last) (place + length entries) entries is shows;
            added = adds_all (state g conn) (state g filled) (state g last) (place + length entries) entries is shows;
          }
