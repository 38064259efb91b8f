-- What one INSERT makes of the history, and what a stop may leave.
use Rattle.std.proofs.Common.{◌≡◌, ◌⊎◌, inl, inr, ℕ, ◌+◌, pos, List, [], ◌∷◌, ◌++◌, map, length, None, Some, Option, Ok, Err, Result, IsTrue, OnOk, refl, sym, ap, subst, subst₂, ◌∙◌, arith, append-nil}
use Rattle.std.specs.List.{filter_map}
use Rattle.std.proofs.lemmas.List.{append_assoc, length-append}
use Rattle.sqlite.specs.declared.types.Value.TheVariants.{Null, Int}
use Rattle.sqlite.specs.Kind.TheVariants.{Integer, Text}
use Rattle.sqlite.specs.Cast.{cast}
use Rattle.sqlite.specs.Order.{Row, column}
use Rattle.sqlite.specs.Schema.{Schema}
use Rattle.sqlite.specs.Command.{Command}
use Rattle.sqlite.specs.Command.TheVariants.{Commit, Release}
use Rattle.sqlite.specs.Tree.{Trees}
use Rattle.sqlite.specs.Does.{Tally, Does}
use Rattle.sqlite.specs.Effect.{Database, IsDatabase}
use Rattle.sqlite.specs.declared.run.Mode.{Mode}
use Rattle.sqlite.specs.declared.error.Error.{Error}
use Rattle.sqlite.specs.Listing.{understood}
use Rattle.sqlite.specs.State.{State, HasCleanDisk, Survives, Executes, ExecutesInside, CommitsBy, MayCommit, mode_of, IsNewestNamed, names_in, begins_at}
use Rattle.sqlite.proofs.Callers.{IsPlain, command_of, statement_of, runs_as}
use Rattle.request_ledger.specs.declared.request.Request.{Request}
use Rattle.request_ledger.specs.declared.request.Request.TheVariants.{Announce, Release as ReleaseSeats, Sell, Refund, Cede}
use Rattle.request_ledger.specs.declared.reply.Reply.{Reply}
use Rattle.request_ledger.specs.declared.reply.Reply.TheVariants.{Done, Known, Unknown, Short, CellFull, NoSale, Refunded, TooMany, ToSelf, NoSite}
use Rattle.book_core.specs.declared.entry.Entry.{Entry}
use Rattle.book_core.specs.declared.entry.Entry.TheVariants.{Asked, Joined, Grown}
use Rattle.history_keeper.specs.declared.meta.Meta.{Meta}
use Rattle.sql_records.specs.Texts.{insert_text}
use Rattle.sql_records.specs.Layout.{IsOurs, ours_and, HasMeta, meta_shown}
use Rattle.sql_records.specs.Rows.{event_column, amount_column, target_column, rest_column, columns_of, stored, shown, IsStorable, entry_of, in_order, AreWhole}
use Rattle.sql_records.specs.Held.{HasMore, IsAdding, IsAtRest, IsSiteIn, MayLeaveIn, LeavesSite, Stores, history_in, opened_in, rows_in}
use Rattle.history_keeper.specs.Keeping.{LeavesWithOrWithout}
use Rattle.sql_records.proofs.MakeLemmas.{was_clean}
use Rattle.sql_records.proofs.EntryBack.{entry_back}
use Rattle.sql_records.proofs.RowLemmas.{put_next, whole_next, entries_next, read_from}
use Rattle.sql_records.proofs.InsertLemmas.{insert_command, insert_is, insert_plain, cast_int, cast_null, Inserted, inserts}

-- what a statement with no RETURNING commits
pub commits_as : (sql : List ℕ) (params : Row) (s : State) (schema : Schema) → s.now.schema ≡ schema → (command : Command)
    → command_of (understood schema sql) ≡ command → IsPlain (understood schema sql)
    → (db : Trees) → CommitsBy sql params s db → MayCommit s None command (statement_of sql (understood schema sql)) params db
unfolding CommitsBy
commits_as sql params s schema has command is plain db h =
    let known = sym h.1.is ∙ ap (λ x. understood x sql) has in
    let bare = subst IsPlain (sym known) plain in
    subst₂ (λ k t. MayCommit s None k t params db) (ap command_of known ∙ is) (ap (statement_of sql) known) (rw (bare.0, bare.1, append-nil params) at h.2)

-- ---- each column keeps its type

amount_fits : (r : Request) → cast Integer (amount_column r) ≡ amount_column r
amount_fits (Announce event) = cast_null
amount_fits (ReleaseSeats event amount) = cast_int amount
amount_fits (Sell event amount) = cast_int amount
amount_fits (Refund sale None) = cast_null
amount_fits (Refund sale (Some part)) = cast_int part
amount_fits (Cede event to amount) = cast_int amount

target_fits : (r : Request) → cast Integer (target_column r) ≡ target_column r
target_fits (Announce event) = cast_null
target_fits (ReleaseSeats event amount) = cast_null
target_fits (Sell event amount) = cast_null
target_fits (Refund sale part) = cast_int sale
target_fits (Cede event to amount) = cast_int to

event_fits : (r : Request) → cast Text (event_column r) ≡ event_column r
event_fits (Announce event) = refl
event_fits (ReleaseSeats event amount) = refl
event_fits (Sell event amount) = refl
event_fits (Refund sale part) = refl
event_fits (Cede event to amount) = refl

rest_fits : (r : Reply) → cast Integer (rest_column r) ≡ rest_column r
rest_fits Done = cast_null
rest_fits Known = cast_null
rest_fits Unknown = cast_null
rest_fits (Short left) = cast_int left
rest_fits CellFull = cast_null
rest_fits NoSale = cast_null
rest_fits Refunded = cast_null
rest_fits (TooMany rest) = cast_int rest
rest_fits ToSelf = cast_null
rest_fits NoSite = cast_null

inserts_entry : (place : ℕ) (entry : Entry) (limit : Option ℕ) (mode : Mode) (schema : Schema) (old : Trees) (after : Database) (text : List ℕ)
    (tally : Tally) (ours : IsOurs schema)
    → Does limit mode (columns_of place entry) (record { schema = schema; trees = old }) text None insert_command (Ok (tally, after))
    → Inserted (stored (columns_of place entry)) (ours_and ours.tables ours.indexes ours.views) (record { schema = schema; trees = old }) after
inserts_entry place (Asked number request reply delta) limit mode schema old after text tally has h =
    inserts place Null (Int (pos number)) _ (event_column request) (amount_column request) (target_column request) _ (rest_column reply) _ cast_null
    (cast_int number) (amount_fits request) (target_fits request) (rest_fits reply)
    refl (event_fits request) refl refl limit mode schema old after text tally has h
inserts_entry place (Joined peer delta) limit mode schema old after text tally has h =
    inserts place (Int (pos peer)) Null Null Null Null Null Null Null _ (cast_int peer) cast_null cast_null cast_null cast_null refl refl refl refl limit
    mode schema old after text tally has h
inserts_entry place (Grown sites) limit mode schema old after text tally has h =
    inserts place Null Null _ Null Null (Int (pos sites)) Null Null _ cast_null cast_null cast_null (cast_int sites) cast_null refl refl refl refl limit
    mode schema old after text tally has h

placed : (place : ℕ) (entry : Entry) → column (stored (columns_of place entry)) 0 ≡ Int (pos place)
placed place (Asked number request reply delta) = refl
placed place (Joined peer delta) = refl
placed place (Grown sites) = refl

shown_stored : (place : ℕ) (entry : Entry) → shown (stored (columns_of place entry)) ≡ columns_of place entry
shown_stored place (Asked number request reply delta) = refl
shown_stored place (Joined peer delta) = refl
shown_stored place (Grown sites) = refl

-- the database after it has the entry at the end of its history
record Appended (place : ℕ) (entry : Entry) (old : Trees) (after : Database) : Type 0 where
  schema : IsOurs after.schema
  whole : AreWhole 0 (rows_in after.trees)
  counted : length (rows_in after.trees) ≡ place + 1
  history : history_in after.trees ≡ history_in old ++ entry ∷ []
  meta : after.trees 0 ≡ old 0

appends : (place : ℕ) (entry : Entry) (limit : Option ℕ) (mode : Mode) (schema : Schema) (old : Trees) (after : Database) (text : List ℕ) (tally : Tally)
    → IsOurs schema → IsStorable entry
    → AreWhole 0 (rows_in old) → length (rows_in old) ≡ place
    → Does limit mode (columns_of place entry) (record { schema = schema; trees = old }) text None insert_command (Ok (tally, after))
    → Appended place entry old after
appends place entry limit mode schema old after text tally has fits whole count h =
    let it = inserts_entry place entry limit mode schema old after text tally has h in
    let new = stored (columns_of place entry) in
    let is = placed place entry in
    let reads = ap entry_of (shown_stored place entry) ∙ entry_back place entry fits in
    let rows : rows_in after.trees ≡ rows_in old ++ shown new ∷ [] = ap (λ t. in_order (map shown t)) it.rows ∙ put_next new (old 1) place whole count is in
    record {
      schema = record { tables = has.tables; indexes = has.indexes; views = has.views; is = it.same; bare = has.bare };
      whole = rw rows (whole_next (rows_in old) (shown new) entry 0 place whole (omega arith) is reads);
      counted = ap length rows ∙ simp length-append (omega arith);
      history = ap (filter_map entry_of) rows ∙ entries_next (rows_in old) (shown new) entry reads;
      meta = it.meta;
    }

module _ (place : ℕ) (entry : Entry) (fits : IsStorable entry) (old new : State) (rest : IsAtRest old place) where
  insert_ok : (count : ℕ) → Executes insert_text (columns_of place entry) old new (Ok count)
      → IsAtRest new (place + 1) × (history_in new.now.trees ≡ history_in old.now.trees ++ entry ∷ []) × (new.now.trees 0 ≡ old.now.trees 0)
  insert_ok count h =
      let ours = rest.schema in
      let all = ours_and ours.tables ours.indexes ours.views in
      let command = insert_is ours.tables ours.indexes ours.views in
      let plain = insert_plain ours.tables ours.indexes ours.views in
      let w = runs_as insert_text (columns_of place entry) old new all ours.is insert_command command plain count h in
      let it = appends place entry old.step_limit (mode_of old) old.now.schema old.now.trees new.now
      (statement_of insert_text (understood all insert_text)) w.tally ours fits rest.whole rest.counted w.changed in (
        record {
          is_open = w.shown.is_open;
          autocommit = w.shown.mode ∙ rest.autocommit;
          settled = rw rest.autocommit at w.shown.committed_is;
          schema = it.schema;
          sound = w.sound;
          whole = it.whole;
          counted = it.counted;
        },
        it.history,
        it.meta,
      )

  never_ends : ((insert_command ≡ Commit)
      ⊎ ((name : List ℕ) × (at : ℕ) × (insert_command ≡ Release name) × IsNewestNamed (names_in old) name at × IsTrue (begins_at old at))) → ⊥
  never_ends (inl is) = cc
  never_ends (inr release) = let is = release.2 in cc

  -- what the INSERT commits
  record Committed (db : Trees) : Type 0 where
    after : Database
    trees : db ≡ after.trees
    adds : Appended place entry old.now.trees after
    sound : IsDatabase after

  commit_adds : (db : Trees) → CommitsBy insert_text (columns_of place entry) old db → Committed db
  commit_adds db h =
      let ours = rest.schema in
      let all = ours_and ours.tables ours.indexes ours.views in
      let command = insert_is ours.tables ours.indexes ours.views in
      let plain = insert_plain ours.tables ours.indexes ours.views in
      elim (commits_as insert_text (columns_of place entry) old all ours.is insert_command command plain db h) [
        | inl ends ↦ absurd (never_ends ends.0)
        | inr writes ↦ record {
          after = writes.2;
          trees = writes.5;
          adds = appends place entry old.step_limit (mode_of old) old.now.schema old.now.trees writes.2
              (statement_of insert_text (understood all insert_text)) writes.1 ours fits rest.whole rest.counted writes.3;
          sound = writes.4;
        }
      ]

module _ (place : ℕ) (entry : Entry) (fits : IsStorable entry) (row : Row) (is : row ≡ columns_of place entry) (old new : State) (rest : HasCleanDisk old
    → IsAtRest old place) (Commits : Trees → Type 0)
    (survives : Survives old new Commits) (commits : (db : Trees) → Commits db → CommitsBy insert_text row old db) where
  pub insert_rests : (r : Result ℕ Error) → (HasCleanDisk new → Executes insert_text row old new r) → HasCleanDisk new → OnOk r (IsAtRest new (place + 1))
  insert_rests (Ok count) runs clean
      = (insert_ok place entry fits old new (rest (was_clean old new _ survives clean)) count
      (subst (λ p. Executes insert_text p old new (Ok count)) is (runs clean))).0
  insert_rests (Err e) runs clean = tt

  pub insert_adds : (r : Result ℕ Error) → (HasCleanDisk new → Executes insert_text row old new r) → HasCleanDisk new
      → OnOk r (history_in new.now.trees ≡ history_in old.now.trees ++ entry ∷ [])
  insert_adds (Ok count) runs clean
      = (insert_ok place entry fits old new (rest (was_clean old new _ survives clean)) count
      (subst (λ p. Executes insert_text p old new (Ok count)) is (runs clean))).1
  insert_adds (Err e) runs clean = tt

  -- `only` is the law of the store: while it is open, a crash leaves the last commit
  module _ (only : (db : Trees) → IsTrue old.is_open → old.may_leave db → db ≡ old.committed.trees) where
    pub insert_leaves : HasCleanDisk new → LeavesWithOrWithout (history_in old.now.trees) entry (MayLeaveIn new)
    insert_leaves clean list left =
        let at_rest = rest (was_clean old new _ survives clean) in
        let db = left.0 in
        elim (survives.crash clean db left.1) [
          | inl before ↦ (
              let same = only db at_rest.is_open before ∙ ap (λ (d : Database). d.trees) at_rest.settled in
              inl (left.2 ∙ ap opened_in same ∙ read_from 0 (rows_in old.now.trees) at_rest.whole))
          | inr commit ↦ (
              let it = commit_adds place entry fits old new at_rest db (subst (λ p. CommitsBy insert_text p old db) is (commits db commit)) in
              inr (left.2 ∙ ap opened_in it.trees ∙ read_from 0 (rows_in it.after.trees) it.adds.whole ∙ ap Some it.adds.history))
        ]

    -- `stays` is the other law: the last commit is one that a crash may leave
    pub insert_site : (IsTrue old.is_open → old.may_leave old.committed.trees) → HasCleanDisk new → (meta : Meta) → LeavesSite old meta → LeavesSite new meta
    insert_site stays clean meta had db left =
        let at_rest = rest (was_clean old new _ survives clean) in
        elim (survives.crash clean db left) [
          | inl before ↦ had db before
          | inr commit ↦ (
              let it = commit_adds place entry fits old new at_rest db (subst (λ p. CommitsBy insert_text p old db) is (commits db commit)) in
              let were = had old.committed.trees (stays at_rest.is_open) in
              let now : HasMeta meta old.now.trees = subst (λ (d : Database). HasMeta meta d.trees) at_rest.settled were.numbers in
              subst (IsSiteIn meta) (sym it.trees)
              (record {
                schema = it.after.schema;
                ours = it.adds.schema;
                sound = it.sound;
                numbers = ap (map meta_shown) it.adds.meta
                    ∙ now;
                within = were.within;
              }))
        ]

  pub insert_more : (count : ℕ) → (HasCleanDisk new → Executes insert_text row old new (Ok count)) → HasCleanDisk new → HasMore old new place (entry ∷ [])
  insert_more count runs clean = record { rest = insert_rests (Ok count) runs clean; added = insert_adds (Ok count) runs clean }

  -- a call whose result is that of the INSERT
  pub insert_stores : {T : Type 0} → ((db : Trees) → IsTrue old.is_open → old.may_leave db → db ≡ old.committed.trees)
      → (IsTrue old.is_open → old.may_leave old.committed.trees)
      → (result : Result T Error) → (HasCleanDisk new → OnOk result (HasMore old new place (entry ∷ []))) → HasCleanDisk new
      → Stores old new place (entry ∷ []) result
  insert_stores only stays result more clean = record {
    clean = was_clean old new _ survives clean;
    more = more clean;
    crash = insert_leaves only clean;
    site = insert_site only stays clean;
  }

-- the same INSERT in a transaction, which shows one entry more and commits nothing
module _ (place : ℕ) (entry : Entry) (fits : IsStorable entry) (row : Row) (is : row ≡ columns_of place entry) (old new : State) where
  pub insert_inside : (count : ℕ) → ExecutesInside 0 insert_text row old new (Ok count) → (begun : Database) (added : List Entry)
      → IsAdding begun old place added → IsAdding begun new (place + 1) (added ++ entry ∷ [])
  insert_inside count h begun added rest =
      let ours = rest.schema in
      let all = ours_and ours.tables ours.indexes ours.views in
      let command = insert_is ours.tables ours.indexes ours.views in
      let plain = insert_plain ours.tables ours.indexes ours.views in
      let w = runs_as insert_text (columns_of place entry) old new all ours.is insert_command command plain count
      (subst (λ p. Executes insert_text p old new (Ok count)) is h.0) in
      let it = appends place entry old.step_limit (mode_of old) old.now.schema old.now.trees new.now
      (statement_of insert_text (understood all insert_text)) w.tally ours fits rest.whole rest.counted w.changed in
      record {
        is_open = h.1.is_open;
        inside = h.1.mode;
        schema = it.schema;
        sound = w.sound;
        whole = it.whole;
        counted = it.counted;
        history = it.history ∙ ap (λ xs. xs ++ entry ∷ []) rest.history ∙ append_assoc (history_in begun.trees) added (entry ∷ []);
        meta = it.meta ∙ rest.meta;
      }
