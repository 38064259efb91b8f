-- Rows that are read one after the other, and the entries that are made of them.
use Rattle.std.proofs.Common.{◌≡◌, inl, inr, ℕ, ◌+◌, ◌<◌, ◌≤◌, pos, false, List, [], ◌∷◌, ◌++◌, length, take, drop, get_or, Some, None, Result, Ok, Err, OnOk, IfOk, IfErr, IsErrAnd, refl, sym, ap, subst, ◌∙◌, arith, length-append, append_assoc, cond}
use Rattle.std.proofs.Math.Seq.{take-append_seam, get_or-append_seam}
use Rattle.std.specs.Prelude.{◌==◌, ◌&&◌}
use Rattle.std.specs.List.{filter_map}
use Rattle.sqlite_keyed.proofs.ListLemmas.{all-append}
use Rattle.sqlite.specs.Order.{Row, column}
use Rattle.sqlite.specs.declared.types.Value.TheVariants.{Int}
use Rattle.sqlite.specs.declared.error.Error.{Error}
use Rattle.sqlite.specs.Tree.{Trees}
use Rattle.sqlite.specs.Effect.{Database}
use Rattle.sqlite.specs.Store.{Ghosts}
use Rattle.sqlite.specs.Held.{Held, state}
use Rattle.sqlite.specs.State.{State, HasCleanDisk, Survives, CommitsShowing, FailsToQuery, IsUnchanged}
use Rattle.sqlite.specs.Given.{HasGiven, HasBegun, GivesOn}
use Rattle.sqlite.proofs.StateLemmas.{survives_then, unchanged}
use Rattle.sqlite.proofs.Callers.{given_begin}
use Rattle.book_core.specs.declared.entry.Entry.{Entry}
use Rattle.sql_records.specs.Texts.{select_text}
use Rattle.sql_records.specs.Layout.{IsOurs, HasGoodMeta}
use Rattle.sql_records.specs.declared.version.Version.{Version}
use Rattle.sql_records.specs.declared.fault.OpenFault.{OpenFault}
use Rattle.sql_records.specs.declared.fault.OpenFault.TheVariants.{NotOurs, OtherSchema, Damaged, Memory, Disk}
use Rattle.sql_records.specs.Rows.{entry_of, is_below, rows_below, rows_from_0, AreInOrder, AreWhole, AreWholeIn, IsOfVersion}
use Rattle.sql_records.specs.Faults.{told}
use Rattle.sql_records.specs.Opening.{AreReadFrom, IsHistoryFault, IsLeftOrUndone, IsOurFault, IsStoreFault, Reads}
use Rattle.sql_records.proofs.RowLemmas.{whole_next, entries_next}
use Rattle.sql_records.proofs.QueryLemmas.{begun_rows, entries_left, select_fails, select_undone, select_wants, shown_rows, whole_answer}
use Rattle.sql_records.proofs.FaultLemmas.{told_fault}
use Rattle.sql_records.proofs.UndoneLemmas.{left_after, left_or_undone, of_err, on_err}
use Rattle.sql_records.proofs.OpeningLemmas.{StopsReading, cause_before, damaged_above, entries_fault, memory_before, on_ok, read_history, read_whole, rows_fault, unchanged_twice}

-- the first row does not stand in front of the place 0
pub not_in_front : (place : ℕ) (row : Row) → (place == 0 && is_below (column row 0)) ≡ false → place ≡ 0 → is_below (column row 0) ≡ false
not_in_front place row h first = subst (λ n. (n == 0 && is_below (column row 0)) ≡ false) first h

-- ---- one row more

-- the rows so far begin the answer, and each is the entry of its place
pub record HasTurned {S : Type 0} (g : Ghosts S) (read : Version) (old now : Held S) (place : ℕ) (entries : List Entry) : Type 0 where
  pub rows : List Row
  pub given : HasGiven g select_text [] now rows
  pub same : IsUnchanged (state g old) (state g now)
  pub whole : AreWholeIn read 0 rows
  pub items : entries ≡ filter_map entry_of rows
  pub count : length rows ≡ place

module _ {S : Type 0} (g : Ghosts S) (read : Version) (old : Held S) where
  pub turn_begins : (now : Held S) → IsOurs (state g old).now.schema → HasBegun g select_text [] old now → HasTurned g read old now 0 []
  turn_begins now ours h =
      let begun = begun_rows g old now ours h in
      record { rows = []; given = begun.0; same = begun.1; whole = (tt, tt); items = refl; count = refl }

  module _ (mid now : Held S) (place : ℕ) (entries : List Entry) (turned : HasTurned g read old mid place entries)
      (still : IsUnchanged (state g mid) (state g now)) where
    turn_same : IsUnchanged (state g old) (state g now)
    turn_same = unchanged_twice (state g old) (state g mid) (state g now) turned.same still

    pub turn_more : (row : Row) (entry : Entry) → GivesOn g select_text [] mid now turned.rows (Some row) → column row 0 ≡ Int (pos place)
        → entry_of row ≡ Some entry → IsOfVersion read row
        → HasTurned g read old now (place + 1) (entries ++ entry ∷ [])
    turn_more row entry given placed reads version = record {
      rows = turned.rows ++ row ∷ [];
      given = given;
      same = turn_same;
      whole = (
        whole_next turned.rows row entry 0 place turned.whole.0 (omega (arith, turned.count)) placed reads,
        all-append (IsOfVersion read) turned.rows (row ∷ []) turned.whole.1 (version, tt),
      );
      items = ap (λ l. l ++ entry ∷ []) turned.items ∙ sym (entries_next turned.rows row entry reads);
      count = omega (arith, length-append turned.rows (row ∷ []), turned.count);
    }

    -- behind the last row
    pub turn_ends : IsOurs (state g old).now.schema → GivesOn g select_text [] mid now turned.rows None → AreReadFrom read (state g old).now.trees entries
    turn_ends ours given =
        let schema : IsOurs (state g mid).now.schema = subst (λ (d : Database). IsOurs d.schema) (sym turned.same.0.now_is) ours in
        let order = shown_rows (state g mid) (state g now) turned.rows schema given in (
          read_whole read (state g old) (state g mid) (state g now) turned.rows turned.same still order turned.whole,
          turned.items ∙ read_history read (state g old) (state g mid) (state g now) turned.rows turned.same still order turned.whole,
        )

    -- ---- a row that is no entry

    none_below : (row : Row) (tail : List Row) → (place ≡ 0 → is_below (column row 0) ≡ false) → (rows : List Row) → AreWhole 0 rows
        → length rows ≡ place → rows_below (rows ++ row ∷ tail) ≡ 0
    none_below row tail first [] whole count = ap (λ b. cond b (1 + rows_below tail) 0) (first (sym count))
    none_below row tail first (r ∷ rows) whole count = ap (λ v. cond (is_below v) (1 + rows_below (rows ++ row ∷ tail)) 0) whole.0.placed

    pub turn_fails : (row : Row) (fault : OpenFault) → IsOurs (state g old).now.schema → GivesOn g select_text [] mid now turned.rows (Some row)
        → (place ≡ 0 → is_below (column row 0) ≡ false)
        → ((rows : List Row) → place < length rows → row ≡ get_or rows place row → AreWholeIn read 0 (take place rows)
        → StopsReading read rows fault)
        → IsHistoryFault read (state g old) (state g now) fault
    turn_fails row fault ours given first stops =
        let schema : IsOurs (state g now).now.schema = subst (λ (d : Database). IsOurs d.schema) (sym turn_same.0.now_is) ours in
        let all = whole_answer (state g now) _ schema turn_same.0.is_open (given_begin g select_text [] now _ given) in
        let rows = turned.rows ++ row ∷ all.0 in
        let joined : (turned.rows ++ row ∷ []) ++ all.0 ≡ rows = append_assoc turned.rows (row ∷ []) all.0 in
        let order : AreInOrder ((state g old).now.trees 1) rows = subst (AreInOrder ((state g old).now.trees 1)) joined
        (subst (λ (d : Database). AreInOrder (d.trees 1) ((turned.rows ++ row ∷ []) ++ all.0)) turn_same.0.now_is all.1) in
        let front : take place rows ≡ turned.rows = subst (λ n. take n rows ≡ turned.rows) turned.count (take-append_seam turned.rows (row ∷ all.0)) in
        let here : row ≡ get_or rows place row = sym (subst (λ n. get_or rows n row ≡ row) turned.count (get_or-append_seam turned.rows row all.0 row)) in
        let low : place < length rows = omega (arith, length-append turned.rows (row ∷ all.0), turned.count) in
        let none : rows_from_0 rows ≡ rows = ap (λ k. drop k rows) (none_below row all.0 first turned.rows turned.whole.0 turned.count) in
        let stop : StopsReading read (rows_from_0 rows) fault = subst (λ l. StopsReading read l fault) (sym none)
        (stops rows low here (subst (AreWholeIn read 0) (sym front) turned.whole)) in
        inr (turn_same, (rows, order, damaged_above read rows fault stop))

-- ---- what is at fault in a later query is at fault from the first on

pub store_before : (first mid last : State) → IsUnchanged first mid → first.faults ≤ mid.faults → mid.step_limit ≡ first.step_limit
    → (fault : OpenFault) → IsStoreFault mid last fault → IsStoreFault first last fault
store_before first mid last same low limit NotOurs h = h
store_before first mid last same low limit (OtherSchema version) h = h
store_before first mid last same low limit (Damaged place) h = h
store_before first mid last same low limit Memory h = memory_before first mid last same h
store_before first mid last same low limit Disk h = cause_before first mid last same low limit h

pub history_before : (read : Version) (first mid last : State) → IsUnchanged first mid → first.faults ≤ mid.faults
    → mid.step_limit ≡ first.step_limit → (fault : OpenFault) → IsHistoryFault read mid last fault
    → IsHistoryFault read first last fault
history_before read first mid last same low limit fault (inl h) = inl (store_before first mid last same low limit fault h)
history_before read first mid last same low limit fault (inr h) =
    inr (unchanged_twice first mid last same h.0, (h.1.0, subst (λ (d : Database). AreInOrder (d.trees 1) h.1.0) same.0.now_is h.1.1, h.1.2))

-- behind the numbers, which are good
pub history_fault : (read : Version) (first mid last : State) → IsUnchanged first mid → first.faults ≤ mid.faults → mid.step_limit ≡ first.step_limit
    → HasGoodMeta read first.now.trees → (fault : OpenFault)
    → IsHistoryFault read mid last fault → IsOurFault read first last fault
history_fault read first mid last same low limit good fault (inl h) = rows_fault read first mid last same low limit fault h
history_fault read first mid last same low limit good fault (inr h) = entries_fault read first mid last h.1.0 same h.0 good h.1.1 fault h.1.2

-- what was read of an unchanged database
pub read_before : (read : Version) (first mid : State) (entries : List Entry) → IsUnchanged first mid → AreReadFrom read mid.now.trees entries
    → AreReadFrom read first.now.trees entries
read_before read first mid entries same h = subst (λ (d : Database). AreReadFrom read d.trees entries) same.0.now_is h

-- ---- a query that fails, and what a call leaves

pub query_fault : (old new : State) (e : Error) → IsOurs old.now.schema → FailsToQuery select_text [] old new e → IsStoreFault old new (told Memory Disk e)
query_fault old new e ours h = told_fault (IsStoreFault old new) Memory Disk old new e (select_wants old new e ours h) (λ c. c) (select_fails old new e ours h)

module _ {S : Type 0} (g : Ghosts S) (old mid now : Held S) (ours : IsOurs (state g old).now.schema) (same : IsUnchanged (state g old) (state g mid))
    (e : Error) (fails : FailsToQuery select_text [] (state g mid) (state g now) e) where
  schema : IsOurs (state g mid).now.schema
  schema = subst (λ (d : Database). IsOurs d.schema) (sym same.0.now_is) ours

  pub turn_stops : (read : Version) (P : Trees → Type 0) → Survives (state g old) (state g mid) P → IsHistoryFault read (state g old) (state g now)
      (told Memory Disk e)
  turn_stops read P survives = inl (store_before (state g old) (state g mid) (state g now) same survives.counts survives.limit _
      (query_fault (state g mid) (state g now) e schema fails))

  pub turn_undone : IsLeftOrUndone (state g old) (state g now)
  turn_undone = left_after (state g old) (state g mid) (state g now) same (select_undone (state g mid) (state g now) e schema fails)

pub survives_on : (old mid now : State) (P : Trees → Type 0) → Survives old mid P → Survives mid now (λ _. ⊥) → Survives old now P
survives_on old mid now P = survives_then old mid now P (λ _. ⊥) P (λ _ db h. h) (λ _ db h. absurd h)

module _ {S T F : Type 0} (g : Ghosts S) (old now : Held S) (r : Result T F) (ours : HasCleanDisk (state g old) → IsOurs (state g old).now.schema)
    (survives : Survives (state g old) (state g now) (CommitsShowing select_text [] (state g old))) where
  was_clean : HasCleanDisk (state g now) → HasCleanDisk (state g old)
  was_clean h = omega (arith, h, survives.clean)

  -- nothing changed
  pub turn_reads : (HasCleanDisk (state g now) → IsUnchanged (state g old) (state g now)) → Reads g old now r
  turn_reads same = record {
    limit = survives.limit;
    clean = was_clean;
    left = λ h. entries_left (state g old) (state g now) (ours (was_clean h)) survives h;
    same = λ h. on_ok r _ (same h);
    undone = λ h. on_err r _ (left_or_undone (state g old) (state g now) (inl (same h)));
  }

  -- a query failed
  pub turn_reads_none : (Q : F → Type 0) → IsErrAnd r Q → (HasCleanDisk (state g now) → IsLeftOrUndone (state g old) (state g now)) → Reads g old now r
  turn_reads_none Q is undone = record {
    limit = survives.limit;
    clean = was_clean;
    left = λ h. entries_left (state g old) (state g now) (ours (was_clean h)) survives h;
    same = λ h. of_err r _ Q is;
    undone = λ h. on_err r _ (undone h);
  }

-- ---- rows that are read at once

pub at_once : (read : Version) (old new : State) (rows : List Row) (entries : List Entry) → IsUnchanged old new → AreInOrder (old.now.trees 1) rows
    → AreWholeIn read 0 rows → entries ≡ filter_map entry_of rows
    → AreReadFrom read old.now.trees entries
at_once read old new rows entries same order whole items =
    let still = unchanged old same.0.was_open in
    (read_whole read old old new rows still same order whole, items ∙ read_history read old old new rows still same order whole)

pub if_both : {T E : Type 0} (r : Result T E) (A : Type 0) (P Q : T → Type 0) → OnOk r A → IfOk r P → ((x : T) → A → P x → Q x) → IfOk r Q
if_both (Ok x) A P Q a p h = h x a p
if_both (Err e) A P Q a p h = tt

pub err_as : {T E : Type 0} (r : Result T E) (P Q : E → Type 0) → IfErr r P → ((e : E) → P e → Q e) → IfErr r Q
err_as (Ok x) P Q p h = tt
err_as (Err e) P Q p h = h e p

pub ok_as : {T E : Type 0} (r : Result T E) (P Q : T → Type 0) → IfOk r P → ((x : T) → P x → Q x) → IfOk r Q
ok_as (Ok x) P Q p h = h x p
ok_as (Err e) P Q p h = tt
