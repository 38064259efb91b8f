-- What the queries for one number and for one event show.
use Rattle.std.proofs.Common.{◌≡◌, inl, inr, ℕ, ◌+◌, ◌<◌, pos, negsuc, Bool, true, false, cond, ◌&&◌, None, refl, ap, subst, ◌∙◌, arith, List, [], ◌∷◌, ◌++◌, map, filter, flat_map, codes, IsPermutation, IsSorted, Ordering, Less}
use Rattle.std.specs.Cmp.{IsTotalOrder}
use Rattle.std.specs.List.{AllByRecursion}
use Rattle.std.proofs.lemmas.Cmp.{on_total}
use Rattle.std.proofs.lemmas.List.Sorted.{IsPermutation-map, IsPermutation-trans}
use Rattle.sqlite_trees.specs.Tree.{IsAscending}
use Rattle.sqlite_keyed.proofs.ListLemmas.{IsPermutation-filter}
use Rattle.sqlite_keyed.proofs.SortLemmas.{IsPermutation-sort_by, sorted_unique}
use Rattle.sqlite_sql.proofs.QueryLemmas.{key_cmp_total}
use Rattle.sqlite.specs.Collation.TheVariants.{Binary}
use Rattle.sqlite.specs.Listing.{understood, reads_listing}
use Rattle.sqlite.specs.Command.TheVariants.{Select}
use Rattle.sqlite.proofs.Callers.{IsPlain, command_of, reads_as}
use Rattle.sqlite.specs.Query.{Query, inner, end, IsAnswer, output, output_cmp, Output}
use Rattle.sqlite.specs.Program.{overlay}
use Rattle.sqlite.specs.Term.{lit, col, op2}
use Rattle.sqlite_sql.specs.declared.ops.BinaryOp.TheVariants.{Compare}
use Rattle.sqlite_sql.specs.declared.ops.CompareOp.TheVariants.{Eq}
use Rattle.sqlite_tied.specs.Compute.{everything}
use Rattle.sqlite.specs.Tree.{Trees}
use Rattle.sqlite.specs.State.{State, HasCleanDisk, Survives, CommitsShowing, Shown, FailsToQuery, IsUnchanged}
use Rattle.sqlite.specs.Order.{Row, column, value_cmp}
use Rattle.sqlite.specs.declared.types.Value.TheVariants.{Null, Int, Text as Words}
use Rattle.sqlite.specs.Table.{Table}
use Rattle.sqlite_schema.specs.declared.schema.Index.{Index}
use Rattle.sqlite_schema.specs.declared.schema.View.{View}
use Rattle.sql_records.specs.Texts.{find_text, list_text}
use Rattle.sql_records.specs.Layout.{IsOurs, ours_and}
use Rattle.sql_records.specs.Rows.{by_place, in_order, shown, AreWhole}
use Rattle.sql_records.specs.Held.{LeavesNoMore, rows_in}
use Rattle.sql_records.specs.Lookups.{found_columns, has_number, listed_columns, has_event}
use Rattle.sqlite.specs.declared.error.Error.{Error}
use Rattle.sql_records.proofs.FaultLemmas.{Caused, IsRun, never_folded, query_cause, query_undone, query_wants}
use Rattle.sqlite.specs.declared.error.Error.TheVariants.{SqliteFailure}
use Rattle.sqlite.specs.declared.error.ErrorCode.TheVariants as code
use Rattle.rights_lattice.specs.CellOrder.{then_Equal}
use Rattle.sql_records.specs.Faults.{IsUndoneForMemory}
use Rattle.sql_records.specs.Opening.{IsLeftOrUndone}
use Rattle.sql_records.proofs.UndoneLemmas.{left_or_undone}
use Rattle.sql_records.proofs.RowLemmas.{lower_id, by_place_total}
use Rattle.sql_records.proofs.QueryLemmas.{unchanged_as, leaves_as}

abbrev keyed : (Row → Row) → Row → Output
keyed show r = (column r 0 ∷ [], show r)

-- some of the rows, in the order of their places
module _ (cmp : Output → Output → Ordering) (total : IsTotalOrder cmp) (show : Row → Row) (agrees : (a b : Row)
    → cmp (keyed show a) (keyed show b) ≡ by_place a b) (keep : Row → Bool) where
  later : (r : Row) (m from : ℕ) (rows : List Row) → column r 0 ≡ Int (pos m) → m < from → AreWhole from rows
      → AllByRecursion (λ b. cmp (keyed show r) b ≡ Less) (map (keyed show) (filter keep rows))
  later r m from [] is low h = tt
  later r m from (x ∷ rows) is low h =
      let more = later r m (from + 1) rows is (omega arith) h.1 in
      let here : cmp (keyed show r) (keyed show x) ≡ Less = agrees r x ∙ rw (is, h.0.placed) (lower_id m from low) in
      elim (keep x) as (λ b. AllByRecursion (λ b. cmp (keyed show r) b ≡ Less) (map (keyed show) (cond b (x ∷ filter keep rows) (filter keep rows))))
      [ true ↦ (here, more) | false ↦ more ]

  strict : (from : ℕ) (rows : List Row) → AreWhole from rows → IsAscending (λ a b. cmp a b ≡ Less) (map (keyed show) (filter keep rows))
  strict from [] h = tt
  strict from (x ∷ rows) h =
      let more = strict (from + 1) rows h.1 in
      let all = later x from (from + 1) rows h.0.placed (omega arith) h.1 in
      elim (keep x) as (λ b. IsAscending (λ a b. cmp a b ≡ Less) (map (keyed show) (cond b (x ∷ filter keep rows) (filter keep rows))))
      [ true ↦ (all, more) | false ↦ more ]

  pub in_places : (rows : List Row) (ordered : List Output) → AreWhole 0 (in_order rows) → IsPermutation (map (keyed show) (filter keep rows)) ordered
      → IsSorted cmp ordered
      → ordered ≡ map (keyed show) (filter keep (in_order rows))
  in_places rows ordered whole same sorted =
      let moved = IsPermutation-map (keyed show) (filter keep (in_order rows)) (filter keep rows)
      (IsPermutation-filter keep (in_order rows) rows (IsPermutation-sort_by _ by_place_total rows)) in
      sorted_unique cmp total (map (keyed show) (filter keep (in_order rows))) ordered (strict 0 (in_order rows) whole)
      (IsPermutation-trans _ _ _ moved same) sorted

shown_keyed : (show : Row → Row) (rows : List Row) → map (λ (o : Output). o.1) (map (keyed show) rows) ≡ map show rows
shown_keyed show [] = refl
shown_keyed show (r ∷ rows) = ap (λ l. show r ∷ l) (shown_keyed show rows)

-- ---- the query for a number

abbrev find_query : Query
find_query = record {
  from = inner 1 end;
  filter = op2 (Compare Eq Binary) (col 1 3) (col 0 0) ∷ [];
  group = None;
  project = col 1 0 ∷ col 1 8 ∷ col 1 9 ∷ [];
  distinct = false;
  collations = [];
  order = (col 1 0, record { collation = Binary; descending = false }) ∷ [];
  limit = lit (Int (negsuc 0));
  offset = lit (Int (pos 0));
}

find_is : (more : List Table) (indexes : List Index) (views : List View)
    → (command_of (understood (ours_and more indexes views) find_text) ≡ Select (record { lets = []; body = find_query })
    (codes "pos" ∷ codes "reply" ∷ codes "rest" ∷ [])) × (reads_listing (ours_and more indexes views) find_text ≡ false)
unfolding understood everything
find_is more indexes views = (refl, refl)

find_plain : (more : List Table) (indexes : List Index) (views : List View) → IsPlain (understood (ours_and more indexes views) find_text)
unfolding understood everything
find_plain more indexes views = (refl, refl)

abbrev number_params : ℕ → Row
number_params n = Int (pos n) ∷ []

find_total : IsTotalOrder (output_cmp find_query)
find_total = on_total (λ (o : Output). o.0) (key_cmp_total (map (λ k. k.1) find_query.order) 0)

find_staged : (n : ℕ) (table : List Row)
    → map (output find_query) (flat_map (λ r. cond (has_number n (shown r) && true) ((number_params n ∷ r ∷ []) ∷ []) []) table) ≡ map
    (keyed found_columns) (filter (has_number n) (map shown table))
find_staged n [] = refl
find_staged n (r ∷ table) =
    elim (has_number n (shown r)) as
    (λ b. map (output find_query) (cond (b && true) ((number_params n ∷ r ∷ []) ∷ []) [] ++ flat_map
    (λ r. cond (has_number n (shown r) && true) ((number_params n ∷ r ∷ []) ∷ []) []) table)
    ≡ map (keyed found_columns) (cond b (shown r ∷ filter (has_number n) (map shown table)) (filter (has_number n) (map shown table)))) [
      | true ↦ ap (λ l. keyed found_columns (shown r) ∷ l) (find_staged n table)
      | false ↦ find_staged n table
    ]

find_answers : (db : Trees) (n : ℕ) (rows : List Row) → AreWhole 0 (rows_in db) → IsAnswer find_query (overlay db []) (number_params n) rows
    → rows ≡ map found_columns (filter (has_number n) (rows_in db))
find_answers db n rows whole a =
    let table = map shown (db 1) in
    let kept : a.kept ≡ map (keyed found_columns) (filter (has_number n) table) = a.distinct ∙ ap (map (output find_query)) a.grouped ∙ find_staged n (db 1) in
    let same : IsPermutation (map (keyed found_columns) (filter (has_number n) table)) a.ordered = subst (λ k. IsPermutation k a.ordered) kept a.same in
    let is = in_places (output_cmp find_query) find_total found_columns (λ x y. then_Equal (value_cmp (column x 0) (column y 0))) (has_number n) table
    a.ordered whole same a.sorted in
    a.shown ∙ ap (map (λ (o : Output). o.1)) is ∙ shown_keyed found_columns (filter (has_number n) (in_order table))

pub find_shows : (old new : State) (n : ℕ) (rows : List Row) → IsOurs old.now.schema → AreWhole 0 (rows_in old.now.trees)
    → Shown find_text (number_params n) old new rows → rows ≡ map found_columns (filter (has_number n) (rows_in old.now.trees))
find_shows old new n rows has whole h =
    find_answers old.now.trees n rows whole
    ((reads_as find_text (number_params n) old new (ours_and has.tables has.indexes has.views) has.is _ (find_is has.tables has.indexes has.views).0
    (find_plain has.tables has.indexes has.views) (find_is has.tables has.indexes has.views).1 rows h).answer Null)

pub find_same : (old new : State) (n : ℕ) (rows : List Row) → IsOurs old.now.schema → Shown find_text (number_params n) old new rows → IsUnchanged old new
find_same old new n rows has h = unchanged_as find_text (number_params n) old new (ours_and has.tables has.indexes has.views) has.is
    (find_plain has.tables has.indexes has.views) rows h

pub find_left : (old new : State) (params : Row) → IsOurs old.now.schema → Survives old new (CommitsShowing find_text params old) → HasCleanDisk new
    → LeavesNoMore old new
find_left old new params has survives clean = leaves_as find_text params old new (ours_and has.tables has.indexes has.views) has.is
    (find_plain has.tables has.indexes has.views) survives clean

-- ---- the query for an event

abbrev list_query : Query
list_query = record {
  from = inner 1 end;
  filter = op2 (Compare Eq Binary) (col 1 5) (col 0 0) ∷ [];
  group = None;
  project = col 1 0 ∷ col 1 3 ∷ col 1 4 ∷ col 1 5 ∷ col 1 6 ∷ col 1 7 ∷ col 1 8 ∷ col 1 9 ∷ [];
  distinct = false;
  collations = [];
  order = (col 1 0, record { collation = Binary; descending = false }) ∷ [];
  limit = lit (Int (negsuc 0));
  offset = lit (Int (pos 0));
}

abbrev list_names : List (List ℕ)
list_names = codes "pos" ∷ codes "number" ∷ codes "verb" ∷ codes "event" ∷ codes "amount" ∷ codes "target" ∷ codes "reply" ∷ codes "rest" ∷ []

list_is : (more : List Table) (indexes : List Index) (views : List View)
    → (command_of (understood (ours_and more indexes views) list_text) ≡ Select (record { lets = []; body = list_query }) list_names)
    × (reads_listing (ours_and more indexes views) list_text ≡ false)
unfolding understood everything
list_is more indexes views = (refl, refl)

list_plain : (more : List Table) (indexes : List Index) (views : List View) → IsPlain (understood (ours_and more indexes views) list_text)
unfolding understood everything
list_plain more indexes views = (refl, refl)

abbrev event_params : List ℕ → Row
event_params name = Words name ∷ []

list_total : IsTotalOrder (output_cmp list_query)
list_total = on_total (λ (o : Output). o.0) (key_cmp_total (map (λ k. k.1) list_query.order) 0)

list_staged : (name : List ℕ) (table : List Row)
    → map (output list_query) (flat_map (λ r. cond (has_event name (shown r) && true) ((event_params name ∷ r ∷ []) ∷ []) []) table) ≡ map
    (keyed listed_columns) (filter (has_event name) (map shown table))
list_staged name [] = refl
list_staged name (r ∷ table) =
    elim (has_event name (shown r)) as
    (λ b. map (output list_query) (cond (b && true) ((event_params name ∷ r ∷ []) ∷ []) [] ++ flat_map
    (λ r. cond (has_event name (shown r) && true) ((event_params name ∷ r ∷ []) ∷ []) []) table)
    ≡ map (keyed listed_columns) (cond b (shown r ∷ filter (has_event name) (map shown table)) (filter (has_event name) (map shown table)))) [
      | true ↦ ap (λ l. keyed listed_columns (shown r) ∷ l) (list_staged name table)
      | false ↦ list_staged name table
    ]

list_answers : (db : Trees) (name : List ℕ) (rows : List Row) → AreWhole 0 (rows_in db) → IsAnswer list_query (overlay db []) (event_params name) rows
    → rows ≡ map listed_columns (filter (has_event name) (rows_in db))
list_answers db name rows whole a =
    let table = map shown (db 1) in
    let kept : a.kept ≡ map (keyed listed_columns) (filter (has_event name) table) = a.distinct ∙ ap (map (output list_query)) a.grouped
    ∙ list_staged name (db 1) in
    let same : IsPermutation (map (keyed listed_columns) (filter (has_event name) table)) a.ordered = subst (λ k. IsPermutation k a.ordered) kept a.same in
    let is = in_places (output_cmp list_query) list_total listed_columns (λ x y. then_Equal (value_cmp (column x 0) (column y 0))) (has_event name) table
    a.ordered whole same a.sorted in
    a.shown ∙ ap (map (λ (o : Output). o.1)) is ∙ shown_keyed listed_columns (filter (has_event name) (in_order table))

pub list_shows : (old new : State) (name : List ℕ) (rows : List Row) → IsOurs old.now.schema → AreWhole 0 (rows_in old.now.trees)
    → Shown list_text (event_params name) old new rows → rows ≡ map listed_columns (filter (has_event name) (rows_in old.now.trees))
list_shows old new name rows has whole h =
    list_answers old.now.trees name rows whole
    ((reads_as list_text (event_params name) old new (ours_and has.tables has.indexes has.views) has.is _ (list_is has.tables has.indexes has.views).0
    (list_plain has.tables has.indexes has.views) (list_is has.tables has.indexes has.views).1 rows h).answer Null)

pub list_same : (old new : State) (name : List ℕ) (rows : List Row) → IsOurs old.now.schema → Shown list_text (event_params name) old new rows
    → IsUnchanged old new
list_same old new name rows has h = unchanged_as list_text (event_params name) old new (ours_and has.tables has.indexes has.views) has.is
    (list_plain has.tables has.indexes has.views) rows h

pub list_left : (old new : State) (params : Row) → IsOurs old.now.schema → Survives old new (CommitsShowing list_text params old) → HasCleanDisk new
    → LeavesNoMore old new
list_left old new params has survives clean = leaves_as list_text params old new (ours_and has.tables has.indexes has.views) has.is
    (list_plain has.tables has.indexes has.views) survives clean

find_runs : (more : List Table) (indexes : List Index) (views : List View) (n : ℕ) → IsRun (ours_and more indexes views) find_text (number_params n)
unfolding understood everything
find_runs more indexes views n = record {
  program = record { lets = []; body = find_query };
  names = codes "pos" ∷ codes "reply" ∷ codes "rest" ∷ [];
  is = refl;
  plain = (refl, refl);
  whole = refl;
  given = refl;
  unlisted = refl;
  typed = refl;
  small = λ db over. elim over [ inl grouped ↦ grouped | inr folded ↦ never_folded (db 1) folded ];
}

pub find_fails : (old new : State) (n : ℕ) (e : Error) → IsOurs old.now.schema → FailsToQuery find_text (number_params n) old new e → Caused old new e
find_fails old new n e ours h = query_cause find_text (number_params n) old new (ours_and ours.tables ours.indexes ours.views) ours.is
    (find_runs ours.tables ours.indexes ours.views n) e h

list_runs : (more : List Table) (indexes : List Index) (views : List View) (name : List ℕ) → IsRun (ours_and more indexes views) list_text (event_params name)
unfolding understood everything
list_runs more indexes views name = record {
  program = record { lets = []; body = list_query };
  names = list_names;
  is = refl;
  plain = (refl, refl);
  whole = refl;
  given = refl;
  unlisted = refl;
  typed = refl;
  small = λ db over. elim over [ inl grouped ↦ grouped | inr folded ↦ never_folded (db 1) folded ];
}

pub list_fails : (old new : State) (name : List ℕ) (e : Error) → IsOurs old.now.schema → FailsToQuery list_text (event_params name) old new e → Caused old new e
list_fails old new name e ours h = query_cause list_text (event_params name) old new (ours_and ours.tables ours.indexes ours.views) ours.is
    (list_runs ours.tables ours.indexes ours.views name) e h

pub find_wants : (old new : State) (n : ℕ) (e : Error) → IsOurs old.now.schema → FailsToQuery find_text (number_params n) old new e
    → e ≡ SqliteFailure code.OutOfMemory → IsUndoneForMemory old new
find_wants old new n e ours h = query_wants find_text (number_params n) old new (ours_and ours.tables ours.indexes ours.views) ours.is
    (find_runs ours.tables ours.indexes ours.views n) e h

pub find_undone : (old new : State) (n : ℕ) (e : Error) → IsOurs old.now.schema → FailsToQuery find_text (number_params n) old new e → IsLeftOrUndone old new
find_undone old new n e ours h = left_or_undone old new
    (query_undone find_text (number_params n) old new (ours_and ours.tables ours.indexes ours.views) ours.is
    (find_runs ours.tables ours.indexes ours.views n) e h)

pub list_wants : (old new : State) (name : List ℕ) (e : Error) → IsOurs old.now.schema → FailsToQuery list_text (event_params name) old new e
    → e ≡ SqliteFailure code.OutOfMemory → IsUndoneForMemory old new
list_wants old new name e ours h = query_wants list_text (event_params name) old new (ours_and ours.tables ours.indexes ours.views) ours.is
    (list_runs ours.tables ours.indexes ours.views name) e h

pub list_undone : (old new : State) (name : List ℕ) (e : Error) → IsOurs old.now.schema → FailsToQuery list_text (event_params name) old new e
    → IsLeftOrUndone old new
list_undone old new name e ours h = left_or_undone old new
    (query_undone list_text (event_params name) old new (ours_and ours.tables ours.indexes ours.views) ours.is
    (list_runs ours.tables ours.indexes ours.views name) e h)
