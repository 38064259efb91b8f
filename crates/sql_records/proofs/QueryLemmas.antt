-- What the queries for all entries and for the numbers show.
use Rattle.std.proofs.Common.{◌≡◌, inl, inr, ℕ, zero, suc, ◌+◌, ◌<◌, pos, negsuc, false, None, refl, ap, sym, subst, ◌∙◌, List, [], ◌∷◌, map, flat_map, length, get_or, codes, arith, IsPermutation, IsSorted, Ordering, Less, Equal, Greater, is_lt, IsTrue, ◌++◌, Result, Ok}
use Rattle.std.specs.Ordering.{is_eq, ordering_reverse}
use Rattle.std.specs.Cmp.{IsTotalOrder}
use Rattle.std.specs.List.{AllByRecursion}
use Rattle.std.proofs.lemmas.List.{length-map}
use Rattle.std.proofs.Math.ListN.{get_or-map}
use Rattle.std.proofs.lemmas.List.Elements.{recursion_from_All, All-from_recursion}
use Rattle.std.proofs.lemmas.List.Sorted.{All-permutation, IsPermutation-refl, IsPermutation-cons, IsPermutation-trans, IsPermutation-middle, IsPermutation-sym, IsPermutation-map}
use Rattle.sqlite_keyed.proofs.ListLemmas.{along_permutation}
use Rattle.sqlite_keyed.proofs.SortLemmas.{HasNoTies, sorted_is-sort_by, IsPermutation-sort_by}
use Rattle.sqlite.specs.Collation.TheVariants.{Binary}
use Rattle.sqlite.specs.Listing.{understood, reads_listing}
use Rattle.sqlite.specs.Schema.{Schema}
use Rattle.sqlite.specs.State.{State, HasCleanDisk, Survives, CommitsShowing, Shown, FailsToQuery, Begins, IsUnchanged}
use Rattle.sqlite.specs.Command.TheVariants.{Select}
use Rattle.sqlite.proofs.Callers.{EndsIn, IsPlain, begins_shown, begun_plain, command_of, reads_as}
use Rattle.sqlite.proofs.StateLemmas.{unchanged}
use Rattle.sqlite.specs.Effect.{Database}
use Rattle.sqlite.specs.Given.{HasBegun, HasGiven}
use Rattle.sqlite.specs.Held.{Held, state}
use Rattle.sqlite.specs.Store.{Ghosts}
use Rattle.sqlite_resolve.specs.declared.compiled.Compiled.{Compiled}
use Rattle.sqlite_resolve.specs.declared.error.CompileError.{CompileError}
use Rattle.sqlite.specs.Query.{Query, inner, end, IsAnswer, output, output_cmp, Output}
use Rattle.sqlite.specs.Program.{overlay}
use Rattle.sqlite.specs.Term.{lit, col}
use Rattle.sqlite_tied.specs.Compute.{everything}
use Rattle.sqlite.specs.Tree.{Trees}
use Rattle.sqlite.specs.Order.{Row, column}
use Rattle.sqlite.specs.declared.types.Value.TheVariants.{Null, Int}
use Rattle.sqlite.specs.Table.{Table}
use Rattle.sqlite_schema.specs.declared.schema.Index.{Index}
use Rattle.sqlite_schema.specs.declared.schema.View.{View}
use Rattle.sql_records.specs.Texts.{select_text, meta_select_text}
use Rattle.sql_records.specs.Layout.{IsOurs, ours_and, meta_shown, meta_rows}
use Rattle.sql_records.specs.Rows.{shown, by_place, in_order, AreInOrder, AreWhole}
use Rattle.sql_records.specs.Held.{LeavesNoMore}
use Rattle.sqlite.specs.declared.error.Error.{Error}
use Rattle.sqlite.specs.declared.error.Error.TheVariants.{SqliteFailure}
use Rattle.sqlite.specs.declared.error.ErrorCode.TheVariants as code
use Rattle.rights_lattice.specs.CellOrder.{then_Equal}
use Rattle.sql_records.specs.Faults.{IsUndoneForMemory}
use Rattle.sql_records.proofs.FaultLemmas.{Caused, IsRun, never_folded, query_cause, query_undone, query_wants}
use Rattle.sql_records.specs.Opening.{IsLeftOrUndone}
use Rattle.sql_records.proofs.UndoneLemmas.{left_or_undone}
use Rattle.sql_records.proofs.RowLemmas.{lower_id, by_place_total}

-- ---- the entries

abbrev query : Query
query = record {
  from = inner 1 end;
  filter = [];
  group = None;
  project = col 1 0 ∷ col 1 2 ∷ col 1 3 ∷ col 1 4 ∷ col 1 5 ∷ col 1 6 ∷ col 1 7 ∷ col 1 8 ∷ col 1 9 ∷ col 1 10 ∷ [];
  distinct = false;
  collations = [];
  order = (col 1 0, record { collation = Binary; descending = false }) ∷ [];
  limit = lit (Int (negsuc 0));
  offset = lit (Int (pos 0));
}

abbrev names : List (List ℕ)
names = codes "pos" ∷ codes "peer" ∷ codes "number" ∷ codes "verb" ∷ codes "event" ∷ codes "amount" ∷ codes "target" ∷ codes "reply" ∷ codes "rest"
    ∷ codes "delta" ∷ []

select_is : (more : List Table) (indexes : List Index) (views : List View)
    → (command_of (understood (ours_and more indexes views) select_text) ≡ Select (record { lets = []; body = query }) names)
    × (reads_listing (ours_and more indexes views) select_text ≡ false)
unfolding understood everything
select_is more indexes views = (refl, refl)

select_plain : (more : List Table) (indexes : List Index) (views : List View) → IsPlain (understood (ours_and more indexes views) select_text)
unfolding understood everything
select_plain more indexes views = (refl, refl)

-- the key and the columns of a row
abbrev out : Row → Output
out r = (column r 0 ∷ [], shown r)

staged_out : (params : Row) (rows : List Row) → map (output query) (flat_map (λ r. (params ∷ r ∷ []) ∷ []) rows) ≡ map out rows
staged_out params [] = refl
staged_out params (r ∷ rows) = ap (λ l. out r ∷ l) (staged_out params rows)

shown_out : (rows : List Row) → map (λ (o : Output). o.1) (map out rows) ≡ map shown rows
shown_out [] = refl
shown_out (r ∷ rows) = ap (λ l. shown r ∷ l) (shown_out rows)

abbrev IsOut : Output → Type 0
IsOut o = o.0 ≡ column o.1 0 ∷ []

all_out : (rows : List Row) → AllByRecursion IsOut (map out rows)
all_out [] = tt
all_out (r ∷ rows) = (refl, all_out rows)

by_place_of : (a b : Output) → IsOut a → IsOut b → output_cmp query a b ≡ by_place a.1 b.1
by_place_of a b p q = rw (p, q) (then_Equal (by_place a.1 b.1))

out_at : (os : List Output) (i : ℕ) (d : Output) → AllByRecursion IsOut os → IsOut d → IsOut (get_or os i d)
out_at [] i d all is = is
out_at (o ∷ os) zero d all is = all.0
out_at (o ∷ os) (suc i) d all is = out_at os i d all.1 is

sorted_rows : (os : List Output) → AllByRecursion IsOut os → IsSorted (output_cmp query) os → IsSorted by_place (map (λ (o : Output). o.1) os)
sorted_rows os all sorted = λ k d low high.
    let e : Output = (column d 0 ∷ [], d) in
    let long : length (map (λ (o : Output). o.1) os) ≡ length os = length-map os (λ (o : Output). o.1) in
    let a = get_or os (k + 1) e in
    let b = get_or os k e in
    let at = by_place_of a b (out_at os (k + 1) e all refl) (out_at os k e all refl) in
    let were : is_lt (output_cmp query a b) ≡ false = sorted k e low (omega arith) in
    let are : is_lt (by_place a.1 b.1) ≡ false = ap is_lt (sym at) ∙ were in
    rw (get_or-map (λ (o : Output). o.1) os (k + 1) e, get_or-map (λ (o : Output). o.1) os k e) are

-- an answer has the rows of the table in an order of their places
answers : (db : Trees) (params : Row) (rows : List Row) → IsAnswer query (overlay db []) params rows → AreInOrder (db 1) rows
answers db params rows a =
    let is : rows ≡ map (λ (o : Output). o.1) a.ordered = a.shown in
    let kept : a.kept ≡ map out (db 1) = a.distinct ∙ ap (map (output query)) a.grouped ∙ staged_out params (db 1) in
    let same : IsPermutation (map out (db 1)) a.ordered = subst (λ k. IsPermutation k a.ordered) kept a.same in
    let outs = recursion_from_All IsOut a.ordered
    (All-permutation IsOut (map out (db 1)) a.ordered same (All-from_recursion IsOut (map out (db 1)) (all_out (db 1)))) in
    let moved = IsPermutation-map (λ (o : Output). o.1) (map out (db 1)) a.ordered same in
    record {
      same = subst (IsPermutation (map shown (db 1))) (sym is) (subst (λ l. IsPermutation l (map (λ (o : Output). o.1) a.ordered)) (shown_out (db 1)) moved);
      sorted = subst (IsSorted by_place) (sym is) (sorted_rows a.ordered outs a.sorted);
    }

-- ---- rows with the places 0, 1 and on have one order

module _ {X : Type 0} (cmp : X → X → Ordering) (total : IsTotalOrder cmp) where
  abbrev IsApart : X → X → Type 0
  IsApart a b = is_eq (cmp a b) ≡ false

  turned : (o : Ordering) → is_eq (ordering_reverse o) ≡ is_eq o
  turned Less = refl
  turned Equal = refl
  turned Greater = refl

  apart_back : (a b : X) → IsApart a b → IsApart b a
  apart_back a b h = ap is_eq (total.antisymm b a) ∙ turned (cmp a b) ∙ h

  abbrev Moves : List X → List X → Type 0
  Moves xs ys = IsPermutation xs ys × (HasNoTies cmp total xs → HasNoTies cmp total ys)

  apart_moved : (x : X) (xs ys : List X) → IsPermutation xs ys → AllByRecursion (IsApart x) xs → AllByRecursion (IsApart x) ys
  apart_moved x xs ys p h = recursion_from_All (IsApart x) ys (All-permutation (IsApart x) xs ys p (All-from_recursion (IsApart x) xs h))

  -- a list with no ties has none in any order
  moves : (xs ys : List X) → IsPermutation xs ys → Moves xs ys
  moves = along_permutation Moves (λ xs. (IsPermutation-refl xs, λ h. h))
      (λ x xs ys m. (IsPermutation-cons x xs ys m.0, λ h. (apart_moved x xs ys m.0 h.0, m.1 h.1)))
      (λ x y xs. (IsPermutation-middle (x ∷ []) y xs, λ h. ((apart_back x y h.0.0, h.1.0), (h.0.1, h.1.1))))
      (λ xs ys zs m n. (IsPermutation-trans xs ys zs m.0 n.0, λ h. n.1 (m.1 h)))

apart_from : (values : Row) (m from : ℕ) (rows : List Row) → column values 0 ≡ Int (pos m) → m < from → AreWhole from rows
    → AllByRecursion (λ b. is_eq (by_place values b) ≡ false) rows
apart_from values m from [] is low h = tt
apart_from values m from (r ∷ rows) is low h =
    let below : by_place values r ≡ Less = rw (is, h.0.placed) (lower_id m from low) in
    (ap is_eq below, apart_from values m (from + 1) rows is (omega arith) h.1)

apart_whole : (from : ℕ) (rows : List Row) → AreWhole from rows → HasNoTies by_place by_place_total rows
apart_whole from [] h = tt
apart_whole from (r ∷ rows) h = (apart_from r from (from + 1) rows h.0.placed (omega arith) h.1, apart_whole (from + 1) rows h.1)

pub whole_order : (table rows : List Row) → AreInOrder table rows → AreWhole 0 rows → rows ≡ in_order (map shown table)
whole_order table rows order whole =
    let apart = (moves by_place by_place_total rows (map shown table) (IsPermutation-sym (map shown table) rows order.same)).1 (apart_whole 0 rows whole) in
    sorted_is-sort_by by_place by_place_total (map shown table) rows apart order.same order.sorted

-- and no other order of them is sorted
pub order_whole : (table rows : List Row) → AreInOrder table rows → AreWhole 0 (in_order (map shown table)) → rows ≡ in_order (map shown table)
order_whole table rows order whole =
    let sorted = IsPermutation-sort_by by_place by_place_total (map shown table) in
    let apart = (moves by_place by_place_total (in_order (map shown table)) (map shown table) sorted).1 (apart_whole 0 (in_order (map shown table)) whole) in
    sorted_is-sort_by by_place by_place_total (map shown table) rows apart order.same order.sorted

-- a query with no RETURNING leaves the connection as it was
pub unchanged_as : (sql : List ℕ) (params : Row) (old new : State) (schema : Schema) → old.now.schema ≡ schema → IsPlain (understood schema sql)
    → (rows : List Row) → Shown sql params old new rows → IsUnchanged old new
unfolding Shown
unchanged_as sql params old new schema has plain rows h =
    let known = sym h.1.is ∙ ap (λ s. understood s sql) has in
    let bare = subst IsPlain (sym known) plain in
    (rw (bare.0) at h.2).3

-- and commits nothing
pub leaves_as : (sql : List ℕ) (params : Row) (old new : State) (schema : Schema) → old.now.schema ≡ schema → IsPlain (understood schema sql)
    → Survives old new (CommitsShowing sql params old) → HasCleanDisk new → LeavesNoMore old new
unfolding CommitsShowing
leaves_as sql params old new schema has plain survives clean db left = elim (survives.crash clean db left) [
  | inl before ↦ before
  | inr commit ↦ (
      let known = sym commit.1.is ∙ ap (λ s. understood s sql) has in
      let bare = subst IsPlain (sym known) plain in
      absurd (let some = rw (bare.0) at commit.2 in cc))
]

pub entries_left : (old new : State) → IsOurs old.now.schema → Survives old new (CommitsShowing select_text [] old) → HasCleanDisk new → LeavesNoMore old new
entries_left old new has survives clean = leaves_as select_text [] old new (ours_and has.tables has.indexes has.views) has.is
    (select_plain has.tables has.indexes has.views) survives clean

pub shown_rows : (old new : State) (rows : List Row) → IsOurs old.now.schema → Shown select_text [] old new rows → AreInOrder (old.now.trees 1) rows
shown_rows old new rows has h = answers old.now.trees [] rows
    ((reads_as select_text [] old new (ours_and has.tables has.indexes has.views) has.is _ (select_is has.tables has.indexes has.views).0
    (select_plain has.tables has.indexes has.views) (select_is has.tables has.indexes has.views).1 rows h).answer Null)

pub shown_same : (old new : State) (rows : List Row) → IsOurs old.now.schema → Shown select_text [] old new rows → IsUnchanged old new
shown_same old new rows has h = unchanged_as select_text [] old new (ours_and has.tables has.indexes has.views) has.is
    (select_plain has.tables has.indexes has.views) rows h

-- the rows one at a time
pub begun_rows : {S : Type 0} (g : Ghosts S) (old now : Held S) → IsOurs (state g old).now.schema → HasBegun g select_text [] old now
    → HasGiven g select_text [] now [] × IsUnchanged (state g old) (state g now)
begun_rows g old now has h =
    let plain = select_plain has.tables has.indexes has.views in
    begun_plain g select_text [] old now (subst (λ s. IsPlain (understood s select_text)) (sym has.is) plain) h

ends_of : (r : Result Compiled CompileError) (c : Compiled) (db : Database) (params : Row) → r ≡ Ok c
    → command_of r ≡ Select (record { lets = []; body = query }) names
    → EndsIn c.command db params
ends_of r c db params is command = subst (λ k. EndsIn k db params) (sym (sym (ap command_of is) ∙ command)) tt

-- rows that begin an answer are the first of one
pub whole_answer : (s : State) (rows : List Row) → IsOurs s.now.schema → IsTrue s.is_open → Begins select_text [] s rows
    → (tail : List Row) × AreInOrder (s.now.trees 1) (rows ++ tail)
whole_answer s rows has live begins =
    let command = ap (λ d. command_of (understood d select_text)) has.is ∙ (select_is has.tables has.indexes has.views).0 in
    let all =
    begins_shown select_text [] s s rows begins (unchanged s live) (λ c db it source. ends_of (understood s.now.schema select_text) c db _ it.is command) in
    (all.0, shown_rows s s (rows ++ all.0) has all.1)

-- ---- the numbers

abbrev meta_query : Query
meta_query = record {
  from = inner 0 end;
  filter = [];
  group = None;
  project = col 1 0 ∷ col 1 2 ∷ col 1 3 ∷ col 1 4 ∷ col 1 5 ∷ col 1 6 ∷ [];
  distinct = false;
  collations = [];
  order = [];
  limit = lit (Int (negsuc 0));
  offset = lit (Int (pos 0));
}

abbrev meta_names : List (List ℕ)
meta_names = codes "one" ∷ codes "kind" ∷ codes "version" ∷ codes "me" ∷ codes "sites" ∷ codes "bound" ∷ []

meta_select_is : (more : List Table) (indexes : List Index) (views : List View)
    → (command_of (understood (ours_and more indexes views) meta_select_text) ≡ Select (record { lets = []; body = meta_query }) meta_names)
    × (reads_listing (ours_and more indexes views) meta_select_text ≡ false)
unfolding understood everything
meta_select_is more indexes views = (refl, refl)

meta_select_plain : (more : List Table) (indexes : List Index) (views : List View) → IsPlain (understood (ours_and more indexes views) meta_select_text)
unfolding understood everything
meta_select_plain more indexes views = (refl, refl)

abbrev meta_out : Row → Output
meta_out r = ([], meta_shown r)

staged_meta : (params : Row) (rows : List Row) → map (output meta_query) (flat_map (λ r. (params ∷ r ∷ []) ∷ []) rows) ≡ map meta_out rows
staged_meta params [] = refl
staged_meta params (r ∷ rows) = ap (λ l. meta_out r ∷ l) (staged_meta params rows)

shown_meta_out : (rows : List Row) → map (λ (o : Output). o.1) (map meta_out rows) ≡ map meta_shown rows
shown_meta_out [] = refl
shown_meta_out (r ∷ rows) = ap (λ l. meta_shown r ∷ l) (shown_meta_out rows)

meta_answers : (db : Trees) (params : Row) (rows : List Row) → IsAnswer meta_query (overlay db []) params rows → IsPermutation (meta_rows db) rows
meta_answers db params rows a =
    let is : rows ≡ map (λ (o : Output). o.1) a.ordered = a.shown in
    let kept : a.kept ≡ map meta_out (db 0) = a.distinct ∙ ap (map (output meta_query)) a.grouped ∙ staged_meta params (db 0) in
    let same : IsPermutation (map meta_out (db 0)) a.ordered = subst (λ k. IsPermutation k a.ordered) kept a.same in
    let moved = IsPermutation-map (λ (o : Output). o.1) (map meta_out (db 0)) a.ordered same in
    subst (IsPermutation (meta_rows db)) (sym is) (subst (λ l. IsPermutation l (map (λ (o : Output). o.1) a.ordered)) (shown_meta_out (db 0)) moved)

pub shown_meta : (old new : State) (rows : List Row) → IsOurs old.now.schema → Shown meta_select_text [] old new rows
    → IsPermutation (meta_rows old.now.trees) rows
shown_meta old new rows has h = meta_answers old.now.trees [] rows
    ((reads_as meta_select_text [] old new (ours_and has.tables has.indexes has.views) has.is _ (meta_select_is has.tables has.indexes has.views).0
    (meta_select_plain has.tables has.indexes has.views) (meta_select_is has.tables has.indexes has.views).1 rows h).answer Null)

pub meta_same : (old new : State) (rows : List Row) → IsOurs old.now.schema → Shown meta_select_text [] old new rows → IsUnchanged old new
meta_same old new rows has h = unchanged_as meta_select_text [] old new (ours_and has.tables has.indexes has.views) has.is
    (meta_select_plain has.tables has.indexes has.views) rows h

pub meta_left : (old new : State) → IsOurs old.now.schema → Survives old new (CommitsShowing meta_select_text [] old) → HasCleanDisk new → LeavesNoMore old new
meta_left old new has survives clean = leaves_as meta_select_text [] old new (ours_and has.tables has.indexes has.views) has.is
    (meta_select_plain has.tables has.indexes has.views) survives clean

-- ---- what the queries fail for

module _ (more : List Table) (indexes : List Index) (views : List View) where
  select_runs : IsRun (ours_and more indexes views) select_text []
  unfolding understood everything
  select_runs = record {
    program = record { lets = []; body = query };
    names = names;
    is = refl;
    plain = (refl, refl);
    whole = refl;
    given = refl;
    unlisted = refl;
    typed = refl;
    small = λ db over. elim over [ inl grouped ↦ grouped | inr folded ↦ never_folded (db 1) folded ];
  }

  meta_runs : IsRun (ours_and more indexes views) meta_select_text []
  unfolding understood everything
  meta_runs = record {
    program = record { lets = []; body = meta_query };
    names = meta_names;
    is = refl;
    plain = (refl, refl);
    whole = refl;
    given = refl;
    unlisted = refl;
    typed = refl;
    small = λ db over. elim over [ inl grouped ↦ grouped | inr folded ↦ never_folded (db 0) folded ];
  }

pub select_fails : (old new : State) (e : Error) → IsOurs old.now.schema → FailsToQuery select_text [] old new e → Caused old new e
select_fails old new e ours h = query_cause select_text [] old new (ours_and ours.tables ours.indexes ours.views) ours.is
    (select_runs ours.tables ours.indexes ours.views) e h

pub meta_select_fails : (old new : State) (e : Error) → IsOurs old.now.schema → FailsToQuery meta_select_text [] old new e → Caused old new e
meta_select_fails old new e ours h = query_cause meta_select_text [] old new (ours_and ours.tables ours.indexes ours.views) ours.is
    (meta_runs ours.tables ours.indexes ours.views) e h

pub select_wants : (old new : State) (e : Error) → IsOurs old.now.schema → FailsToQuery select_text [] old new e → e ≡ SqliteFailure code.OutOfMemory
    → IsUndoneForMemory old new
select_wants old new e ours h = query_wants select_text [] old new (ours_and ours.tables ours.indexes ours.views) ours.is
    (select_runs ours.tables ours.indexes ours.views) e h

pub meta_select_wants : (old new : State) (e : Error) → IsOurs old.now.schema → FailsToQuery meta_select_text [] old new e
    → e ≡ SqliteFailure code.OutOfMemory → IsUndoneForMemory old new
meta_select_wants old new e ours h = query_wants meta_select_text [] old new (ours_and ours.tables ours.indexes ours.views) ours.is
    (meta_runs ours.tables ours.indexes ours.views) e h

-- ---- what a query that fails leaves

pub select_undone : (old new : State) (e : Error) → IsOurs old.now.schema → FailsToQuery select_text [] old new e → IsLeftOrUndone old new
select_undone old new e ours h = left_or_undone old new
    (query_undone select_text [] old new (ours_and ours.tables ours.indexes ours.views) ours.is (select_runs ours.tables ours.indexes ours.views) e h)

pub meta_select_undone : (old new : State) (e : Error) → IsOurs old.now.schema → FailsToQuery meta_select_text [] old new e → IsLeftOrUndone old new
meta_select_undone old new e ours h = left_or_undone old new
    (query_undone meta_select_text [] old new (ours_and ours.tables ours.indexes ours.views) ours.is (meta_runs ours.tables ours.indexes ours.views) e h)
