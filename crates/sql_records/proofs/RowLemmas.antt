-- Rows in the order of their places, and one more at their end.
use Rattle.std.proofs.Common.{◌≡◌, ℕ, ◌+◌, ◌<◌, pos, negsuc, Bool, true, false, IsTrue, Some, None, Option, cond, refl, sym, ap, ◌∙◌, List, [], ◌∷◌, ◌++◌, map, length, IsSome, arith}
use Rattle.std.specs.declared.cmp.Ordering.TheVariants.{Less}
use Rattle.std.specs.Ordering.{is_gt}
use Rattle.std.specs.Cmp.{IsTotalOrder}
use Rattle.std.proofs.lemmas.Cmp.{on_total}
use Rattle.std.specs.List.{AllByRecursion, filter_map, cons_option}
use Rattle.std.proofs.lemmas.List.{map-append}
use Rattle.std.proofs.lemmas.List.Elements.{recursion_from_All, All-from_recursion, filter_map-append}
use Rattle.std.proofs.lemmas.List.Sorted.{All-permutation}
use Rattle.std.proofs.lemmas.Bool.{eqb-true, eq-eqb}
use Rattle.std.proofs.lemmas.Int.{ints}
use Rattle.std.proofs.lemmas.Bool.Decides.{nat_tests}
use Rattle.sqlite_keyed.specs.Lists.{insert_sorted}
use Rattle.sqlite_keyed.proofs.SortLemmas.{IsPermutation-sort_by}
use Rattle.sqlite.specs.declared.types.Value.{Value}
use Rattle.sqlite.specs.declared.types.Value.TheVariants.{Null, Int, Real, Text, Blob}
use Rattle.sqlite.specs.Order.{Row, column, value_cmp}
use Rattle.sqlite_value.proofs.OrderLemmas.{value_cmp-Int, value_cmp_total}
use Rattle.sqlite.specs.Tree.{put_row}
use Rattle.book_core.specs.declared.entry.Entry.{Entry}
use Rattle.sql_records.specs.Rows.{entry_of, shown, by_place, in_order, is_place, entry_at, in_front, entries_from, IsEntryAt, AreWhole}

pub lower_id : (m n : ℕ) → m < n → value_cmp (Int (pos m)) (Int (pos n)) ≡ Less
lower_id m n h = value_cmp-Int (pos m) (pos n) ∙ grind (arith, ints, nat_tests)

pub by_place_total : IsTotalOrder by_place
by_place_total = on_total (λ r. column r 0) value_cmp_total

abbrev IsBelow : Row → Row → Type 0
IsBelow new r = by_place r new ≡ Less

-- whole rows are below one that comes after them
whole_below : (new : Row) (rows : List Row) (from place : ℕ) → AreWhole from rows → from + length rows ≡ place → column new 0 ≡ Int (pos place)
    → AllByRecursion (IsBelow new) rows
whole_below new [] from place h n is = tt
whole_below new (r ∷ rows) from place h n is =
    let low : from < place = omega arith in
    (rw (h.0.placed, is) (lower_id from place low), whole_below new rows (from + 1) place h.1 (omega arith) is)

unshown : (new : Row) (table : List Row) → AllByRecursion (IsBelow new) (map shown table) → AllByRecursion (IsBelow new) table
unshown new [] below = tt
unshown new (r ∷ table) below = (below.0, unshown new table below.1)

put_last : (new : Row) (rows : List Row) → AllByRecursion (IsBelow new) rows → put_row new rows ≡ rows ++ new ∷ []
put_last new [] below = refl
put_last new (r ∷ rows) below = rw below.0 (ap (λ x. r ∷ x) (put_last new rows below.1))

insert_before : (new r : Row) (rows : List Row) → IsBelow new r → insert_sorted by_place r (rows ++ new ∷ []) ≡ insert_sorted by_place r rows ++ new ∷ []
insert_before new r [] low = rw low refl
insert_before new r (x ∷ rows) low =
    elim (is_gt (by_place r x)) as
    (λ b. cond b (x ∷ insert_sorted by_place r (rows ++ new ∷ [])) (r ∷ x ∷ (rows ++ new ∷ [])) ≡ cond b (x ∷ insert_sorted by_place r rows)
    (r ∷ x ∷ rows) ++ new ∷ []) [
      | true ↦ ap (λ l. x ∷ l) (insert_before new r rows low)
      | false ↦ refl
    ]

sort_last : (new : Row) (rows : List Row) → AllByRecursion (IsBelow new) rows → in_order (rows ++ new ∷ []) ≡ in_order rows ++ new ∷ []
sort_last new [] below = refl
sort_last new (r ∷ rows) below = ap (insert_sorted by_place r) (sort_last new rows below.1) ∙ insert_before new r (in_order rows) below.0

-- a row whose place is the next goes to the end, in the table and in the order of places
pub put_next : (new : Row) (table : List Row) (place : ℕ) → AreWhole 0 (in_order (map shown table)) → length (in_order (map shown table)) ≡ place
    → column new 0 ≡ Int (pos place)
    → in_order (map shown (put_row new table)) ≡ in_order (map shown table) ++ shown new ∷ []
put_next new table place whole count is =
    let rows = map shown table in
    let sorted = whole_below new (in_order rows) 0 place whole (omega arith) is in
    let below : AllByRecursion (IsBelow new) rows =
    recursion_from_All (IsBelow new) rows
    (All-permutation (IsBelow new) (in_order rows) rows (IsPermutation-sort_by by_place by_place_total rows)
    (All-from_recursion (IsBelow new) (in_order rows) sorted)) in
    ap (λ t. in_order (map shown t)) (put_last new table (unshown new table below)) ∙ ap in_order (map-append shown table (new ∷ []))
    ∙ sort_last (shown new) rows below

some_of : (o : Option Entry) (entry : Entry) → o ≡ Some entry → IsSome o
some_of None entry is = absurd (let e = is in cc)
some_of (Some e) entry is = refl

-- what reads as an entry at the next place keeps the rows whole
pub whole_next : (rows : List Row) (values : Row) (entry : Entry) (from place : ℕ) → AreWhole from rows → from + length rows ≡ place
    → column values 0 ≡ Int (pos place) → entry_of values ≡ Some entry → AreWhole from (rows ++ values ∷ [])
whole_next [] values entry from place h n is reads =
    let same : place ≡ from = omega arith in
    (record { placed = is ∙ ap (λ k. Int (pos k)) same; reads = some_of (entry_of values) entry reads }, tt)
whole_next (r ∷ rows) values entry from place h n is reads = (h.0, whole_next rows values entry (from + 1) place h.1 (omega arith) is reads)

-- one more row is one more entry
pub entries_next : (rows : List Row) (values : Row) (entry : Entry) → entry_of values ≡ Some entry
    → filter_map entry_of (rows ++ values ∷ []) ≡ filter_map entry_of rows ++ entry ∷ []
entries_next rows values entry reads = filter_map-append entry_of rows (values ∷ []) ∙ rw reads refl

place_of : (place : ℕ) (v : Value) → IsTrue (is_place place v) → v ≡ Int (pos place)
place_of place (Int (pos n)) h = let same = eqb-true n place h in ap (λ (k : ℕ). Int (pos k)) same
place_of place (Int (negsuc n)) h = absurd cc
place_of place Null h = absurd cc
place_of place (Real x) h = absurd cc
place_of place (Text t) h = absurd cc
place_of place (Blob b) h = absurd cc

-- the row of a place is read there
here : (place : ℕ) (values : Row) → IsEntryAt place values → entry_at place values ≡ entry_of values
here place values h = rw (h.placed, eq-eqb place place refl) refl

in_front_of : (o : Option Entry) (entries : List Entry) → IsSome o → in_front o (Some entries) ≡ Some (cons_option o entries)
in_front_of None entries some = absurd (let e = some in cc)
in_front_of (Some e) entries some = refl

-- whole rows are read
pub read_from : (from : ℕ) (rows : List Row) → AreWhole from rows → entries_from from rows ≡ Some (filter_map entry_of rows)
read_from from [] h = refl
read_from from (r ∷ rows) h = rw (here from r h.0, read_from (from + 1) rows h.1) (in_front_of (entry_of r) (filter_map entry_of rows) h.0.reads)

abbrev Parts : Option Entry → Option (List Entry) → List Entry → Type 0
Parts o more list = (e : Entry) × (es : List Entry) × (o ≡ Some e) × (more ≡ Some es) × (list ≡ e ∷ es)

parts : (o : Option Entry) (more : Option (List Entry)) (list : List Entry) → in_front o more ≡ Some list → Parts o more list
parts None more list h = absurd cc
parts (Some e) None list h = absurd cc
parts (Some e) (Some es) list h = (e, es, refl, refl, (let same : e ∷ es ≡ list = cc in sym same))

entry_here : (place : ℕ) (values : Row) (e : Entry) → entry_at place values ≡ Some e → IsEntryAt place values
entry_here place values e h =
    let t = cond_some_of (is_place place (column values 0)) (entry_of values) e h in
    record { placed = place_of place (column values 0) t.0; reads = some_of (entry_of values) e t.1 }
  where
    cond_some_of : (b : Bool) (o : Option Entry) (e : Entry) → cond b o None ≡ Some e → IsTrue b × (o ≡ Some e)
    cond_some_of true o e h = (refl, h)
    cond_some_of false o e h = absurd cc

-- what is read was whole
pub whole_from : (from : ℕ) (rows : List Row) (list : List Entry) → entries_from from rows ≡ Some list → AreWhole from rows
whole_from from [] list h = tt
whole_from from (r ∷ rows) list h = let p = parts (entry_at from r) (entries_from (from + 1) rows) list h
    in (entry_here from r p.0 p.2, whole_from (from + 1) rows p.1 p.3)
