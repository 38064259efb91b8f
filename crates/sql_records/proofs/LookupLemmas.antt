-- What the rows say of a number and of an event is what the entries say.
use Rattle.std.proofs.Common.{◌≡◌, ◌⊎◌, inl, inr, ℕ, slice_get, zero, suc, ◌+◌, ◌<◌, pos, negsuc, ◌&&◌, Bool, true, false, cond, eqb, Option, Some, None, refl, ap, sym, subst, ◌∙◌, arith, List, [], ◌∷◌, map, filter, IsSome, length, Result, Ok, Err, IfOk, IfErr, OnErr}
use Rattle.std.specs.Option.{option_map}
use Rattle.std.specs.Ordering.{is_eq, int_cmp}
use Rattle.std.specs.List.{filter_map}
use Rattle.std.specs.Cmp.Lexicographic.{texts_ties}
use Rattle.std.proofs.lemmas.Int.{ints}
use Rattle.std.proofs.lemmas.Bool.{and_parts}
use Rattle.std.proofs.lemmas.Option.{cond_some, same_Some, slice_get_within}
use Rattle.std.proofs.lemmas.List.{length-map}
use Rattle.std.proofs.lemmas.Bool.Decides.{nat_tests}
use Rattle.sqlite.specs.declared.types.Value.{Value}
use Rattle.sqlite.specs.declared.types.Value.TheVariants.{Null, Int, Real, Text, Blob}
use Rattle.sqlite.specs.Collation.TheVariants.{Binary}
use Rattle.sqlite.specs.Order.{Row, column}
use Rattle.sqlite_value.proofs.OrderLemmas.{value_cmp-Int, value_cmp-Text}
use Rattle.sqlite_sql.specs.declared.ops.BinaryOp.TheVariants.{Compare}
use Rattle.sqlite_sql.specs.declared.ops.CompareOp.TheVariants.{Eq}
use Rattle.sqlite_sql.specs.Ops.{binary, is_true, from_truth}
use Rattle.rights_lattice.specs.Cells.{greatest_value}
use Rattle.rights_lattice.specs.Cell.{same_event}
use Rattle.rights_lattice.specs.State.{State}
use Rattle.request_ledger.specs.declared.request.Request.{Request}
use Rattle.request_ledger.specs.declared.request.Request.TheVariants.{Announce, Release, Sell, Refund, Cede}
use Rattle.request_ledger.specs.declared.reply.Reply.{Reply}
use Rattle.request_ledger.specs.declared.reply.Kept.{Kept}
use Rattle.request_ledger.specs.Ledger.{KeptByNumber, kept_under}
use Rattle.book_core.specs.declared.entry.Entry.{Entry}
use Rattle.book_core.specs.declared.entry.Entry.TheVariants.{Asked, Joined, Grown}
use Rattle.book_core.specs.History.{asked_from}
use Rattle.plain_words.specs.Words.{◌>>=◌}
use Rattle.plain_words.proofs.WordLaws.{bind_some}
use Rattle.rights_lattice.specs.EventName.{name_of}
use Rattle.rights_lattice.proofs.EventLaws.{name_of_found}
use Rattle.sql_records.specs.declared.lookup.FindFault.{FindFault}
use Rattle.sql_records.specs.declared.lookup.FindFault.TheVariants as fault
use Rattle.history_keeper.specs.declared.lookup.Found.{Found}
use Rattle.history_keeper.specs.declared.lookup.Listed.{Listed}
use Rattle.request_ledger.specs.declared.verb.Verb.{Verb}
use Rattle.request_ledger.specs.declared.verb.Verb.TheVariants as verb
use Rattle.sqlite.specs.State.{State as Store}
use Rattle.sql_records.specs.Rows.{is_null, text_in, number_within, positive_in, site_in, event_in, verb_in, event_column, announce_of, release_of, sell_of, part_in, refund_in_columns, cede_of, request_of, request_in, reply_in, delta_in, asks_nothing, asked_of, joined_of, sites_in, is_grow, only_grows, grown_of, own_of, entry_with, entry_of, AreWhole}
use Rattle.history_keeper.specs.Lookups.{found_in, listed_in, names_event, listing}
use Rattle.sql_records.specs.Lookups.{IsFirstUnread, IsListFault, IsQueryFault, ReadsSome, has_number, has_event, found_columns, listed_columns, found_of, listed_of, first_found}

-- ---- what was read from a value

within_found : (low high n : ℕ) (v : Value) → number_within low high v ≡ Some n → v ≡ Int (pos n)
within_found low high n Null e = absurd cc
within_found low high n (Int (pos m)) e = ap (λ k. Int (pos k)) (cond_some _ m n e).1
within_found low high n (Int (negsuc m)) e = absurd cc
within_found low high n (Real x) e = absurd cc
within_found low high n (Text t) e = absurd cc
within_found low high n (Blob b) e = absurd cc

null_found : (v : Value) → is_null v ≡ true → v ≡ Null
null_found Null e = refl
null_found (Int n) e = absurd cc
null_found (Real x) e = absurd cc
null_found (Text t) e = absurd cc
null_found (Blob b) e = absurd cc

text_found : (v : Value) (t : List ℕ) → text_in v ≡ Some t → v ≡ Text t
text_found Null t e = absurd cc
text_found (Int n) t e = absurd cc
text_found (Real x) t e = absurd cc
text_found (Text s) t e = ap Text (same_Some s t e)
text_found (Blob b) t e = absurd cc

event_found : (v : Value) (name : List ℕ) → event_in v ≡ Some name → v ≡ Text name
unfolding event_in
event_found v name e =
    let t = bind_some (text_in v) (λ t. name_of t) name e in
    text_found v t.0 t.1 ∙ ap Text (name_of_found t.0 name t.2).0

-- ---- the event column is that of the request

named : (v : Verb) (event amount target : Value) (q : Request) → request_of v event amount target ≡ Some q → event ≡ event_column q
unfolding announce_of release_of sell_of refund_in_columns cede_of
named verb.Announce event amount target q e =
    let a = bind_some (event_in event) (λ x. cond (is_null amount && is_null target) (Some (Announce x)) None) q e in
    event_found event a.0 a.1 ∙ ap event_column (cond_some _ (Announce a.0) q a.2).1
named verb.Release event amount target q e =
    let a = bind_some (event_in event) (λ x. positive_in amount >>= λ n. cond (is_null target) (Some (Release x n)) None) q e in
    let b = bind_some (positive_in amount) (λ n. cond (is_null target) (Some (Release a.0 n)) None) q a.2 in
    event_found event a.0 a.1 ∙ ap event_column (cond_some _ (Release a.0 b.0) q b.2).1
named verb.Sell event amount target q e =
    let a = bind_some (event_in event) (λ x. positive_in amount >>= λ n. cond (is_null target) (Some (Sell x n)) None) q e in
    let b = bind_some (positive_in amount) (λ n. cond (is_null target) (Some (Sell a.0 n)) None) q a.2 in
    event_found event a.0 a.1 ∙ ap event_column (cond_some _ (Sell a.0 b.0) q b.2).1
named verb.Refund event amount target q e =
    let a = bind_some (positive_in target) (λ sale. part_in amount >>= λ part. cond (is_null event) (Some (Refund sale part)) None) q e in
    let b = bind_some (part_in amount) (λ part. cond (is_null event) (Some (Refund a.0 part)) None) q a.2 in
    let d = cond_some _ (Refund a.0 b.0) q b.2 in
    null_found event d.0 ∙ ap event_column d.1
named verb.Cede event amount target q e =
    let a = bind_some (event_in event) (λ x. positive_in amount >>= λ n. site_in target >>= λ to. Some (Cede x to n)) q e in
    let b = bind_some (positive_in amount) (λ n. site_in target >>= λ to. Some (Cede a.0 to n)) q a.2 in
    let d = bind_some (site_in target) (λ to. Some (Cede a.0 to b.0)) q b.2 in
    event_found event a.0 a.1 ∙ ap event_column (same_Some (Cede a.0 d.0 b.0) q d.2)

event_is : (word event amount target : Value) (q : Request) → request_in word event amount target ≡ Some q → event ≡ event_column q
unfolding request_in
event_is word event amount target q e = let v = bind_some (verb_in word) (λ v. request_of v event amount target) q e in named v.0 event amount target q v.2

-- ---- the columns of an entry that was read

abbrev HasParts : Row → Entry → Type 0
HasParts values (Asked number request reply delta) =
    (column values 2 ≡ Int (pos number)) × (positive_in (column values 2) ≡ Some number)
    × (request_in (column values 3) (column values 4) (column values 5) (column values 6) ≡ Some request)
    × (reply_in (column values 7) (column values 8) ≡ Some reply)
HasParts values (Joined peer delta) = (column values 2 ≡ Null) × (column values 4 ≡ Null)
HasParts values (Grown sites) = (column values 2 ≡ Null) × (column values 4 ≡ Null)

asked_parts : (values : Row) (delta : State) (e : Entry) → asked_of values delta ≡ Some e → HasParts values e
unfolding asked_of
asked_parts values delta e h =
    let n = bind_some (positive_in (column values 2))
    (λ n. request_in (column values 3) (column values 4) (column values 5) (column values 6) >>= λ q. reply_in (column values 7) (column values 8) >>=
    λ r. Some (Asked n q r delta)) e h in
    let q = bind_some (request_in (column values 3) (column values 4) (column values 5) (column values 6))
    (λ q. reply_in (column values 7) (column values 8) >>= λ r. Some (Asked n.0 q r delta)) e n.2 in
    let r = bind_some (reply_in (column values 7) (column values 8)) (λ r. Some (Asked n.0 q.0 r delta)) e q.2 in
    subst (HasParts values) (same_Some (Asked n.0 q.0 r.0 delta) e r.2) (within_found 1 greatest_value n.0 (column values 2) n.1, n.1, q.1, r.1)

joined_parts : (values : Row) (delta : State) (e : Entry) → joined_of values delta ≡ Some e → HasParts values e
unfolding joined_of
joined_parts values delta e h =
    let p = bind_some (site_in (column values 1)) (λ p. cond (asks_nothing values) (Some (Joined p delta)) None) e h in
    let c = cond_some (asks_nothing values) (Joined p.0 delta) e p.2 in
    let six = (and_parts _ _ c.0).0 in
    let five = (and_parts _ _ six).0 in
    let four = (and_parts _ _ five).0 in
    let three = (and_parts _ _ four).0 in
    let two = and_parts _ _ three in
    let one = and_parts _ _ two.0 in
    subst (HasParts values) c.1 (null_found (column values 2) one.0, null_found (column values 4) two.1)

grown_parts : (values : Row) (e : Entry) → grown_of values ≡ Some e → HasParts values e
unfolding grown_of
grown_parts values e h =
    let n = bind_some (sites_in (column values 6)) (λ n. cond (only_grows values) (Some (Grown n)) None) e h in
    let c = cond_some (only_grows values) (Grown n.0) e n.2 in
    let five = (and_parts _ _ c.0).0 in
    let four = (and_parts _ _ five).0 in
    let three = (and_parts _ _ four).0 in
    let two = and_parts _ _ (and_parts _ _ three).0 in
    subst (HasParts values) c.1 (null_found (column values 2) two.0, null_found (column values 4) two.1)

own_parts : (values : Row) (delta : State) (e : Entry) → own_of values delta ≡ Some e → HasParts values e
own_parts values delta e h = go (is_grow (column values 3)) h
  where
    go : (b : Bool) → cond b (grown_of values) (asked_of values delta) ≡ Some e → HasParts values e
    go true h = grown_parts values e h
    go false h = asked_parts values delta e h

parts : (values : Row) (e : Entry) → entry_of values ≡ Some e → HasParts values e
unfolding entry_of
parts values e h =
    let d = bind_some (delta_in (column values 9)) (λ delta. entry_with values delta) e h in
    go (is_null (column values 1)) d.0 d.2
  where
    go : (b : Bool) (delta : State) → cond b (own_of values delta) (joined_of values delta) ≡ Some e → HasParts values e
    go true delta h = own_parts values delta e h
    go false delta h = joined_parts values delta e h

-- ---- SQL's equality of numbers and of texts

truth_back : (b : Bool) → is_true (from_truth (Some b)) ≡ b
truth_back true = refl
truth_back false = refl

equal_ints : (m n : ℕ) → is_eq (int_cmp (pos m) (pos n)) ≡ eqb m n
equal_ints m n = grind (arith, ints, nat_tests)

same_number : (m n : ℕ) → is_true (binary (Compare Eq Binary) (Int (pos m)) (Int (pos n))) ≡ eqb m n
unfolding binary
same_number m n = truth_back _ ∙ ap is_eq (value_cmp-Int (pos m) (pos n)) ∙ equal_ints m n

same_text : (s t : List ℕ) → is_true (binary (Compare Eq Binary) (Text s) (Text t)) ≡ same_event s t
unfolding binary
same_text s t = truth_back _ ∙ ap is_eq (value_cmp-Text s t) ∙ sym (texts_ties s t)

no_number : (v : Value) → is_true (binary (Compare Eq Binary) Null v) ≡ false
unfolding binary
no_number v = refl

names : (name : List ℕ) (q : Request) → is_true (binary (Compare Eq Binary) (event_column q) (Text name)) ≡ names_event name q
names name (Announce event) = same_text event name
names name (Release event amount) = same_text event name
names name (Sell event amount) = same_text event name
names name (Refund sale part) = no_number (Text name)
names name (Cede event to amount) = same_text event name

-- ---- looking up a number

abbrev found_kept : Kept → Found
found_kept k = record { place = k.place; reply = k.reply }

abbrev IsFoundIn : ℕ → List Row → KeptByNumber → Type 0
IsFoundIn n rows keeping = first_found (map found_columns (filter (has_number n) rows)) ≡ option_map Some (option_map found_kept (kept_under keeping n))

found_reads : (from : ℕ) (values : Row) (reply : Reply) → column values 0 ≡ Int (pos from) → reply_in (column values 7) (column values 8) ≡ Some reply
    → found_of (found_columns values) ≡ Some (record { place = from; reply = reply })
unfolding found_of
found_reads from values reply at is = rw (at, is) refl

none_found : (n : ℕ) (values : Row) (rows : List Row) (keeping : KeptByNumber) → column values 2 ≡ Null → IsFoundIn n rows keeping
    → IsFoundIn n (values ∷ rows) keeping
none_found n values rows keeping null more =
    let test : has_number n values ≡ false = ap (λ v. is_true (binary (Compare Eq Binary) v (Int (pos n)))) null ∙ no_number (Int (pos n)) in
    ap (λ b. first_found (map found_columns (cond b (values ∷ filter (has_number n) rows) (filter (has_number n) rows)))) test ∙ more

one_found : (n from : ℕ) (values : Row) (rows : List Row) (e : Entry) (es : List Entry) → column values 0 ≡ Int (pos from) → HasParts values e
    → IsFoundIn n rows (asked_from (from + 1) es) → IsFoundIn n (values ∷ rows) (asked_from from (e ∷ es))
one_found n from values rows (Asked number request reply delta) es at h more =
    let test : has_number n values ≡ eqb number n = ap (λ v. is_true (binary (Compare Eq Binary) v (Int (pos n)))) h.0 ∙ same_number number n in
    let keeping = asked_from (from + 1) es in
    let kept : Kept = record { place = from; request = request; reply = reply } in
    let step : (b : Bool) → first_found (map found_columns (cond b (values ∷ filter (has_number n) rows) (filter (has_number n) rows))) ≡ option_map Some
    (option_map found_kept (cond b (Some kept) (kept_under keeping n))) = λ b.
    elim b as (λ b. first_found (map found_columns (cond b (values ∷ filter (has_number n) rows) (filter (has_number n) rows))) ≡ option_map Some
    (option_map found_kept (cond b (Some kept) (kept_under keeping n)))) [
      | true ↦ ap Some (found_reads from values reply at h.3)
      | false ↦ more
    ] in
    ap (λ b. first_found (map found_columns (cond b (values ∷ filter (has_number n) rows) (filter (has_number n) rows)))) test ∙ step (eqb number n)
one_found n from values rows (Joined peer delta) es at h more = none_found n values rows (asked_from (from + 1) es) h.0 more
one_found n from values rows (Grown sites) es at h more = none_found n values rows (asked_from (from + 1) es) h.0 more

entry_here : (o : Option Entry) → IsSome o → (e : Entry) × (o ≡ Some e)
entry_here None some = absurd (let e = some in cc)
entry_here (Some e) some = (e, refl)

pub is_found : (n from : ℕ) (rows : List Row) → AreWhole from rows → IsFoundIn n rows (asked_from from (filter_map entry_of rows))
is_found n from [] whole = refl
is_found n from (values ∷ rows) whole =
    let e = entry_here (entry_of values) whole.0.reads in
    rw e.1 (one_found n from values rows e.0 (filter_map entry_of rows) whole.0.placed (parts values e.0 e.1) (is_found n (from + 1) rows whole.1))

pub found_out : {A : Type 0} (a b : Option A) → option_map Some a ≡ option_map Some b → a ≡ b
found_out None None e = refl
found_out None (Some b) e = absurd cc
found_out (Some a) None e = absurd cc
found_out (Some a) (Some b) e = same_Some (Some a) (Some b) e

pub reads_all : {A : Type 0} (a : Option A) → option_map Some a ≡ Some None → ⊥
reads_all None e = cc
reads_all (Some a) e = cc

-- ---- looking up an event

abbrev AreListedIn : List ℕ → List Row → KeptByNumber → Type 0
AreListedIn name rows keeping = map listed_of (map listed_columns (filter (has_event name) rows)) ≡ map Some
    (map listing (filter (λ a. names_event name a.1.request) keeping))

listed_reads : (from number : ℕ) (values : Row) (request : Request) (reply : Reply) → column values 0 ≡ Int (pos from)
    → positive_in (column values 2) ≡ Some number → request_in (column values 3) (column values 4) (column values 5) (column values 6) ≡ Some request
    → reply_in (column values 7) (column values 8) ≡ Some reply
    → listed_of (listed_columns values) ≡ Some (record { place = from; number = number; request = request; reply = reply })
unfolding listed_of
listed_reads from number values request reply at n q r = rw (at, n, q, r) refl

none_listed : (name : List ℕ) (values : Row) (rows : List Row) (keeping : KeptByNumber) → column values 4 ≡ Null → AreListedIn name rows keeping
    → AreListedIn name (values ∷ rows) keeping
none_listed name values rows keeping null more =
    let test : has_event name values ≡ false = ap (λ v. is_true (binary (Compare Eq Binary) v (Text name))) null ∙ no_number (Text name) in
    ap (λ b. map listed_of (map listed_columns (cond b (values ∷ filter (has_event name) rows) (filter (has_event name) rows)))) test ∙ more

one_listed : (name : List ℕ) (from : ℕ) (values : Row) (rows : List Row) (e : Entry) (es : List Entry) → column values 0 ≡ Int (pos from)
    → HasParts values e → AreListedIn name rows (asked_from (from + 1) es) → AreListedIn name (values ∷ rows) (asked_from from (e ∷ es))
one_listed name from values rows (Asked number request reply delta) es at h more =
    let event = event_is (column values 3) (column values 4) (column values 5) (column values 6) request h.2 in
    let test : has_event name values ≡ names_event name request = ap (λ v. is_true (binary (Compare Eq Binary) v (Text name))) event ∙ names name request in
    let keeping = filter (λ (a : ℕ × Kept). names_event name a.1.request) (asked_from (from + 1) es) in
    let kept : ℕ × Kept = (number, record { place = from; request = request; reply = reply }) in
    let step : (b : Bool) → map listed_of (map listed_columns (cond b (values ∷ filter (has_event name) rows) (filter (has_event name) rows))) ≡ map Some
    (map listing (cond b (kept ∷ keeping) keeping)) = λ b.
    elim b as (λ b. map listed_of (map listed_columns (cond b (values ∷ filter (has_event name) rows) (filter (has_event name) rows))) ≡ map Some
    (map listing (cond b (kept ∷ keeping) keeping))) [
      | true ↦ rw (listed_reads from number values request reply at h.1 h.2 h.3) (ap (λ l. Some (listing kept) ∷ l) more)
      | false ↦ more
    ] in
    ap (λ b. map listed_of (map listed_columns (cond b (values ∷ filter (has_event name) rows) (filter (has_event name) rows)))) test
    ∙ step (names_event name request)
one_listed name from values rows (Joined peer delta) es at h more = none_listed name values rows (asked_from (from + 1) es) h.1 more
one_listed name from values rows (Grown sites) es at h more = none_listed name values rows (asked_from (from + 1) es) h.1 more

pub are_listed : (name : List ℕ) (from : ℕ) (rows : List Row) → AreWhole from rows → AreListedIn name rows (asked_from from (filter_map entry_of rows))
are_listed name from [] whole = refl
are_listed name from (values ∷ rows) whole =
    let e = entry_here (entry_of values) whole.0.reads in
    rw e.1 (one_listed name from values rows e.0 (filter_map entry_of rows) whole.0.placed (parts values e.0 e.1) (are_listed name (from + 1) rows whole.1))

pub listed_out : {A : Type 0} (a b : List A) → map Some a ≡ map Some b → a ≡ b
listed_out [] [] e = refl
listed_out [] (y ∷ ys) e = absurd cc
listed_out (x ∷ xs) [] e = absurd cc
listed_out (x ∷ xs) (y ∷ ys) e =
    let head : Some x ≡ Some y = cc in
    let tail : map Some xs ≡ map Some ys = cc in
    let first = same_Some x y head in
    rw first (ap (λ l. y ∷ l) (listed_out xs ys tail))

-- a row that is not read is among the rows
unread : (rows : List Row) (i : ℕ) (values : Row) → slice_get rows i ≡ Some values → listed_of values ≡ None → (all : List Listed)
    → map Some all ≡ map listed_of rows → ⊥
unread [] i values at none all e = cc
unread (r ∷ rows) i values at none [] e = cc
unread (r ∷ rows) zero values at none (x ∷ all) e =
    let head : Some x ≡ listed_of r = cc in
    let same : r ≡ values = cc in
    let is : Some x ≡ None = head ∙ ap listed_of same ∙ none in
    cc
unread (r ∷ rows) (suc i) values at none (x ∷ all) e =
    let tail : map Some all ≡ map listed_of rows = cc in
    unread rows i values at none all tail

-- ---- what the calls answer

module _ (rows whole : List Row) (h : List Entry) (number : ℕ) (are : AreWhole 0 whole) (history : h ≡ filter_map entry_of whole)
    (shows : rows ≡ map found_columns (filter (has_number number) whole)) where
  first_is : first_found rows ≡ option_map Some (found_in h number)
  first_is = rw (shows, history) (is_found number 0 whole are)

  pub first_kept : (r : Result (Option Found) FindFault) → IfOk r (λ found. option_map Some found ≡ first_found rows)
      → IfOk r (λ found. found ≡ found_in h number)
  first_kept (Ok found) e = found_out found (found_in h number) (e ∙ first_is)
  first_kept (Err f) e = tt

  -- each row reads, so that nothing is at fault here
  pub first_fault : (Is : FindFault → Type 0) (r : Result (Option Found) FindFault) → OnErr r (first_found rows ≡ Some None) → IfErr r Is
  first_fault Is (Ok found) e = tt
  first_fault Is (Err g) e = absurd (reads_all (found_in h number) (sym first_is ∙ e))

module _ (rows whole : List Row) (h : List Entry) (name : List ℕ) (are : AreWhole 0 whole) (history : h ≡ filter_map entry_of whole)
    (shows : rows ≡ map listed_columns (filter (has_event name) whole)) where
  all_are : map listed_of rows ≡ map Some (listed_in h name)
  all_are = rw (shows, history) (are_listed name 0 whole are)

  pub all_listed : {X : Type 0} (r : Result X FindFault) (items : X → List Listed) → IfOk r (λ all. map Some (items all) ≡ map listed_of rows)
      → IfOk r (λ all. items all ≡ listed_in h name)
  all_listed (Ok all) items e = listed_out (items all) (listed_in h name) (e ∙ all_are)
  all_listed (Err f) items e = tt

  -- memory is wanted only where something is listed
  some_listed : ReadsSome rows → 0 < length (listed_in h name)
  some_listed some =
      let low = slice_get_within rows some.at some.values some.here in
      let long = ap length all_are in
      omega (arith, low, long, length-map rows listed_of, length-map (listed_in h name) (λ (x : Listed). Some x))

  pub all_fault : {X : Type 0} (Is : FindFault → Type 0) (r : Result X FindFault) → (0 < length (listed_in h name) → Is fault.Memory)
      → IfErr r (λ f. ((f ≡ fault.Memory) × ReadsSome rows) ⊎ IsFirstUnread rows f) → IfErr r Is
  all_fault Is (Ok all) m e = tt
  all_fault Is (Err f) m (inl memory) = subst Is (sym memory.0) (m (some_listed memory.1))
  all_fault Is (Err f) m (inr first) = absurd (unread rows first.at first.values first.here first.unread (listed_in h name) (sym all_are))

-- a fault of the query is one of the list
pub of_query : (old new : Store) (listed : List Listed) (f : FindFault) → IsQueryFault old new f → IsListFault old new listed f
of_query old new listed fault.Shut h = h
of_query old new listed (fault.Damaged place) h = h
of_query old new listed fault.Memory h = inl h
of_query old new listed fault.Disk h = h
