-- What an open finds.
use Rattle.std.proofs.Common.{◌≡◌, ◌⊎◌, inl, inr, ℕ, suc, ◌+◌, ◌-◌, ◌<◌, ◌≤◌, pos, false, List, [], ◌∷◌, ◌++◌, length, take, drop, get_or, slice_get, IsTrue, IsSome, Option, Some, None, refl, sym, ap, subst, ◌∙◌, arith, Result, Ok, Err, OnOk, IfErr, IsErrAnd}
use Rattle.std.specs.List.{filter_map, cons_option}
use Rattle.std.proofs.lemmas.List.{take_more, length-take-le, length-drop}
use Rattle.std.proofs.lemmas.List.Sums.{prefix_len-le-length}
use Rattle.std.proofs.Math.Seq.{take-length}
use Rattle.std.proofs.lemmas.Option.{same_Some, slice_get_read, slice_get_within}
use Rattle.sqlite.specs.Order.{Row, column}
use Rattle.sqlite.specs.declared.types.Value.TheVariants.{Int}
use Rattle.sqlite_trees.specs.declared.error.StoreError.TheVariants as StoreError
use Rattle.sqlite.specs.Tree.{Trees}
use Rattle.sqlite.specs.Effect.{Database, IsDatabase}
use Rattle.sqlite.specs.State.{State, IsLive, IsRolledBack, IsUnchanged}
use Rattle.book_core.specs.declared.entry.Entry.{Entry}
use Rattle.sql_records.specs.declared.fault.OpenFault.{OpenFault}
use Rattle.sql_records.specs.declared.fault.OpenFault.TheVariants.{NotOurs, OtherSchema, Damaged, Memory, Disk}
use Rattle.history_keeper.specs.Keeping.{LeavesOnly, LeavesWithOrWithout, Keeps}
use Rattle.history_keeper.specs.declared.meta.Meta.{Meta}
use Rattle.sql_records.specs.declared.version.Version.{Version}
use Rattle.sql_records.specs.Layout.{IsOurs, HasGoodMeta, HasMeta, HasMetaAs, AreNumbers}
use Rattle.sql_records.specs.Rows.{entry_of, is_below, rows_below, rows_from_0, AreInOrder, AreWhole, IsEntryIn, AreWholeIn, IsFirstDamaged, IsDamagedAt, IsOfVersion, WantsForEntry}
use Rattle.sql_records.specs.Held.{IsAtRest, IsSiteIn, MayLeaveIn, LeavesSite, history_in, opened_in, rows_in}
use Rattle.sql_records.specs.Opening.{AreRowsFault, IsMetaFault, IsOurFault, IsStoreFault, IsWantedAt}
use Rattle.sql_records.specs.Faults.{HasDiskCause, IsUndoneForMemory}
use Rattle.sql_records.proofs.RowLemmas.{whole_next, entries_next, read_from}
use Rattle.sql_records.proofs.QueryLemmas.{whole_order}

-- ---- rows that are read in turn

pub whole_more : (rows : List Row) (i : ℕ) (values : Row) (entry : Entry) → i < length rows → values ≡ get_or rows i values → AreWhole 0 (take i rows)
    → column values 0 ≡ Int (pos i) → entry_of values ≡ Some entry
    → AreWhole 0 (take (i + 1) rows)
whole_more rows i values entry low at h is reads =
    rw (take_more rows i values low, ← at) (whole_next (take i rows) values entry 0 i h (omega (arith, length-take-le i rows (omega arith))) is reads)

pub entries_more : (rows : List Row) (i : ℕ) (values : Row) (entry : Entry) → i < length rows → values ≡ get_or rows i values → entry_of values ≡ Some entry
    → filter_map entry_of (take (i + 1) rows) ≡ filter_map entry_of (take i rows) ++ entry ∷ []
entries_more rows i values entry low at reads = rw (take_more rows i values low, ← at) (entries_next (take i rows) values entry reads)

-- want of memory for a row, or the first row that is not the entry of its place
abbrev pub StopsReading : Version → List Row → OpenFault → Type 0
StopsReading read rows fault = ((fault ≡ Memory) × ((place : ℕ) × IsWantedAt read place rows))
    ⊎ ((place : ℕ) × (fault ≡ Damaged place) × IsFirstDamaged read place rows)

-- memory is wanted for the row at a place, the rows before it being whole
pub wanted_at : (read : Version) (rows : List Row) (i : ℕ) (values : Row) → i < length rows → values ≡ get_or rows i values
    → AreWholeIn read 0 (take i rows) → column values 0 ≡ Int (pos i) → IsOfVersion read values
    → IsSome (entry_of values) ⊎ WantsForEntry values → IsWantedAt read i rows
wanted_at read rows i values low at whole placed version wants = record
    { before = whole; values = values; here = slice_get_read rows (length rows) i values refl low at; placed = placed; version = version; wants = wants }

-- the fault of that row
pub fault_at : (read : Version) (rows : List Row) (i : ℕ) (values : Row) (fault : OpenFault) → i < length rows → values ≡ get_or rows i values
    → AreWholeIn read 0 (take i rows) → (fault ≡ Memory) ⊎ (fault ≡ Damaged i)
    → (fault ≡ Damaged i → ¬ IsEntryIn read i values) → (fault ≡ Memory → (column values 0 ≡ Int (pos i)) × IsOfVersion read values × WantsForEntry values)
    → StopsReading read rows fault
fault_at read rows i values fault low at whole (inl is) other wanted = let w = wanted is in inl
    (is, (i, wanted_at read rows i values low at whole w.0 w.1 (inr w.2)))
fault_at read rows i values fault low at whole (inr is) other wanted = inr
    (i, is, (whole, (values, slice_get_read rows (length rows) i values refl low at, other is)))

-- ---- rows in front of the place 0

-- the rows behind those in front of the place 0
pub part_from_0 : (rows : List Row) (n : ℕ) → n ≡ rows_below rows → take (length rows - n) (drop n rows) ≡ rows_from_0 rows
part_from_0 rows n is = ap (λ (k : ℕ). take k (drop n rows)) (sym (length-drop n rows)) ∙ take-length (drop n rows) ∙ ap (λ (k : ℕ). drop k rows) is

-- the first damaged row from the place 0 on
pub damaged_above : (read : Version) (rows : List Row) (fault : OpenFault) → StopsReading read (rows_from_0 rows) fault → AreRowsFault read rows fault
damaged_above read rows fault (inl (is, wanted)) = subst (AreRowsFault read rows) (sym is) wanted
damaged_above read rows fault (inr (place, is, (whole, (values, at, other)))) =
    let low = slice_get_within (rows_from_0 rows) place values at in
    let long = length-drop (rows_below rows) rows in
    let here : (v : Row) → slice_get (rows_from_0 rows) place ≡ Some v
    → ¬ IsEntryIn read place v = λ v there. subst (λ (r : Row). ¬ IsEntryIn read place r) (same_Some values v (sym at ∙ there)) other in
    subst (AreRowsFault read rows) (sym is) (record { low = omega (arith, low, long); before = whole; reached = omega (arith, low); missing = here })

-- all rows from the place 0 on are whole, and some stand in front of it
pub damaged_below : (read : Version) (rows : List Row) → 0 < rows_below rows → AreWholeIn read 0 (rows_from_0 rows)
    → IsDamagedAt read (length (rows_from_0 rows)) rows
damaged_below read rows some whole =
    let long = length-drop (rows_below rows) rows in
    let few = prefix_len-le-length (λ (r : Row). is_below (column r 0)) rows in
    let own = rows_from_0 rows in
    record {
      low = omega (arith, some, long, few);
      before = subst (AreWholeIn read 0) (sym (take-length own)) whole;
      reached = omega arith;
      missing = λ v there. absurd (let low = slice_get_within own (length own) v there in omega (arith, low));
    }

one_more : (o : Option Entry) (entries : List Entry) (n : ℕ) → IsSome o → length entries ≡ n → length (cons_option o entries) ≡ suc n
one_more None entries n is long = absurd (let e = is in cc)
one_more (Some entry) entries n is long = ap suc long

-- each whole row is an entry
pub length_whole : (rows : List Row) (from : ℕ) → AreWhole from rows → length (filter_map entry_of rows) ≡ length rows
length_whole [] from h = refl
length_whole (r ∷ rows) from h = one_more (entry_of r) (filter_map entry_of rows) (length rows) h.0.reads (length_whole rows (from + 1) h.1)

-- an error that is handed on
pub if_err : {T E : Type 0} (r : Result T E) (P Q : E → Type 0) → IsErrAnd r Q → ((e : E) → Q e → P e) → IfErr r P
if_err (Ok x) P Q h k = tt
if_err (Err e) P Q h k = k e h

pub on_ok : {T E : Type 0} (r : Result T E) (P : Type 0) → P → OnOk r P
on_ok (Ok x) P h = h
on_ok (Err e) P h = tt

-- ---- what was read, and what is then so

pub unchanged_twice : (first mid last : State) → IsUnchanged first mid → IsUnchanged mid last → IsUnchanged first last
unchanged_twice first mid last one two = (
  record {
    was_open = one.0.was_open;
    is_open = two.0.is_open;
    now_is = two.0.now_is ∙ one.0.now_is;
    committed_is = two.0.committed_is ∙ one.0.committed_is;
    mode = two.0.mode ∙ one.0.mode;
  },
  record { changes = two.1.changes ∙ one.1.changes; last_rowid = two.1.last_rowid ∙ one.1.last_rowid },
  two.2 ∙ one.2,
)

module _ (read : Version) (first mid last : State) (rows : List Row) (one : IsUnchanged first mid) (two : IsUnchanged mid last)
    (order : AreInOrder (mid.now.trees 1) rows) (whole : AreWholeIn read 0 rows) where
  shown_are : rows ≡ rows_in first.now.trees
  shown_are = whole_order (mid.now.trees 1) rows order whole.0 ∙ ap (λ (d : Database). rows_in d.trees) one.0.now_is

  pub read_whole : AreWholeIn read 0 (rows_in first.now.trees)
  read_whole = subst (AreWholeIn read 0) shown_are whole

  pub read_history : filter_map entry_of rows ≡ history_in first.now.trees
  read_history = ap (filter_map entry_of) shown_are

-- records that were read are at rest
pub opened : (first last : State) (count : ℕ) → IsUnchanged first last → first.in_transaction ≡ false
    → (IsTrue first.is_open → first.now ≡ first.committed) → IsLive first → IsOurs first.now.schema
    → AreWhole 0 (rows_in first.now.trees) → count ≡ length (history_in first.now.trees) → IsAtRest last count
opened first last count same autocommit settled live ours whole is =
    let now = sym same.0.now_is in
    record {
      is_open = same.0.is_open;
      autocommit = same.0.mode ∙ autocommit;
      settled = same.0.committed_is ∙ sym (settled same.0.was_open) ∙ now;
      schema = subst (λ (d : Database). IsOurs d.schema) now ours;
      sound = subst IsDatabase now (live same.0.was_open).0;
      whole = subst (λ (d : Database). AreWhole 0 (rows_in d.trees)) now whole;
      counted = ap (λ (d : Database). length (rows_in d.trees)) same.0.now_is ∙ sym (is ∙ length_whole (rows_in first.now.trees) 0 whole);
    }

-- what a stop leaves of records at rest, by the two laws of the store
module _ (s : State) (count : ℕ) (rest : IsAtRest s count) (only : (db : Trees) → IsTrue s.is_open → s.may_leave db → db ≡ s.committed.trees) where
  left_now : (db : Trees) → s.may_leave db → db ≡ s.now.trees
  left_now db left = only db rest.is_open left ∙ ap (λ (d : Database). d.trees) rest.settled

  reads_now : opened_in s.now.trees ≡ Some (history_in s.now.trees)
  reads_now = read_from 0 (rows_in s.now.trees) rest.whole

  -- the history and nothing else
  pub leaves_only : (IsTrue s.is_open → s.may_leave s.committed.trees) → LeavesOnly (history_in s.now.trees) (MayLeaveIn s)
  leaves_only stays =
      let last : opened_in s.committed.trees ≡ Some (history_in s.now.trees) = ap (λ (d : Database). opened_in d.trees) rest.settled ∙ reads_now in
      record {
        left = (s.committed.trees, stays rest.is_open, sym last);
        alone = λ other left. left.2 ∙ ap opened_in (left_now left.0 left.1) ∙ reads_now;
      }

  -- so what fails before anything is written leaves the list without the entry
  pub leaves_still : (entry : Entry) → LeavesWithOrWithout (history_in s.now.trees) entry (MayLeaveIn s)
  leaves_still entry left h = inl (h.2 ∙ ap opened_in (left_now h.0 h.1) ∙ reads_now)

  -- and the numbers that are there
  pub leaves_site : (meta : Meta) → AreNumbers meta → HasMeta meta s.now.trees → LeavesSite s meta
  leaves_site meta within now db left = subst (IsSiteIn meta) (sym (left_now db left))
      (record { schema = s.now.schema; ours = rest.schema; sound = rest.sound; numbers = now; within = within })

-- ---- what is at fault in a later query is at fault from the first on

pub cause_before : (first mid last : State) → IsUnchanged first mid → first.faults ≤ mid.faults → mid.step_limit ≡ first.step_limit → HasDiskCause mid last
    → HasDiskCause first last
cause_before first mid last same low limit (inl more) = inl (omega (arith, more, low))
cause_before first mid last same low limit (inr (inl closed)) = absurd (let e = sym same.0.is_open ∙ closed in cc)
cause_before first mid last same low limit (inr (inr steps)) = inr (inr (subst IsSome limit steps))

undone_before : (first mid last : State) → IsUnchanged first mid → IsRolledBack mid last → IsRolledBack first last
undone_before first mid last same back = record {
  was_open = λ on. same.0.was_open;
  undone = λ on. ((back.undone on).0 ∙ same.0.committed_is, (back.undone on).1 ∙ same.0.committed_is);
  autocommit = back.autocommit;
  unmarked = back.unmarked;
  counts = record { changes = back.counts.changes ∙ same.1.changes; last_rowid = back.counts.last_rowid ∙ same.1.last_rowid };
}

pub memory_before : (first mid last : State) → IsUnchanged first mid → IsUndoneForMemory mid last → IsUndoneForMemory first last
memory_before first mid last same h = (StoreError.OutOfMemory, refl, tt, undone_before first mid last same h.3, λ kind is yes. absurd cc)

-- a fault of the numbers
pub numbers_fault : (read : Version) (first last : State) (fault : OpenFault) → IsMetaFault read first last fault → IsOurFault read first last fault
numbers_fault read first last NotOurs h = h
numbers_fault read first last (OtherSchema version) h = h
numbers_fault read first last (Damaged place) h = absurd h
numbers_fault read first last Memory h = inl h
numbers_fault read first last Disk h = h

-- a fault of the rows, which were shown
pub entries_fault : (read : Version) (first mid last : State) (rows : List Row) → IsUnchanged first mid → IsUnchanged mid last
    → HasGoodMeta read first.now.trees → AreInOrder (mid.now.trees 1) rows → (fault : OpenFault) → AreRowsFault read rows fault
    → IsOurFault read first last fault
entries_fault read first mid last rows one two good order fault h =
    let now = subst (λ (d : Database). AreInOrder (d.trees 1) rows) one.0.now_is order in
    by_fault fault now h
  where
    by_fault : (f : OpenFault) → AreInOrder (first.now.trees 1) rows → AreRowsFault read rows f → IsOurFault read first last f
    by_fault NotOurs now h = absurd h
    by_fault (OtherSchema version) now h = absurd h
    by_fault (Damaged place) now h = (good, (rows, now, h))
    by_fault Memory now h = inr (unchanged_twice first mid last one two, (good, (rows, now, h)))
    by_fault Disk now h = absurd h

pub rows_fault : (read : Version) (first mid last : State) → IsUnchanged first mid → first.faults ≤ mid.faults → mid.step_limit ≡ first.step_limit
    → (fault : OpenFault) → IsStoreFault mid last fault → IsOurFault read first last fault
rows_fault read first mid last same low limit NotOurs h = absurd h
rows_fault read first mid last same low limit (OtherSchema version) h = absurd h
rows_fault read first mid last same low limit (Damaged place) h = absurd h
rows_fault read first mid last same low limit Memory h = inl (memory_before first mid last same h)
rows_fault read first mid last same low limit Disk h = cause_before first mid last same low limit h

-- at rest the count is that of the entries
pub rest_count : (s : State) (count : ℕ) → IsAtRest s count → length (history_in s.now.trees) ≡ count
rest_count s count rest = length_whole (rows_in s.now.trees) 0 rest.whole ∙ rest.counted

pub keeps : (list kept : List Entry) (may_leave : Option (List Entry) → Type 0) → kept ≡ list → LeavesOnly kept may_leave → Keeps list kept may_leave
keeps list kept may_leave is only = record { is = is; leaves = subst (λ l. LeavesOnly l may_leave) is only }

abbrev numbers : ℕ → ℕ → ℕ → Meta
numbers me sites limit = record { me = me; sites = sites; limit = limit }

-- a database has the numbers of one site
pub one_meta : (read : Version) (a b : Meta) (db : Trees) → HasMetaAs read a db → HasMetaAs read b db → a ≡ b
one_meta read a b db first second =
    let rows = sym first ∙ second in
    let me : a.me ≡ b.me = cc in
    let sites : a.sites ≡ b.sites = cc in
    let limit : a.limit ≡ b.limit = cc in
    ap (λ m. numbers m a.sites a.limit) me ∙ ap (λ s. numbers b.me s a.limit) sites ∙ ap (numbers b.me b.sites) limit
