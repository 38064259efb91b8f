-- What an open finds of a database that a stop left.
use Rattle.std.proofs.Common.{◌≡◌, inl, inr, Ok, Err, ℕ, zero, suc, ◌+◌, ℤ, pos, List, [], ◌∷◌, map, Option, Some, None, IsSome, slice_get, drop, length, ◌<◌, ◌∙◌, refl, sym, ap, subst, arith}
use Rattle.sqlite_catalog.specs.Listing.{IsSound}
use Rattle.sqlite_catalog.proofs.ReadLemmas.{lists_once}
use Rattle.sqlite.specs.Order.{Row, column}
use Rattle.sqlite.specs.Tree.{Trees}
use Rattle.sqlite.specs.Held.{state}
use Rattle.sqlite.specs.State.{State}
use Rattle.sqlite.specs.Store.{Ghosts}
use Rattle.history_keeper.specs.declared.meta.Meta.{Meta}
use Rattle.sql_records.specs.declared.version.Version.TheVariants.{Second}
use Rattle.sql_records.specs.declared.fault.OpenFault.{OpenFault}
use Rattle.sql_records.specs.declared.fault.OpenFault.TheVariants.{NotOurs, OtherSchema, Damaged, Memory, Disk}
use Rattle.sql_records.specs.Layout.{IsOurs, HasMeta, HasOtherSchema}
use Rattle.sql_records.specs.Rows.{shown, in_order, rows_below, rows_from_0, AreInOrder, AreWhole, IsEntryAt, IsDamagedAt}
use Rattle.sql_records.specs.Held.{IsSiteIn, opened_in, rows_in}
use Rattle.sql_records.specs.Opening.{IsOpenFault, IsOurFault, IsAfterStop}
use Rattle.sql_records.specs.Restarting.{CrashesAreSurvived}
use Rattle.sql_records.proofs.OpeningLemmas.{one_meta}
use Rattle.sql_records.proofs.MetaLemmas.{same_row, same_int}
use Rattle.sql_records.proofs.RowLemmas.{whole_from}
use Rattle.sql_records.proofs.QueryLemmas.{order_whole}

no_other : (meta : Meta) (version : ℤ) (db : Trees) → HasMeta meta db → HasOtherSchema Second version db → ⊥
no_other meta version db has other =
    let same = same_row _ _ _ other.alone has in
    other.differs (same_int version (pos 2) (column other.values 2) other.version_is (ap (λ (x : Row). column x 2) same))

whole_at : (from i : ℕ) (rows : List Row) (values : Row) → AreWhole from rows → slice_get rows i ≡ Some values → IsEntryAt (from + i) values
whole_at from i [] values whole at = absurd cc
whole_at from zero (r ∷ rows) values whole at = let same : r ≡ values = cc in let here : from ≡ from + 0 = omega arith in subst (λ k. IsEntryAt k values)
    here (subst (IsEntryAt from) same whole.0)
whole_at from (suc i) (r ∷ rows) values whole at =
    let here : (from + 1) + i ≡ from + suc i = omega arith in
    subst (λ k. IsEntryAt k values) here (whole_at (from + 1) i rows values whole.1 at)

-- rows that are whole have no place below 0
none_below : (from : ℕ) (rows : List Row) → AreWhole from rows → rows_below rows ≡ 0
none_below from [] whole = refl
none_below from (r ∷ rows) whole = rw (whole.0.placed) refl

has_value : (rows : List Row) (i : ℕ) → i < length rows → (values : Row) × (slice_get rows i ≡ Some values)
has_value [] i low = absurd (omega (arith, low))
has_value (r ∷ rows) zero low = (r, refl)
has_value (r ∷ rows) (suc i) low = has_value rows i (omega (arith, low))

no_damage : (place : ℕ) (table rows : List Row) → AreInOrder table rows → AreWhole 0 (in_order (map shown table)) → IsDamagedAt Second place rows → ⊥
no_damage place table rows order whole damaged =
    let all = subst (AreWhole 0) (sym (order_whole table rows order whole)) whole in
    let same : rows_from_0 rows ≡ rows = ap (λ (n : ℕ). drop n rows) (none_below 0 rows all) in
    let value = has_value rows place damaged.low in
    let at : 0 + place ≡ place = omega arith in
    let here : slice_get (rows_from_0 rows) place ≡ Some value.0 = ap (λ (l : List Row). slice_get l place) same ∙ value.1 in
    damaged.missing value.0 here (subst (λ k. IsEntryAt k value.0) at (whole_at 0 place rows value.0 all value.1), tt)

some : {A : Type 0} (o : Option A) → IsSome o → (x : A) × (o ≡ Some x)
some None h = absurd (let e = h in cc)
some (Some x) h = (x, refl)

module _ (old new : State) (meta : Meta) (site : IsSiteIn meta old.now.trees) (sound : IsSound old.now.schema old.now.trees)
    (opens : IsSome (opened_in old.now.trees)) where
  not_at_fault : (fault : OpenFault) → IsOurFault Second old new fault → IsAfterStop (Some fault)
  not_at_fault NotOurs h = absurd (h.no_numbers meta site.within site.numbers)
  not_at_fault (OtherSchema version) h = absurd (no_other meta version old.now.trees site.numbers h)
  not_at_fault (Damaged place) h =
      let list = some (opened_in old.now.trees) opens in
      let whole = whole_from 0 (rows_in old.now.trees) list.0 list.1 in
      absurd (no_damage place (old.now.trees 1) h.1.0 h.1.1 whole h.1.2)
  not_at_fault Memory h = tt
  not_at_fault Disk h = tt

  pub after_stop : (fault : OpenFault) → IsOpenFault old new fault → IsAfterStop (Some fault)
  after_stop fault (inl foreign) =
      let same = lists_once _ site.schema old.now.schema site.sound.lists sound.lists in
      absurd (foreign.0 (subst IsOurs same site.ours))
  after_stop fault (inr ours) = not_at_fault fault ours.1

-- an open of what a crash may leave
module _ {S : Type 0} (g : Ghosts S) where
  pub crashes_are_survived : CrashesAreSurvived g
  crashes_are_survived crashed again after (Ok found) h =
      let db = (state g again).now.trees in
      record {
        found = record { db = db; left = h.left; site = h.opens.0; reads = h.opens.1 };
        numbers = λ meta site. one_meta Second found.0 meta db h.opens.0.numbers (site db h.left).numbers;
        entries = λ list only. let same : Some found.1 ≡ Some list = only.alone (Some found.1) (db, h.left, sym h.opens.1) in cc;
        fault = λ meta site reads. tt;
      }
  crashes_are_survived crashed again after (Err fault) h =
      let db = (state g again).now.trees in
      record {
        found = tt;
        numbers = λ meta site. tt;
        entries = λ list only. tt;
        fault = λ meta site reads. after_stop (state g again) (state g after) meta (site db h.left) h.sound (reads _ (db, h.left, refl)) fault h.opens;
      }
