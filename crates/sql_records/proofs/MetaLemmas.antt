-- What the row of `meta` says.
use Rattle.std.proofs.Common.{◌≡◌, ◌≢◌, inl, inr, ℕ, ◌≤◌, ℤ, pos, negsuc, cond, ◌&&◌, leb, ltb, List, [], ◌∷◌, map, length, Option, Some, None, Result, Ok, Err, IfOk, IfErr, refl, sym, ap, subst, ◌∙◌, arith, IsPermutation}
use Rattle.std.proofs.lemmas.Bool.{and_parts, leb-true, ltb-true, lt-ltb, cond-true}
use Rattle.std.proofs.lemmas.Option.{cond_some, none-some}
use Rattle.std.proofs.lemmas.List.Sorted.{length_permutation, IsPermutation-sym}
use Rattle.sqlite.proofs.Callers.{one_permutation}
use Rattle.sqlite.specs.declared.types.Value.{Value}
use Rattle.sqlite.specs.declared.types.Value.TheVariants.{Null, Int, Real, Text, Blob}
use Rattle.sqlite.specs.Order.{Row, column}
use Rattle.sqlite.specs.Tree.{Trees}
use Rattle.sqlite.specs.State.{State}
use Rattle.rights_lattice.specs.Limits.{greatest_site, most_sites}
use Rattle.book_core.specs.Limits.{greatest_limit}
use Rattle.plain_words.specs.Words.{◌>>=◌}
use Rattle.plain_words.proofs.WordLaws.{bind_some}
use Rattle.history_keeper.specs.declared.meta.Meta.{Meta}
use Rattle.sql_records.specs.declared.version.Version.{Version}
use Rattle.sql_records.specs.declared.fault.OpenFault.{OpenFault}
use Rattle.sql_records.specs.declared.fault.OpenFault.TheVariants.{NotOurs, OtherSchema, Damaged, Memory, Disk}
use Rattle.sql_records.specs.Rows.{number_within, site_in}
use Rattle.sql_records.specs.Layout.{version_number, meta_as, meta_shown, meta_rows, HasMetaAs, HasOtherSchema, AreNumbers, HasNoMeta}
use Rattle.sql_records.proofs.EntryBack.{within_back}
use Rattle.sql_records.specs.Opening.{int_in, meta_in, IsRowOf, IsForeignRow, IsRowFault, IsMetaFault}

-- ---- numbers within their limits

within_found : (low high n : ℕ) (v : Value) → number_within low high v ≡ Some n → (v ≡ Int (pos n)) × (low ≤ n) × (n ≤ high)
within_found low high n (Int (pos m)) e =
    let t = cond_some (leb low m && leb m high) m n e in
    let parts = and_parts (leb low m) (leb m high) t.0 in
    let same : m ≡ n = t.1 in
    (ap (λ (k : ℕ). Int (pos k)) same, omega (arith, leb-true low m parts.0), omega (arith, leb-true m high parts.1))
within_found low high n (Int (negsuc m)) e = absurd cc
within_found low high n Null e = absurd cc
within_found low high n (Real x) e = absurd cc
within_found low high n (Text t) e = absurd cc
within_found low high n (Blob b) e = absurd cc

-- the columns of the numbers
record HasNumbers (meta : Meta) (values : Row) : Type 0 where
  me_is : column values 3 ≡ Int (pos meta.me)
  sites_are : column values 4 ≡ Int (pos meta.sites)
  limit_is : column values 5 ≡ Int (pos meta.limit)

numbers_found : (meta : Meta) (values : Row) → meta_in values ≡ Some meta → HasNumbers meta values × AreNumbers meta
unfolding meta_in
numbers_found meta values e =
    let rest = λ (me sites limit : ℕ). cond (ltb me sites) (Some (record { me = me; sites = sites; limit = limit })) None in
    let a = bind_some (site_in (column values 3))
    (λ me. number_within 1 most_sites (column values 4) >>= λ sites. number_within 1 greatest_limit (column values 5) >>= rest me sites) meta e in
    let b = bind_some (number_within 1 most_sites (column values 4)) (λ sites. number_within 1 greatest_limit (column values 5) >>= rest a.0 sites) meta a.2 in
    let c = bind_some (number_within 1 greatest_limit (column values 5)) (rest a.0 b.0) meta b.2 in
    let found : Meta = record { me = a.0; sites = b.0; limit = c.0 } in
    let d = cond_some (ltb a.0 b.0) found meta c.2 in
    let me = within_found 0 greatest_site a.0 (column values 3) a.1 in
    let sites = within_found 1 most_sites b.0 (column values 4) b.1 in
    let limit = within_found 1 greatest_limit c.0 (column values 5) c.1 in
    let numbers : HasNumbers found values = record { me_is = me.0; sites_are = sites.0; limit_is = limit.0 } in
    let within : AreNumbers found = record { me_is_site = ltb-true a.0 b.0 d.0; few_sites = sites.2; limit_is_positive = limit.1; limit_is_low = limit.2 } in
    (subst (λ m. HasNumbers m values) d.1 numbers, subst AreNumbers d.1 within)

numbers_again : (meta : Meta) (values : Row) → HasNumbers meta values → AreNumbers meta → meta_in values ≡ Some meta
unfolding meta_in
numbers_again meta values has within =
    let me : site_in (column values 3) ≡ Some meta.me = ap site_in has.me_is
    ∙ within_back 0 greatest_site meta.me (omega arith) (omega (arith, within.me_is_site, within.few_sites)) in
    let sites : number_within 1 most_sites (column values 4) ≡ Some meta.sites = ap (number_within 1 most_sites) has.sites_are
    ∙ within_back 1 most_sites meta.sites (omega (arith, within.me_is_site)) within.few_sites in
    let limit : number_within 1 greatest_limit (column values 5) ≡ Some meta.limit = ap (number_within 1 greatest_limit) has.limit_is
    ∙ within_back 1 greatest_limit meta.limit within.limit_is_positive within.limit_is_low in
    rw (me, sites, limit) (cond-true _ _ _ (lt-ltb _ _ within.me_is_site))

-- ---- the one row

-- a row that is shown is its six columns
row_is : (table : List Row) (values : Row) → map meta_shown table ≡ values ∷ []
    → values ≡ column values 0 ∷ column values 1 ∷ column values 2 ∷ column values 3 ∷ column values 4 ∷ column values 5 ∷ []
row_is [] values e = absurd cc
row_is (r ∷ table) values e =
    let is : meta_shown r ≡ values = cc in
    subst (λ (x : Row). x ≡ column x 0 ∷ column x 1 ∷ column x 2 ∷ column x 3 ∷ column x 4 ∷ column x 5 ∷ []) is refl

pub has_meta : (read : Version) (db : Trees) (values : Row) (meta : Meta) → meta_rows db ≡ values ∷ [] → IsRowOf read meta values
    → HasMetaAs read meta db × AreNumbers meta
has_meta read db values meta alone is =
    let found = numbers_found meta values is.numbers in
    let has = found.0 in
    let row_has : values ≡ meta_as read meta = row_is (db 0) values alone ∙ rw (is.key, is.kind, is.version, has.me_is, has.sites_are, has.limit_is) refl in
    (alone ∙ ap (λ (x : Row). x ∷ []) row_has, found.1)

pub same_row : (rows : List Row) (x y : Row) → rows ≡ x ∷ [] → rows ≡ y ∷ [] → x ≡ y
same_row rows x y p q = cc

differs : (v : ℤ) (w : Value) → int_in w ≡ None → w ≡ Int v → ⊥
differs v w none is = let e : ◌≡◌ {A = Option ℤ} (Some v) None = sym (ap int_in is) ∙ none in cc

pub same_int : (v w : ℤ) (x : Value) → x ≡ Int v → x ≡ Int w → v ≡ w
same_int v w x p q = cc

no_numbers : (read : Version) (db : Trees) (values : Row) → meta_rows db ≡ values ∷ [] → IsForeignRow read values → (meta : Meta) → AreNumbers meta
    → ¬ HasMetaAs read meta db
no_numbers read db values alone foreign meta within has =
    let same : values ≡ meta_as read meta = same_row (meta_rows db) values (meta_as read meta) alone has in
    elim foreign [
      | inl (inl key) ↦ key (ap (λ (x : Row). column x 0) same)
      | inl (inr kind) ↦ kind (ap (λ (x : Row). column x 1) same)
      | inr (inl version) ↦ differs (version_number read) (column values 2) version (ap (λ (x : Row). column x 2) same)
      | inr (inr numbers) ↦ (
          let is : HasNumbers meta values = record
          { me_is = ap (λ (x : Row). column x 3) same; sites_are = ap (λ (x : Row). column x 4) same; limit_is = ap (λ (x : Row). column x 5) same } in
          none-some meta (sym numbers.1 ∙ numbers_again meta values is within))
    ]

no_version : (read : Version) (db : Trees) (values : Row) → meta_rows db ≡ values ∷ [] → IsForeignRow read values → (version : ℤ)
    → ¬ HasOtherSchema read version db
no_version read db values alone foreign version has =
    let same : values ≡ has.values = same_row (meta_rows db) values has.values alone has.alone in
    elim foreign [
      | inl (inl key) ↦ key (ap (λ (x : Row). column x 0) same ∙ has.key)
      | inl (inr kind) ↦ kind (ap (λ (x : Row). column x 1) same ∙ has.kind)
      | inr (inl none) ↦ differs version (column values 2) none (ap (λ (x : Row). column x 2) same ∙ has.version_is)
      | inr (inr numbers) ↦ has.differs
          (same_int version (version_number read) (column values 2) (ap (λ (x : Row). column x 2) same ∙ has.version_is) numbers.0)
    ]

-- a fault of the one row is one of the database
row_fault : (read : Version) (old new : State) (values : Row) → meta_rows old.now.trees ≡ values ∷ [] → (fault : OpenFault) → IsRowFault read values fault
    → IsMetaFault read old new fault
row_fault read old new values alone NotOurs h = record
    { no_numbers = no_numbers read old.now.trees values alone h; no_version = no_version read old.now.trees values alone h }
row_fault read old new values alone (OtherSchema version) h = record { values = values; alone = alone; key = h.0; kind = h.1; version_is = h.2; differs = h.3 }
row_fault read old new values alone (Damaged place) h = h
row_fault read old new values alone Memory h = absurd h
row_fault read old new values alone Disk h = absurd h

-- not one row is no site's
pub no_row : (read : Version) (db : Trees) (rows : List Row) → IsPermutation (meta_rows db) rows → length rows ≢ 1 → HasNoMeta read db
no_row read db rows same other =
    let long = length_permutation (meta_rows db) rows same in
    record {
      no_numbers = λ meta within has. other (long ∙ ap length has);
      no_version = λ version has. other (long ∙ ap length has.alone);
    }

pub alone : (db : Trees) (rows : List Row) (values : Row) → IsPermutation (meta_rows db) rows → rows ≡ values ∷ [] → meta_rows db ≡ values ∷ []
alone db rows values same is = one_permutation values (meta_rows db)
    (subst (λ l. IsPermutation l (meta_rows db)) is (IsPermutation-sym (meta_rows db) rows same))

-- what the row says, when it has been read
pub meta_found : (read : Version) (db : Trees) (values : Row) (r : Result Meta OpenFault) → meta_rows db ≡ values ∷ []
    → IfOk r (λ meta. IsRowOf read meta values) → IfOk r (λ meta. HasMetaAs read meta db)
meta_found read db values (Ok meta) one h = (has_meta read db values meta one h).0
meta_found read db values (Err fault) one h = tt

pub numbers_are : (read : Version) (values : Row) (r : Result Meta OpenFault) → IfOk r (λ meta. IsRowOf read meta values) → IfOk r AreNumbers
numbers_are read values (Ok meta) h = (numbers_found meta values h.numbers).1
numbers_are read values (Err fault) h = tt

pub meta_fault : (read : Version) (old new : State) (values : Row) (r : Result Meta OpenFault) → meta_rows old.now.trees ≡ values ∷ []
    → IfErr r (IsRowFault read values) → IfErr r (IsMetaFault read old new)
meta_fault read old new values (Ok meta) one h = tt
meta_fault read old new values (Err fault) one h = row_fault read old new values one fault h
