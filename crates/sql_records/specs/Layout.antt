-- The two tables of the records, and what the one row of `meta` says. (Our own.)
use Rattle.std.specs.Prelude.{◌≡◌, ◌≢◌, ◌<◌, ◌≤◌, ℕ, ℤ, List, [], ◌∷◌, codes, Option, Some, None, pos, Bool, true, false, ◌||◌, map, slice_get}
use Rattle.std.specs.List.{AllByRecursion, list_any}
use Rattle.sqlite.specs.Collation.TheVariants.{Binary}
use Rattle.sqlite.specs.declared.types.Value.TheVariants.{Null, Int, Text as Words}
use Rattle.sqlite.specs.Table.{Table}
use Rattle.sqlite.specs.Schema.{Schema}
use Rattle.sqlite.specs.Term.{Term, lit, col, op2}
use Rattle.sqlite_sql.specs.declared.ops.BinaryOp.TheVariants.{Compare}
use Rattle.sqlite_sql.specs.declared.ops.CompareOp.TheVariants.{Eq}
use Rattle.sqlite.specs.Order.{Row, column}
use Rattle.sqlite.specs.Tree.{Trees}
use Rattle.sqlite.specs.Kind.{Kind}
use Rattle.sqlite.specs.Kind.TheVariants.{Integer, Text}
use Rattle.sqlite_schema.specs.declared.code.Op.{Op}
use Rattle.sqlite_schema.specs.declared.code.Op.TheVariants.{Literal, Column as ColumnAt, Binary as Equals}
use Rattle.sqlite_schema.specs.declared.schema.Column.{Column}
use Rattle.sqlite_schema.specs.declared.schema.Index.{Index}
use Rattle.sqlite_schema.specs.declared.schema.View.{View}
use Rattle.sqlite_schema.specs.Names.{same_name}
use Rattle.rights_lattice.specs.Limits.{most_sites}
use Rattle.book_core.specs.Limits.{greatest_limit}
use Rattle.history_keeper.specs.declared.meta.Meta.{Meta}
use Rattle.sql_records.specs.declared.version.Version.{Version}
use Rattle.sql_records.specs.declared.version.Version.TheVariants.{First, Second}

abbrev pub plain : List ℕ → Kind → Column
plain name kind = record { name = name; kind = kind; is_strict = true; not_null = false; default = Null; collation = Binary }

abbrev pub required : List ℕ → Kind → Column
required name kind = record { name = name; kind = kind; is_strict = true; not_null = true; default = Null; collation = Binary }

abbrev pub last_columns : List Column
last_columns =
    plain (codes "amount") Integer ∷ plain (codes "target") Integer ∷ plain (codes "reply") Text ∷ plain (codes "rest") Integer
    ∷ required (codes "delta") Text ∷ []

-- the table of the entries, in this tree
abbrev pub entries_at : ℕ → Table
entries_at tree = record {
  name = codes "entries";
  tree = tree;
  columns =
      plain (codes "pos") Integer ∷ plain (codes "peer") Integer ∷ plain (codes "number") Integer ∷ plain (codes "verb") Text ∷ plain (codes "event") Text
      ∷ last_columns;
  key = Some 0;
  primary = 0 ∷ [];
  uniques = (3 ∷ []) ∷ [];
  orders = (record { digits = 0 }) ∷ [];
  checks = [];
  references = [];
  computed = [];
  stamps = record { places = []; terms = []; formats = [] };
  is_counted = false;
}

-- the check of the table of the numbers
abbrev pub one_is_1 : Term
one_is_1 = op2 (Compare Eq Binary) (col 1 0) (lit (Int (pos 1)))

-- the places of the two sides of an equality
abbrev pub sides_of : Op → Option (ℕ × ℕ)
sides_of (Equals (Compare Eq Binary) left right) = Some (left, right)
sides_of _ = None

-- the nodes at these places are the two sides of the check
abbrev pub AreOneAnd1 : List Op → ℕ → ℕ → Type 0
AreOneAnd1 nodes left right = (slice_get nodes left ≡ Some (ColumnAt 1 0)) × (slice_get nodes right ≡ Some (Literal (Int (pos 1))))

-- the table of the numbers, in this tree
abbrev pub meta_at : ℕ → Table
meta_at tree = record {
  name = codes "meta";
  tree = tree;
  columns =
      plain (codes "one") Integer ∷ required (codes "kind") Text ∷ required (codes "version") Integer ∷ required (codes "me") Integer
      ∷ required (codes "sites") Integer ∷ required (codes "bound") Integer ∷ [];
  key = Some 0;
  primary = 0 ∷ [];
  uniques = [];
  orders = [];
  checks = one_is_1 ∷ [];
  references = [];
  computed = [];
  stamps = record { places = []; terms = []; formats = [] };
  is_counted = false;
}

abbrev pub number_index : Index
number_index = record { name = codes "sqlite_autoindex_entries_1"; tree = 2; table = 1; columns = 3 ∷ []; order = record { digits = 0 }; is_unique = true }

abbrev pub no_schema : Schema
no_schema = record { tables = []; indexes = []; views = [] }

-- our two tables and the index first, as a new database has them, and what others have added since
abbrev pub ours_and : List Table → List Index → List View → Schema
ours_and tables indexes views = record { tables = meta_at 0 ∷ entries_at 1 ∷ tables; indexes = number_index ∷ indexes; views = views }

-- ours alone
abbrev pub our_schema : Schema
our_schema = ours_and [] [] []

abbrev pub RefersToNone : Table → Type 0
RefersToNone t = t.references ≡ []

-- our tables and index come first, and no further table refers to a table
pub record IsOurs (s : Schema) : Type 0 where
  pub tables : List Table
  pub indexes : List Index
  pub views : List View
  pub is : s ≡ ours_and tables indexes views
  pub bare : AllByRecursion RefersToNone tables

-- the same, as a test of the lists finds it
abbrev pub AreOursFirst : List Table → Type 0
AreOursFirst [] = ⊥
AreOursFirst (meta ∷ []) = ⊥
AreOursFirst (meta ∷ entries ∷ more) = (meta ≡ meta_at 0) × (entries ≡ entries_at 1) × AllByRecursion RefersToNone more

abbrev pub IsOursFirst : List Index → Type 0
IsOursFirst [] = ⊥
IsOursFirst (index ∷ more) = index ≡ number_index

-- the name of one of our tables, in either case
abbrev pub is_our_name : List ℕ → Bool
is_our_name name = same_name name (codes "meta") || same_name name (codes "entries")

-- a table has the name of one of ours; a table that SQL here only keeps, as one with a trigger, stands among the views
abbrev pub has_our_table : Schema → Bool
has_our_table s = list_any (λ t. is_our_name t.name) s.tables || list_any (λ v. is_our_name v.name) s.views

-- its key is the first column, and nothing refers to another table or is computed
pub record IsBare (t : Table) : Type 0 where
  pub key : t.key ≡ Some 0
  pub primary : t.primary ≡ 0 ∷ []
  pub references : t.references ≡ []
  pub computed : t.computed ≡ []
  pub stamps : t.stamps ≡ record { places = []; terms = []; formats = [] }
  pub uncounted : t.is_counted ≡ false

-- ---- the row of `meta`

abbrev pub our_kind : List ℕ
our_kind = codes "ticket-escrow"

-- the number of a version
abbrev pub version_number : Version → ℤ
version_number First = pos 1
version_number Second = pos 2

-- its six columns: one, kind, version, me, sites, bound
abbrev pub meta_as : Version → Meta → Row
meta_as version meta = Int (pos 1) ∷ Words our_kind ∷ Int (version_number version) ∷ Int (pos meta.me) ∷ Int (pos meta.sites) ∷ Int (pos meta.limit) ∷ []

-- the same in the version that is written here
abbrev pub meta_of : Meta → Row
meta_of meta = meta_as Second meta

-- the columns of a row of the table, as a query shows them
abbrev pub meta_shown : Row → Row
meta_shown values = column values 0 ∷ column values 2 ∷ column values 3 ∷ column values 4 ∷ column values 5 ∷ column values 6 ∷ []

abbrev pub meta_tree : ℕ
meta_tree = 0

abbrev pub meta_rows : Trees → List Row
meta_rows db = map meta_shown (db meta_tree)

-- the one row has these numbers, under this version
abbrev pub HasMetaAs : Version → Meta → Trees → Type 0
HasMetaAs version meta db = meta_rows db ≡ meta_as version meta ∷ []

-- the same under the version that is written here
abbrev pub HasMeta : Meta → Trees → Type 0
HasMeta meta db = HasMetaAs Second meta db

-- the one row is of our kind and of this version, which is another than the one that is read
pub record HasOtherSchema (read : Version) (version : ℤ) (db : Trees) : Type 0 where
  pub values : Row
  pub alone : meta_rows db ≡ values ∷ []
  pub key : column values 0 ≡ Int (pos 1)
  pub kind : column values 1 ≡ Words our_kind
  pub version_is : column values 2 ≡ Int version
  pub differs : version ≢ version_number read

-- the numbers of a site
pub record AreNumbers (meta : Meta) : Type 0 where
  pub me_is_site : meta.me < meta.sites
  pub few_sites : meta.sites ≤ most_sites
  pub limit_is_positive : 1 ≤ meta.limit
  pub limit_is_low : meta.limit ≤ greatest_limit

-- the one row has the numbers of a site, under this version
abbrev pub HasGoodMeta : Version → Trees → Type 0
HasGoodMeta read db = (meta : Meta) × AreNumbers meta × HasMetaAs read meta db

-- the rows of `meta` are those of no site, in this version or another
pub record HasNoMeta (read : Version) (db : Trees) : Type 0 where
  pub no_numbers : (meta : Meta) → AreNumbers meta → ¬ HasMetaAs read meta db
  pub no_version : (version : ℤ) → ¬ HasOtherSchema read version db
