-- The statements over the records. (Our own.)
use Rattle.std.specs.Prelude.{ℕ, List, codes}

abbrev pub meta_text : List ℕ
meta_text = codes "CREATE TABLE meta (one INTEGER PRIMARY KEY CHECK (one = 1), kind TEXT NOT NULL, version INTEGER NOT NULL, me INTEGER NOT NULL, sites INTEGER NOT NULL, bound INTEGER NOT NULL) STRICT"

abbrev pub entries_text : List ℕ
entries_text = codes "CREATE TABLE entries (pos INTEGER PRIMARY KEY, peer INTEGER, number INTEGER UNIQUE, verb TEXT, event TEXT, amount INTEGER, target INTEGER, reply TEXT, rest INTEGER, delta TEXT NOT NULL) STRICT"

abbrev pub meta_insert_text : List ℕ
meta_insert_text = codes "INSERT INTO meta VALUES (?1, ?2, ?3, ?4, ?5, ?6)"

abbrev pub meta_select_text : List ℕ
meta_select_text = codes "SELECT one, kind, version, me, sites, bound FROM meta"

-- the records are of the second version from now on
abbrev pub update_text : List ℕ
update_text = codes "UPDATE meta SET version = 2"

abbrev pub select_text : List ℕ
select_text = codes "SELECT pos, peer, number, verb, event, amount, target, reply, rest, delta FROM entries ORDER BY pos"

abbrev pub insert_text : List ℕ
insert_text = codes "INSERT INTO entries VALUES (?1, ?2, ?3, ?4, ?5, ?6, ?7, ?8, ?9, ?10)"

abbrev pub find_text : List ℕ
find_text = codes "SELECT pos, reply, rest FROM entries WHERE number = ?1 ORDER BY pos"

abbrev pub list_text : List ℕ
list_text = codes "SELECT pos, number, verb, event, amount, target, reply, rest FROM entries WHERE event = ?1 ORDER BY pos"
