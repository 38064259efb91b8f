-- The mark of a database that is one of two copies. (Our own.)
use Rattle.std.specs.Prelude.{◌≡◌, ◌≢◌, ◌⊎◌, ℕ, List, [], ◌∷◌, codes, Bool, true, false, ◌||◌, Ok, IsTrue}
use Rattle.std.specs.List.{list_any}
use Rattle.sqlite.specs.Store.{Ghosts}
use Rattle.sqlite.specs.Order.{Row, column}
use Rattle.sqlite.specs.Schema.{Schema}
use Rattle.sqlite.specs.Tree.{Trees}
use Rattle.sqlite.specs.Held.{Held, state}
use Rattle.sqlite.specs.State.{HasCleanDisk, QueriesRow}
use Rattle.sqlite.specs.declared.types.Value.{Value}
use Rattle.sqlite.specs.declared.types.Value.TheVariants.{Text}
use Rattle.sqlite_schema.specs.Names.{same_name}
use Rattle.sql_records.specs.Making.{RunInTurn}

-- the table that is the mark, its row, the statement that takes it off, and the one that asks what it says
abbrev pub mark_text : List ℕ
mark_text = codes "CREATE TABLE one_of_two (file TEXT NOT NULL, copy TEXT NOT NULL) STRICT"

abbrev pub names_text : List ℕ
names_text = codes "INSERT INTO one_of_two VALUES (?1, ?2)"

abbrev pub unmark_text : List ℕ
unmark_text = codes "DROP TABLE one_of_two"

abbrev pub ask_text : List ℕ
ask_text = codes "SELECT file, copy FROM one_of_two"

-- what the mark of a copy for looking names in the place of a file
abbrev pub for_looking : List ℕ
for_looking = codes ""

-- the row that names both copies
abbrev pub names_row : List ℕ → List ℕ → Row
names_row file copy = Text file ∷ Text copy ∷ []

-- the statements of the mark of two copies, each with its parameters, and those that take it off
abbrev pub marking : List ℕ → List ℕ → List (List ℕ × Row)
marking file copy = (mark_text, []) ∷ (names_text, names_row file copy) ∷ []

abbrev pub unmarking : List (List ℕ × Row)
unmarking = (unmark_text, []) ∷ []

-- the name of the mark, in either case
abbrev pub is_mark : List ℕ → Bool
is_mark name = same_name name (codes "one_of_two")

-- a table has that name, or a view; a table that SQL here only keeps stands among the views
abbrev pub is_marked : Schema → Bool
is_marked s = list_any (λ t. is_mark t.name) s.tables || list_any (λ v. is_mark v.name) s.views

-- a text, and nothing for what is none
abbrev pub text_of : Value → List ℕ
text_of (Text text) = text
text_of _ = []

-- the file and the copy that a row names
abbrev pub names_in : Row → List ℕ × List ℕ
names_in row = (text_of (column row 0), text_of (column row 1))

module _ {S : Type 0} (g : Ghosts S) where
  -- the trees that these statements, all in one transaction, made of what the connection showed
  pub record IsMadeBy (statements : List (List ℕ × Row)) (conn : Held S) (db : Trees) : Type 0 where
    pub filled : Held S
    pub ran : RunInTurn g statements (record conn { in_transaction = true }) filled
    pub is : db ≡ (state g filled).now.trees

  -- they were committed: no transaction is open, and a crash leaves what they made
  pub record IsChangedBy (statements : List (List ℕ × Row)) (old new : Held S) : Type 0 where
    pub is_open : IsTrue (state g new).is_open
    pub autocommit : new.in_transaction ≡ false
    pub made : IsMadeBy statements old (state g new).now.trees
    pub leaves : (db : Trees) → (state g new).may_leave db → db ≡ (state g new).now.trees

  -- each database that a crash may leave is one that it could leave before, or the one that they made
  abbrev pub LeavesAsBeforeOr : List (List ℕ × Row) → Held S → Held S → Type 0
  LeavesAsBeforeOr statements old new = (db : Trees) → (state g new).may_leave db → (state g old).may_leave db ⊎ IsMadeBy statements old db

  -- the mark of the database says this: it was asked in a transaction, which was undone
  abbrev pub Says : Held S → Held S → List ℕ × List ℕ → Type 0
  Says old new names = (is_marked old.schema ≡ true) × (HasCleanDisk (state g new) → (asked : Held S) × (row : Row) × (names_in row ≡ names)
      × QueriesRow ask_text [] (state g (record old { in_transaction = true })) (state g asked) (Ok row))

  module _ (first first_now second second_now : Held S) where
    -- two databases are of one pairing: their marks say the same, and that is not of a copy for looking
    pub record AreOfOnePairing : Type 0 where
      pub names : List ℕ × List ℕ
      pub for_selling : names.0 ≢ for_looking
      pub first_says : Says first first_now names
      pub second_says : Says second second_now names

    -- they are not: one has no mark, or these say different things, or are for looking
    abbrev pub AreUnpaired : Type 0
    AreUnpaired =
        ((is_marked first.schema ≡ false) ⊎ (is_marked second.schema ≡ false))
        ⊎ ((one other : List ℕ × List ℕ) × Says first first_now one × Says second second_now other × ((one ≢ other) ⊎ (one.0 ≡ for_looking)))
