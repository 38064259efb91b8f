-- What the three statements of a new store make.
use Rattle.std.proofs.Common.{◌≡◌, ℕ, pos, List, [], ◌∷◌, map, false, None, Ok, refl, sym, ap, subst, ◌∙◌}
use Rattle.sqlite.specs.declared.types.Value.TheVariants.{Null, Int, Text as Words}
use Rattle.sqlite.specs.Order.{Row}
use Rattle.sqlite.specs.Term.{Term, lit, col}
use Rattle.sqlite.specs.Table.{Table}
use Rattle.sqlite.specs.Schema.{Schema}
use Rattle.sqlite.specs.Source.TheVariants.{Values}
use Rattle.sqlite.specs.Command.TheVariants.{Insert, CreateTable}
use Rattle.sqlite.specs.Compile.{table_defined_by}
use Rattle.sqlite.specs.Edit.{edit_of, edited}
use Rattle.sqlite.specs.Rowids.TheVariants.{Chosen}
use Rattle.sqlite.specs.Change.{created, next_tree, KeepsRows}
use Rattle.sqlite.specs.Does.{Tally, Does, lacks_sequence}
use Rattle.sqlite.specs.Rows.{Written}
use Rattle.sqlite.specs.Tree.{Trees}
use Rattle.sqlite_tied.specs.Compute.{everything}
use Rattle.sqlite.specs.Listing.{understood}
use Rattle.sqlite.specs.Effect.{Database, IsDatabase}
use Rattle.sqlite.specs.State.{State, mode_of, Writes, Executes}
use Rattle.sqlite.proofs.Callers.{IsPlain, command_of, statement_of, runs_as, one_step}
use Rattle.history_keeper.specs.declared.meta.Meta.{Meta}
use Rattle.sql_records.specs.Texts.{meta_text, entries_text, meta_insert_text}
use Rattle.sql_records.specs.Layout.{our_schema, no_schema, meta_at, entries_at, meta_of, our_kind, meta_shown, HasMeta}
use Rattle.sql_records.proofs.InsertLemmas.{went, same_value, cast_null, cast_int, one_zero}

-- with the table of the numbers alone
abbrev pub half_schema : Schema
half_schema = record { tables = meta_at 0 ∷ []; indexes = []; views = [] }

-- the row of the numbers as the table keeps it
abbrev stored_meta : Meta → Row
stored_meta meta = Int (pos 1) ∷ Null ∷ Words our_kind ∷ Int (pos 2) ∷ Int (pos meta.me) ∷ Int (pos meta.sites) ∷ Int (pos meta.limit) ∷ []

meta_is : (command_of (understood no_schema meta_text) ≡ CreateTable) × (statement_of meta_text (understood no_schema meta_text) ≡ meta_text)
    × (table_defined_by meta_text ≡ Ok (meta_at 0))
unfolding understood everything
meta_is = (refl, refl, refl)

meta_plain : IsPlain (understood no_schema meta_text)
unfolding understood everything
meta_plain = (refl, refl)

entries_is : (command_of (understood half_schema entries_text) ≡ CreateTable)
    × (statement_of entries_text (understood half_schema entries_text) ≡ entries_text) × (table_defined_by entries_text ≡ Ok (entries_at 0))
unfolding understood everything
entries_is = (refl, refl, refl)

entries_plain : IsPlain (understood half_schema entries_text)
unfolding understood everything
entries_plain = (refl, refl)

half_is : created no_schema (meta_at 0) ≡ half_schema
unfolding understood everything
half_is = refl

ours_is : created half_schema (entries_at 0) ≡ our_schema
unfolding understood everything
ours_is = refl

-- after a CREATE TABLE the schema has the table, its tree is empty, and the other tables are as they were
made : (text : List ℕ) (schema : Schema) (table : Table) (old new : State) → old.now.schema ≡ schema → command_of (understood schema text) ≡ CreateTable
    → statement_of text (understood schema text) ≡ text
    → table_defined_by text ≡ Ok table → IsPlain (understood schema text) → lacks_sequence (created schema table) ≡ false → (count : ℕ)
    → Executes text [] old new (Ok count)
    → (new.now.schema ≡ created schema table) × (new.now.trees (next_tree schema) ≡ []) × KeepsRows schema.tables old.now.trees new.now.trees
made text schema table old new has command whole defined plain unsequenced count h =
    let w = subst (λ t. Writes old new None CreateTable t [] count) whole (runs_as text [] old new schema has CreateTable command plain count h) in
    let all = went w.changed in
    let first = went all.1 in
    let it = first.1 in
    let both : Ok it.table ≡ Ok table = sym it.defined ∙ defined in
    let same : it.table ≡ table = cc in
    let is : first.0.schema ≡ created schema table = it.is ∙ ap (λ s. created s it.table) has ∙ ap (created schema) same in
    let plain : lacks_sequence first.0.schema ≡ false = ap lacks_sequence is ∙ unsequenced in
    let now : new.now ≡ first.0 = ap (λ (p : Tally × Database). p.1) (same_value all.2) ∙ same_value (rw plain at first.2) in (
      ap (λ (d : Database). d.schema) now ∙ is,
      ap (λ (d : Database). d.trees (next_tree schema)) now ∙ subst (λ s. first.0.trees (next_tree s) ≡ []) has it.empty,
      subst (λ (d : Database). KeepsRows schema.tables old.now.trees d.trees) (sym now)
          (subst (λ (s : Schema). KeepsRows s.tables old.now.trees first.0.trees) has it.others),
    )

pub creates_meta : (old new : State) (count : ℕ) → old.now.schema ≡ no_schema → Executes meta_text [] old new (Ok count)
    → (new.now.schema ≡ half_schema) × (new.now.trees 0 ≡ [])
creates_meta old new count has h = let it = made meta_text no_schema (meta_at 0) old new has meta_is.0 meta_is.1 meta_is.2 meta_plain refl count h
    in (it.0 ∙ half_is, it.1)

pub creates_entries : (old new : State) (count : ℕ) → old.now.schema ≡ half_schema → Executes entries_text [] old new (Ok count)
    → (new.now.schema ≡ our_schema) × (new.now.trees 1 ≡ []) × (new.now.trees 0 ≡ old.now.trees 0)
creates_entries old new count has h = let it = made entries_text half_schema (entries_at 0) old new has entries_is.0 entries_is.1 entries_is.2
    entries_plain refl count h in (it.0 ∙ ours_is, it.1, it.2.0)

abbrev meta_terms : List Term
meta_terms = col 0 0 ∷ lit Null ∷ col 0 1 ∷ col 0 2 ∷ col 0 3 ∷ col 0 4 ∷ col 0 5 ∷ []

meta_insert_is : command_of (understood our_schema meta_insert_text) ≡ Insert 0 (Values meta_terms 7)
unfolding understood everything
meta_insert_is = refl

meta_insert_plain : IsPlain (understood our_schema meta_insert_text)
unfolding understood everything
meta_insert_plain = (refl, refl)

pub adds_meta : (meta : Meta) (old new : State) (count : ℕ) → old.now.schema ≡ our_schema → old.now.trees 0 ≡ []
    → Executes meta_insert_text (meta_of meta) old new (Ok count)
    → (new.now.schema ≡ our_schema) × HasMeta meta new.now.trees × (new.now.trees 1 ≡ old.now.trees 1) × IsDatabase new.now
adds_meta meta old new count has none h =
    let params = meta_of meta in
    let db = old.now.trees in
    let command = Insert 0 (Values meta_terms 7) in
    let w = runs_as meta_insert_text params old new our_schema has command meta_insert_is meta_insert_plain count h in
    let text = statement_of meta_insert_text (understood our_schema meta_insert_text) in
    let done = went (subst (λ s. Does old.step_limit (mode_of old) params (record old.now { schema = s }) text None command (Ok (w.tally, new.now))) has
    w.changed) in
    let now = ap (λ (p : Tally × Database). p.1) (same_value (went (went done.2).2).2) in
    let given = went done.1 in
    let written = went (went given.2).2 in
    let counted = went written.2 in
    let trees : done.0.trees ≡ written.0 = ap (λ (it : Written). it.trees) (same_value counted.2) ∙ same_value counted.1 in
    let step = one_step our_schema _ db written.0 (edit_of db (meta_at 0) [] Chosen 0 given.0) refl written.1 in
    let edit : edited db (edit_of db (meta_at 0) [] Chosen 0 given.0) ≡ stored_meta meta ∷ [] =
    ap (λ all. edited db (edit_of db (meta_at 0) [] Chosen 0 all)) given.1.1
    ∙ rw (none, cast_int 1, cast_null, cast_int 2, cast_int meta.me, cast_int meta.sites, cast_int meta.limit) in (
      ap (λ (d : Database). d.schema) now,
      ap (map meta_shown) (ap (λ (d : Database). d.trees 0) now ∙ ap (λ (t : Trees). t 0) trees ∙ step.rows ∙ edit),
      ap (λ (d : Database). d.trees 1) now ∙ ap (λ (t : Trees). t 1) trees ∙ step.tables.1.0 one_zero,
      w.sound,
    )
