-- What the one UPDATE makes of the database.
use Rattle.std.proofs.Common.{◌≡◌, ℕ, pos, negsuc, List, [], ◌∷◌, map, false, None, Option, Ok, refl, ap, subst, ◌∙◌, IsPermutation}
use Rattle.sqlite.specs.declared.types.Value.TheVariants.{Null, Int, Text as Words}
use Rattle.sqlite.specs.Order.{Row, column}
use Rattle.sqlite.specs.Term.{lit, col}
use Rattle.sqlite.specs.Schema.{Schema}
use Rattle.sqlite.specs.Query.{Query, inner, end, IsAnswer, output, Output, page}
use Rattle.sqlite.specs.Program.{overlay}
use Rattle.sqlite.specs.Command.{Command}
use Rattle.sqlite.specs.Command.TheVariants.{Update}
use Rattle.sqlite.specs.Edit.{edit_of, edited}
use Rattle.sqlite_rules.specs.Edit.{without_all, taken_by}
use Rattle.sqlite_rules.specs.Calls.{ids_of}
use Rattle.sqlite_schema.specs.declared.schema.Index.{Index}
use Rattle.sqlite_schema.specs.declared.schema.View.{View}
use Rattle.sqlite.specs.Table.{Table}
use Rattle.sqlite.specs.Rowids.TheVariants.{Given}
use Rattle.sqlite.specs.Does.{Tally, Does}
use Rattle.sqlite.specs.Rows.{Written}
use Rattle.sqlite.specs.Tree.{Trees}
use Rattle.sqlite.specs.Effect.{Database}
use Rattle.sqlite.specs.declared.run.Mode.{Mode}
use Rattle.sqlite_value.proofs.OrderLemmas.{value_cmp-Int}
use Rattle.sqlite_tied.specs.Compute.{everything}
use Rattle.sqlite.specs.Listing.{understood}
use Rattle.sqlite.proofs.Callers.{IsPlain, command_of, one_step, one_permutation}
use Rattle.history_keeper.specs.declared.meta.Meta.{Meta}
use Rattle.sql_records.specs.declared.version.Version.{Version}
use Rattle.sql_records.specs.declared.version.Version.TheVariants.{First, Second}
use Rattle.sql_records.specs.Texts.{update_text}
use Rattle.sql_records.specs.Layout.{IsOurs, ours_and, meta_at, entries_at, our_kind, version_number, meta_shown, meta_as, HasMetaAs}
use Rattle.sql_records.proofs.InsertLemmas.{cast_null, cast_int, went, same_value, no_work, one_zero}

abbrev query : Query
query = record {
  from = inner 0 end;
  filter = [];
  group = None;
  project = col 1 0 ∷ col 1 0 ∷ lit Null ∷ col 1 2 ∷ lit (Int (pos 2)) ∷ col 1 4 ∷ col 1 5 ∷ col 1 6 ∷ [];
  distinct = false;
  collations = [];
  order = [];
  limit = lit (Int (negsuc 0));
  offset = lit (Int (pos 0));
}

abbrev pub update_command : Command
update_command = Update 0 (record { lets = []; body = query })

pub update_is : (more : List Table) (indexes : List Index) (views : List View)
    → command_of (understood (ours_and more indexes views) update_text) ≡ update_command
unfolding understood everything
update_is more indexes views = refl

pub update_plain : (more : List Table) (indexes : List Index) (views : List View) → IsPlain (understood (ours_and more indexes views) update_text)
unfolding understood everything
update_plain more indexes views = (refl, refl)

one_of : {X Y : Type 0} (f : X → Y) (xs : List X) (y : Y) → map f xs ≡ y ∷ [] → (x : X) × (xs ≡ x ∷ []) × (f x ≡ y)
one_of f [] y e = absurd cc
one_of f (x ∷ []) y e = (x, refl, (let same : f x ≡ y = cc in same))
one_of f (x ∷ z ∷ more) y e = absurd cc

-- the row of these numbers as the table keeps it
abbrev pub stored_as : Version → Meta → Row
stored_as version meta = Int (pos 1) ∷ Null ∷ Words our_kind ∷ Int (version_number version) ∷ Int (pos meta.me) ∷ Int (pos meta.sites)
    ∷ Int (pos meta.limit) ∷ []

-- what the UPDATE is given to write for it, after the rowid of the row that it replaces
abbrev given_for : Meta → Row
given_for meta = Int (pos 1) ∷ Int (pos 1) ∷ Null ∷ Words our_kind ∷ Int (pos 2) ∷ Int (pos meta.me) ∷ Int (pos meta.sites) ∷ Int (pos meta.limit) ∷ []

given_of : (meta : Meta) (r : Row) → meta_shown r ≡ meta_as First meta → (output query ([] ∷ r ∷ [])).1 ≡ given_for meta
given_of meta r e =
    let at = λ (k : ℕ). ap (λ (v : Row). column v k) e in
    rw (at 0, at 1, at 3, at 4, at 5) refl

-- the one row that the query gives
answer_is : (meta : Meta) (db : Trees) (r : Row) (rows : List Row) → db 0 ≡ r ∷ [] → meta_shown r ≡ meta_as First meta
    → IsAnswer query (overlay db []) [] rows → rows ≡ given_for meta ∷ []
answer_is meta db r rows one e a =
    let staged : a.staged ≡ ([] ∷ r ∷ []) ∷ [] = a.grouped ∙ rw one in
    let o : Output = output query ([] ∷ r ∷ []) in
    let kept : a.kept ≡ o ∷ [] = a.distinct ∙ ap (map (output query)) staged in
    let ordered = one_permutation o a.ordered (subst (λ k. IsPermutation k a.ordered) kept a.same) in
    a.shown ∙ ap (λ xs. page query [] (map (λ (p : Output). p.1) xs)) ordered ∙ ap (λ (v : Row). v ∷ []) (given_of meta r e)

gone_is : (r : Row) → column r 0 ≡ Int (pos 1) → without_all (r ∷ []) (pos 1 ∷ []) ≡ []
gone_is r e = rw (e, value_cmp-Int (pos 1) (pos 1)) refl

edit_is : (meta : Meta) (db : Trees) (r : Row) (rows : List Row) → db 0 ≡ r ∷ [] → column r 0 ≡ Int (pos 1) → rows ≡ given_for meta ∷ []
    → edited db (edit_of db (meta_at 0) (ids_of rows) Given 1 rows) ≡ stored_as Second meta ∷ []
edit_is meta db r rows one is given =
    ap (λ all. edited db (edit_of db (meta_at 0) (ids_of all) Given 1 all)) given
    ∙ rw (one, gone_is r is, cast_int 1, cast_null, cast_int 2, cast_int meta.me, cast_int meta.sites, cast_int meta.limit)

-- what the UPDATE leaves
pub record Updated (schema : Schema) (meta : Meta) (db : Trees) (after : Database) : Type 0 where
  pub same : after.schema ≡ schema
  pub row : after.trees 0 ≡ stored_as Second meta ∷ []
  pub entries : after.trees 1 ≡ db 1

pub updates : (meta : Meta) (limit : Option ℕ) (mode : Mode) (schema : Schema) (old : Trees) (after : Database) (text : List ℕ) (tally : Tally)
    (ours : IsOurs schema) → HasMetaAs First meta old
    → Does limit mode [] (record { schema = schema; trees = old }) text None update_command (Ok (tally, after))
    → Updated (ours_and ours.tables ours.indexes ours.views) meta old after
updates meta limit mode schema old after text tally ours is h =
    let all = ours_and ours.tables ours.indexes ours.views in
    let one = one_of meta_shown (old 0) (meta_as First meta) is in
    let done = went (subst (λ s. Does limit mode [] (record { schema = s; trees = old }) text None update_command (Ok (tally, after))) ours.is h) in
    let now = ap (λ (p : Tally × Database). p.1) (same_value (went (went done.2).2).2) in
    let given = went done.1 in
    let written = went given.2 in
    let trees : done.0.trees ≡ written.0 = ap (λ (it : Written). it.trees) (same_value written.2) in
    let edit = edit_of old (meta_at 0) (ids_of given.0) Given 1 given.0 in
    let step = one_step all mode.keys old written.0 edit
    (no_work all mode.keys 0 0 (taken_by old edit) edit.news (meta_at 0 ∷ entries_at 1 ∷ ours.tables) (refl, (refl, ours.bare))) written.1 in
    let rows = answer_is meta old one.0 given.0 one.1 one.2 (given.1.answer Null) in
    let edit = edit_is meta old one.0 given.0 one.1 (ap (λ (v : Row). column v 0) one.2) rows in
    let tree = λ (t : ℕ). ap (λ (d : Database). d.trees t) now ∙ ap (λ (x : Trees). x t) trees in
    record {
      same = ap (λ (d : Database). d.schema) now;
      row = tree 0 ∙ step.rows ∙ edit;
      entries = tree 1 ∙ step.tables.1.0 one_zero;
    }
