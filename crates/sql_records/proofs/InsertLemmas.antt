-- What the one INSERT makes of the database.
use Rattle.std.proofs.Common.{◌≡◌, ◌⊎◌, flat_map, inl, inr, ℕ, pos, List, [], ◌∷◌, None, Option, Ok, Err, Result, refl, ap, subst, ◌∙◌, arith}
use Rattle.sqlite.specs.declared.types.Value.{Value}
use Rattle.sqlite.specs.declared.types.Value.TheVariants.{Null, Int}
use Rattle.sqlite.specs.Order.{Row}
use Rattle.sqlite.specs.Term.{Term, lit, col}
use Rattle.sqlite.specs.Ops.{unary}
use Rattle.sqlite.specs.Schema.{Schema}
use Rattle.sqlite.specs.Kind.TheVariants.{Integer, Text}
use Rattle.sqlite.specs.Source.TheVariants.{Values}
use Rattle.sqlite.specs.Command.{Command}
use Rattle.sqlite.specs.Command.TheVariants.{Insert}
use Rattle.sqlite.specs.Edit.{edit_of, edited}
use Rattle.sqlite.specs.Cast.{cast}
use Rattle.sqlite.specs.Rowids.TheVariants.{Chosen}
use Rattle.sqlite.specs.Does.{Tally, Does}
use Rattle.sqlite.specs.Rows.{Written}
use Rattle.sqlite.specs.Tree.{Trees, put_row}
use Rattle.sqlite.specs.Effect.{Database}
use Rattle.sqlite.specs.declared.run.Mode.{Mode}
use Rattle.sqlite_tied.specs.Compute.{everything}
use Rattle.sqlite.specs.Listing.{understood}
use Rattle.sqlite.proofs.Callers.{IsPlain, command_of, one_step}
use Rattle.sqlite.specs.Table.{Table}
use Rattle.sqlite_rules.specs.Edit.{taken_by}
use Rattle.sqlite_rules.specs.Action.{work_for}
use Rattle.sqlite_schema.specs.declared.schema.Index.{Index}
use Rattle.sqlite_schema.specs.declared.schema.View.{View}
use Rattle.sqlite_schema.specs.declared.schema.Keys.{Keys}
use Rattle.std.specs.List.{AllByRecursion, filter_map}
use Rattle.request_ledger.proofs.SumLaws.{cond_both}
use Rattle.sql_records.specs.Texts.{insert_text}
use Rattle.sql_records.specs.Layout.{IsOurs, ours_and, meta_at, entries_at, RefersToNone}

pub one_zero : ◌≡◌ {A = ℕ} 1 0 → ⊥
one_zero e = omega arith

abbrev terms : List Term
terms = col 0 0 ∷ lit Null ∷ col 0 1 ∷ col 0 2 ∷ col 0 3 ∷ col 0 4 ∷ col 0 5 ∷ col 0 6 ∷ col 0 7 ∷ col 0 8 ∷ col 0 9 ∷ []

abbrev pub insert_command : Command
insert_command = Insert 1 (Values terms 11)

pub insert_is : (more : List Table) (indexes : List Index) (views : List View)
    → command_of (understood (ours_and more indexes views) insert_text) ≡ insert_command
unfolding understood everything
insert_is more indexes views = refl

pub insert_plain : (more : List Table) (indexes : List Index) (views : List View) → IsPlain (understood (ours_and more indexes views) insert_text)
unfolding understood everything
insert_plain more indexes views = (refl, refl)

-- where no table refers to another, no write sets off an action
pub no_work : (s : Schema) (keys : Keys) (depth tree : ℕ) (olds news : List Row) (tables : List Table) → AllByRecursion RefersToNone tables
    → flat_map (λ child. filter_map (work_for s keys depth tree olds news child) child.references) tables ≡ []
no_work s keys depth tree olds news [] bare = refl
no_work s keys depth tree olds news (t ∷ tables) bare = rw (bare.0) (no_work s keys depth tree olds news tables bare.1)

pub cast_null : cast Integer Null ≡ Null
unfolding unary
cast_null = cond_both _ Null

pub cast_int : (n : ℕ) → cast Integer (Int (pos n)) ≡ Int (pos n)
unfolding unary
cast_int n = cond_both _ (Int (pos n))

-- a part that gave a value did not stop on the way
pub went : {B E R : Type 0} {b : B} {Stops : E → Type 0} → ((stop : E) × Stops stop × (Ok b ≡ Err stop)) ⊎ R → R
went (inl stopped) = absurd (let e = stopped.2 in cc)
went (inr on) = on

pub same_value : {B E : Type 0} {a b : B} → ◌≡◌ {A = Result B E} (Ok a) (Ok b) → a ≡ b
same_value e = cc

zero_one : ◌≡◌ {A = ℕ} 0 1 → ⊥
zero_one e = omega arith

-- what an INSERT of these columns leaves
pub record Inserted (row : Row) (schema : Schema) (db after : Database) : Type 0 where
  pub same : after.schema ≡ schema
  pub rows : after.trees 1 ≡ put_row row (db.trees 1)
  pub meta : after.trees 0 ≡ db.trees 0

module _ (at : ℕ) (peer number verb event amount target reply rest delta : Value)
    (peer_fits : cast Integer peer ≡ peer) (number_fits : cast Integer number ≡ number) (amount_fits : cast Integer amount ≡ amount)
    (target_fits : cast Integer target ≡ target) (rest_fits : cast Integer rest ≡ rest)
    (verb_fits : cast Text verb ≡ verb) (event_fits : cast Text event ≡ event) (reply_fits : cast Text reply ≡ reply)
    (delta_fits : cast Text delta ≡ delta) where
  abbrev params : Row
  params = Int (pos at) ∷ peer ∷ number ∷ verb ∷ event ∷ amount ∷ target ∷ reply ∷ rest ∷ delta ∷ []

  pub inserts : (limit : Option ℕ) (mode : Mode) (schema : Schema) (old : Trees) (after : Database) (text : List ℕ) (tally : Tally) (ours : IsOurs schema)
      → Does limit mode params (record { schema = schema; trees = old }) text None insert_command (Ok (tally, after))
      → Inserted (Int (pos at) ∷ Null ∷ peer ∷ number ∷ verb ∷ event ∷ amount ∷ target ∷ reply ∷ rest ∷ delta ∷ [])
      (ours_and ours.tables ours.indexes ours.views) (record { schema = schema; trees = old }) after
  inserts limit mode schema old after text tally ours h =
      let all = ours_and ours.tables ours.indexes ours.views in
      let done = went (subst (λ s. Does limit mode params (record { schema = s; trees = old }) text None insert_command (Ok (tally, after))) ours.is h) in
      let now = ap (λ (p : Tally × Database). p.1) (same_value (went (went done.2).2).2) in
      let given = went done.1 in
      let written = went (went given.2).2 in
      let counted = went written.2 in
      let trees : done.0.trees ≡ written.0 = ap (λ (it : Written). it.trees) (same_value counted.2) ∙ same_value counted.1 in
      let put = edit_of old (entries_at 1) [] Chosen 0 given.0 in
      let step = one_step all mode.keys old written.0 put
      (no_work all mode.keys 0 1 (taken_by old put) put.news (meta_at 0 ∷ entries_at 1 ∷ ours.tables) (refl, (refl, ours.bare))) written.1 in
      let tree = λ (t : ℕ). ap (λ (d : Database). d.trees t) now ∙ ap (λ (x : Trees). x t) trees in
      let edit : edited old (edit_of old (entries_at 1) [] Chosen 0 given.0)
      ≡ put_row (Int (pos at) ∷ Null ∷ peer ∷ number ∷ verb ∷ event ∷ amount ∷ target ∷ reply ∷ rest ∷ delta ∷ []) (old 1) =
      ap (λ all. edited old (edit_of old (entries_at 1) [] Chosen 0 all)) given.1.1
      ∙ rw (cast_int at, cast_null, peer_fits, number_fits, amount_fits, target_fits, rest_fits, verb_fits, event_fits, reply_fits, delta_fits) in
      record {
        same = ap (λ (d : Database). d.schema) now;
        rows = tree 1 ∙ step.rows ∙ edit;
        meta = tree 0 ∙ step.tables.0 zero_one;
      }
