-- Why a query over the records fails.
use Rattle.std.proofs.Common.{◌≡◌, ◌≢◌, ◌⊎◌, inl, inr, ℕ, ◌≤◌, leb, List, [], length, true, false, Option, Ok, Err, Result, refl, sym, ap, subst, subst₂, ◌∙◌, append-nil, IsSome}
use Rattle.std.proofs.lemmas.Bool.{leb-true}
use Rattle.std.specs.List.{Any}
use Rattle.sqlite_trees.specs.declared.error.StoreError.{StoreError}
use Rattle.sqlite_trees.specs.declared.error.StoreError.TheVariants.{OutOfMemory, Io, Corrupt, Full, Broken, Unstorable}
use Rattle.sqlite_schema.specs.declared.program.Program.{Program}
use Rattle.sqlite_schema.specs.Program.{lets_of}
use Rattle.sqlite_sql.specs.Program.{ProgramOverflows}
use Rattle.sqlite_typing.specs.Types.{accepts_program}
use Rattle.sqlite_resolve.specs.declared.compiled.Compiled.{Compiled}
use Rattle.sqlite_resolve.specs.declared.error.CompileError.{CompileError}
use Rattle.sqlite.specs.Order.{Row}
use Rattle.sqlite.specs.Tree.{Trees}
use Rattle.sqlite.specs.Schema.{Schema}
use Rattle.sqlite.specs.Command.TheVariants.{Select}
use Rattle.sqlite.specs.declared.error.Error.{Error}
use Rattle.sqlite.specs.declared.error.Error.TheVariants.{SqliteFailure}
use Rattle.sqlite.specs.declared.error.ErrorCode.TheVariants as code
use Rattle.sqlite.specs.Effect.{Database, RefusesQuery, RefusesToRead}
use Rattle.sqlite.specs.Listing.{understood, reads_listing, IsSourceOf}
use Rattle.sqlite.specs.State.{State, store_error, HasCause, IsUnchanged, IsRolledBack, IsNoStatement, IsNotRun, Fails, FailsToQuery}
use Rattle.sqlite.proofs.Callers.{IsPlain, command_of}
use Rattle.sql_records.specs.Faults.{told, HasDiskCause, IsUndoneForMemory}

-- for want of memory, or the disk is at fault
abbrev pub Caused : State → State → Error → Type 0
Caused old new e = (e ≡ SqliteFailure code.OutOfMemory) ⊎ HasDiskCause old new

fails_for : (old new : State) (e : Error) (cause : StoreError) → e ≡ store_error cause → HasCause old new ⊥ cause → Caused old new e
fails_for old new e OutOfMemory is h = inl is
fails_for old new e Io is h = inr (inl h)
fails_for old new e Corrupt is h = inr (inl h)
fails_for old new e Full is h = inr (inl h)
fails_for old new e Broken is h = inr (inr (inl h))
fails_for old new e Unstorable is h = absurd h

-- how long the text is that was compiled, and how many parameters it has
abbrev pub tail_of : Result Compiled CompileError → ℕ
tail_of (Ok c) = c.tail
tail_of (Err e) = 0

abbrev pub given_of : Result Compiled CompileError → ℕ
given_of (Ok c) = length c.names
given_of (Err e) = 0

-- a query of one statement, which no database of the schema refuses
pub record IsRun (schema : Schema) (sql : List ℕ) (params : Row) : Type 0 where
  pub program : Program
  pub names : List (List ℕ)
  pub is : command_of (understood schema sql) ≡ Select program names
  pub plain : IsPlain (understood schema sql)
  pub whole : leb (length sql) (tail_of (understood schema sql)) ≡ true
  pub given : given_of (understood schema sql) ≡ length params
  pub unlisted : reads_listing schema sql ≡ false
  pub typed : accepts_program schema (lets_of program) program.body params ≡ true
  pub small : (db : Trees) → ¬ ProgramOverflows db params [] (lets_of program) program.body

refused : (limit : Option ℕ) (db : Database) (program : Program) (params : Row) (e : Error)
    → accepts_program db.schema (lets_of program) program.body params ≡ true
    → ¬ ProgramOverflows db.trees params [] (lets_of program) program.body → RefusesQuery limit db program params e → IsSome limit
refused limit db program params e typed small (inl untyped) = absurd (let never = sym typed ∙ untyped.1 in cc)
refused limit db program params e typed small (inr (inl overflow)) = absurd (small overflow.1)
refused limit db program params e typed small (inr (inr stopped)) = stopped.1

-- a refusal to read is no want of memory
refuses_not : (limit : Option ℕ) (db : Database) (program : Program) (params : Row) → ¬ RefusesQuery limit db program params (SqliteFailure code.OutOfMemory)
refuses_not limit db program params (inl untyped) = let is = untyped.0 in cc
refuses_not limit db program params (inr (inl overflow)) = let is = overflow.0 in cc
refuses_not limit db program params (inr (inr stopped)) = let is = stopped.0 in cc

module _ (sql : List ℕ) (params : Row) (old new : State) (schema : Schema) (has : old.now.schema ≡ schema) (runs : IsRun schema sql params) (e : Error) where
  known : (r : Result Compiled CompileError) → understood old.now.schema sql ≡ r → understood schema sql ≡ r
  known r is = sym (ap (λ s. understood s sql) has) ∙ is

  no_statement : IsNoStatement old sql params e → ⊥
  no_statement (inl h) = let is : command_of (Err h.0) ≡ Select runs.program runs.names = ap command_of (sym (known (Err h.0) h.1)) ∙ runs.is in cc
  no_statement (inr h) =
      let is = known (Ok h.0) h.1 in
      elim h.2 [
        | inl long ↦ long.0 (subst (λ n. length sql ≤ n) (ap tail_of is) (leb-true _ _ runs.whole))
        | inr (inl other) ↦ other.0 (sym (sym (ap given_of is) ∙ runs.given))
        | inr (inr timed) ↦ timed.0 (subst IsPlain is runs.plain).1
      ]

  not_run : IsNotRun old new sql params e → Caused old new e
  unfolding IsNotRun
  not_run (inl h) = absurd (no_statement h.0)
  not_run (inr h) = fails_for old new e h.0 h.1 h.2

  pub query_cause : FailsToQuery sql params old new e → Caused old new e
  unfolding FailsToQuery
  query_cause (inl h) = not_run h
  query_cause (inr h) =
      let is = known (Ok h.0) h.1.is in
      let bare = subst IsPlain is runs.plain in
      let it = rw (bare.0, bare.1, append-nil params) at h.2 in
      let db : it.0 ≡ old.now = subst (λ b. IsSourceOf b old.now it.0) (ap (λ s. reads_listing s sql) has ∙ runs.unlisted) it.1 in
      let command : h.0.command ≡ Select runs.program runs.names = ap command_of (sym is) ∙ runs.is in
      let refuses = subst₂ (λ k d. RefusesToRead old.step_limit k d params e) command db it.2 in
      let typed = subst (λ s. accepts_program s (lets_of runs.program) runs.program.body params ≡ true) (sym has) runs.typed in
      inr (inr (inr (refused old.step_limit old.now runs.program params e typed (runs.small old.now.trees) refuses)))

  not_run_wants : IsNotRun old new sql params e → e ≡ SqliteFailure code.OutOfMemory → IsUndoneForMemory old new
  unfolding IsNotRun
  not_run_wants (inl h) is = absurd (no_statement h.0)
  not_run_wants (inr h) is = subst (Fails old new ⊥) is h

  -- an answer that memory is wanted is one of the store
  pub query_wants : FailsToQuery sql params old new e → e ≡ SqliteFailure code.OutOfMemory → IsUndoneForMemory old new
  unfolding FailsToQuery
  query_wants (inl h) is = not_run_wants h is
  query_wants (inr h) is =
      let known_is = known (Ok h.0) h.1.is in
      let bare = subst IsPlain known_is runs.plain in
      let it = rw (bare.0, bare.1, append-nil params) at h.2 in
      let db : it.0 ≡ old.now = subst (λ b. IsSourceOf b old.now it.0) (ap (λ s. reads_listing s sql) has ∙ runs.unlisted) it.1 in
      let command : h.0.command ≡ Select runs.program runs.names = ap command_of (sym known_is) ∙ runs.is in
      let refuses = subst₂ (λ k d. RefusesToRead old.step_limit k d params e) command db it.2 in
      absurd (refuses_not old.step_limit old.now runs.program params (subst (λ x. RefusesQuery old.step_limit old.now runs.program params x) is refuses))

  not_run_undone : IsNotRun old new sql params e → IsUnchanged old new ⊎ IsRolledBack old new
  unfolding IsNotRun
  not_run_undone (inl h) = inl h.1
  not_run_undone (inr h) = inr h.3

  pub query_undone : FailsToQuery sql params old new e → IsUnchanged old new ⊎ IsRolledBack old new
  unfolding FailsToQuery
  query_undone (inl h) = not_run_undone h
  query_undone (inr h) =
      let bare = subst IsPlain (known (Ok h.0) h.1.is) runs.plain in
      let it = rw (bare.0, bare.1, append-nil params) at h.2 in
      inl it.3

-- the fault that is told of it
pub told_fault : {F : Type 0} (Is : F → Type 0) (memory disk : F) (old new : State) (e : Error) → (e ≡ SqliteFailure code.OutOfMemory → Is memory)
    → (HasDiskCause old new → Is disk) → Caused old new e → Is (told memory disk e)
told_fault Is memory disk old new e m d (inl is) = subst Is (sym (ap (told memory disk) is)) (m is)
told_fault Is memory disk old new (SqliteFailure code.OutOfMemory) m d (inr cause) = m refl
told_fault Is memory disk old new _ m d (inr cause) = d cause

pub never_folded : {X : Type 0} (xs : List X) → Any (λ x. ⊥) xs → ⊥
never_folded xs h = h.4

-- an error is want of memory or another, and is told as it is
pub told_either : {F : Type 0} (memory disk : F) (e : Error) → ((e ≡ SqliteFailure code.OutOfMemory) × (told memory disk e ≡ memory))
    ⊎ ((e ≢ SqliteFailure code.OutOfMemory) × (told memory disk e ≡ disk))
told_either memory disk (SqliteFailure code.OutOfMemory) = inl (refl, refl)
told_either memory disk _ = inr ((λ is. cc), refl)
