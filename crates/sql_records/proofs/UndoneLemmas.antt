-- What a query that does not answer leaves.
use Rattle.std.proofs.Common.{◌≡◌, ◌⊎◌, inl, inr, true, List, Option, Some, None, Result, Ok, Err, OnOk, OnErr, IsErrAnd, IsTrue, sym, ◌∙◌, ℕ}
use Rattle.std.proofs.lemmas.Bool.{cond-true}
use Rattle.sqlite_schema.specs.declared.command.Returning.{Returning}
use Rattle.sqlite_resolve.specs.declared.compiled.Compiled.{Compiled}
use Rattle.sqlite.specs.Order.{Row}
use Rattle.sqlite.specs.declared.error.Error.{Error}
use Rattle.sqlite.specs.State.{State, IsUnchanged, IsRolledBack, KeepsCommit, ShowsRows, Shown, FailsToShow, FailsToQuery, IsNotRun, IsTooLate}
use Rattle.sql_records.specs.Held.{IsAtRest, IsUndisturbed}
use Rattle.sql_records.specs.Opening.{IsLeftOrUndone}

pub left_or_undone : (old new : State) → IsUnchanged old new ⊎ IsRolledBack old new → IsLeftOrUndone old new
left_or_undone old new (inl h) = record
    { kept = record { was_open = λ _. h.0.was_open; committed = λ _. h.0.committed_is }; shows = λ _. inl (h.0.now_is, h.0.mode, h.2) }
left_or_undone old new (inr h) = record
    { kept = record { was_open = h.was_open; committed = λ on. (h.undone on).1 }; shows = λ on. inr ((h.undone on).0, h.autocommit, h.unmarked) }

-- at rest, what was undone is what was shown
pub undisturbed : (old new : State) (count : ℕ) → IsAtRest old count → IsLeftOrUndone old new → IsUndisturbed old new
undisturbed old new count rest h on = elim (h.shows on) [ inl s ↦ (s.0, s.1) | inr u ↦ (u.0 ∙ rest.settled, u.1 ∙ sym rest.autocommit) ]

pub left_after : (first mid last : State) → IsUnchanged first mid → IsLeftOrUndone mid last → IsLeftOrUndone first last
left_after first mid last same h = record {
  kept = record { was_open = λ on. same.0.was_open; committed = λ on. h.kept.committed on ∙ same.0.committed_is };
  shows = λ on. elim (h.shows on) [ inl s ↦ inl (s.0 ∙ same.0.now_is, s.1 ∙ same.0.mode, s.2 ∙ same.2) | inr u ↦ inr (u.0 ∙ same.0.committed_is, u.1, u.2) ];
}

-- ---- a statement that is not known, inside a transaction

unchanged_keeps : (old new : State) → IsUnchanged old new → KeepsCommit old new
unchanged_keeps old new h = record { was_open = λ _. h.0.was_open; committed = λ _. h.0.committed_is }

rolled_keeps : (old new : State) → IsRolledBack old new → KeepsCommit old new
rolled_keeps old new h = record { was_open = h.was_open; committed = λ on. (h.undone on).1 }

rows_keep : (old new : State) (sql : List ℕ) (c : Compiled) (params : Row) (rows : List Row) (o : Option Returning) → old.in_transaction ≡ true
    → ShowsRows old new sql c params rows o → KeepsCommit old new
rows_keep old new sql c params rows None within h = unchanged_keeps old new h.3
rows_keep old new sql c params rows (Some what) within h =
    record { was_open = λ _. h.1.shown.was_open; committed = λ _. h.1.shown.committed_is ∙ cond-true old.in_transaction old.committed new.now within }

pub shown_keeps : (sql : List ℕ) (params : Row) (old new : State) (rows : List Row) → old.in_transaction ≡ true → Shown sql params old new rows
    → KeepsCommit old new
unfolding Shown
shown_keeps sql params old new rows within h = rows_keep old new sql h.0 _ rows h.0.returning within h.2

failure_keeps : (old new : State) (sql : List ℕ) (c : Compiled) (params : Row) (e : Error) (o : Option Returning) → FailsToShow old new sql c params e o
    → KeepsCommit old new
failure_keeps old new sql c params e None h = unchanged_keeps old new h.3
failure_keeps old new sql c params e (Some what) (inl h) = unchanged_keeps old new h.1
failure_keeps old new sql c params e (Some what) (inr h) = rolled_keeps old new h.3

not_run_keeps : (sql : List ℕ) (params : Row) (old new : State) (e : Error) → IsNotRun old new sql params e → KeepsCommit old new
unfolding IsNotRun
not_run_keeps sql params old new e (inl h) = unchanged_keeps old new h.1
not_run_keeps sql params old new e (inr h) = rolled_keeps old new h.3

fails_keeps : (sql : List ℕ) (params : Row) (old new : State) (e : Error) → FailsToQuery sql params old new e → KeepsCommit old new
unfolding FailsToQuery
fails_keeps sql params old new e (inl h) = not_run_keeps sql params old new e h
fails_keeps sql params old new e (inr h) = failure_keeps old new sql h.0 _ e h.0.returning h.2

pub error_keeps : (sql : List ℕ) (params : Row) (old new : State) (e : Error) → FailsToQuery sql params old new e ⊎ IsTooLate sql params old new e
    → KeepsCommit old new
error_keeps sql params old new e (inl h) = fails_keeps sql params old new e h
error_keeps sql params old new e (inr h) = unchanged_keeps old new h.5

-- the transaction in which it ran is rolled back
pub undone_outside : (old begun mid new : State) → begun.committed ≡ old.committed → (IsTrue begun.is_open → IsTrue old.is_open) → KeepsCommit begun mid
    → IsRolledBack mid new → IsLeftOrUndone old new
undone_outside old begun mid new same opened ran back = record {
  kept = record { was_open = λ on. opened (ran.was_open (back.was_open on)); committed = λ on. (back.undone on).1 ∙ ran.committed (back.was_open on) ∙ same };
  shows = λ on. inr ((back.undone on).0 ∙ ran.committed (back.was_open on) ∙ same, back.autocommit, back.unmarked);
}

pub on_err : {T E : Type 0} (r : Result T E) (P : Type 0) → P → OnErr r P
on_err (Ok x) P h = tt
on_err (Err e) P h = h

pub of_err : {T E : Type 0} (r : Result T E) (P : Type 0) (Q : E → Type 0) → IsErrAnd r Q → OnOk r P
of_err (Ok x) P Q h = absurd h
of_err (Err e) P Q h = tt
