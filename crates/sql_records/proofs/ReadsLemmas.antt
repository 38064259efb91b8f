-- A call that only reads, after another one, and with another answer.
use Rattle.std.proofs.Common.{inl, Result, Ok, Err, OnOk, OnErr, IsErrAnd, ◌∙◌}
use Rattle.sqlite.specs.Store.{Ghosts}
use Rattle.sqlite.specs.State.{State, IsUnchanged}
use Rattle.sqlite.specs.Held.{Held, state}
use Rattle.sql_records.specs.Opening.{IsLeftOrUndone, Reads}
use Rattle.sql_records.proofs.OpeningLemmas.{on_ok, unchanged_twice}
use Rattle.sql_records.proofs.UndoneLemmas.{left_after, left_or_undone, of_err, on_err}

ok_after : {T E : Type 0} (r : Result T E) (a b c : State) → IsUnchanged a b → OnOk r (IsUnchanged b c) → OnOk r (IsUnchanged a c)
ok_after (Ok x) a b c first h = unchanged_twice a b c first h
ok_after (Err e) a b c first h = tt

err_after : {T E : Type 0} (r : Result T E) (a b c : State) → IsUnchanged a b → OnErr r (IsLeftOrUndone b c) → OnErr r (IsLeftOrUndone a c)
err_after (Ok x) a b c first h = tt
err_after (Err e) a b c first h = left_after a b c first h

-- one that answered, and then another
pub reads_on : {S T F U E : Type 0} (g : Ghosts S) (a b c : Held S) (x : T) (r : Result U E) → Reads {S = S} {T = T} {F = F} g a b (Ok x) → Reads g b c r
    → Reads g a c r
reads_on g a b c x r first then = record {
  limit = then.limit ∙ first.limit;
  clean = λ h. first.clean (then.clean h);
  left = λ h db is. first.left (then.clean h) db (then.left h db is);
  same = λ h. ok_after r (state g a) (state g b) (state g c) (first.same (then.clean h)) (then.same h);
  undone = λ h. err_after r (state g a) (state g b) (state g c) (first.same (then.clean h)) (then.undone h);
}

-- one that answered, whatever is made of its answer
pub reads_ok : {S T F U E : Type 0} (g : Ghosts S) (a b : Held S) (x : T) (r : Result U E) → Reads {S = S} {T = T} {F = F} g a b (Ok x) → Reads g a b r
reads_ok g a b x r first = record {
  limit = first.limit;
  clean = first.clean;
  left = first.left;
  same = λ h. on_ok r _ (first.same h);
  undone = λ h. on_err r _ (left_or_undone (state g a) (state g b) (inl (first.same h)));
}

-- one that failed, with the error that is made of its own
pub reads_err : {S T F U E : Type 0} (g : Ghosts S) (a b : Held S) (e : F) (r : Result U E) (Q : E → Type 0) → Reads {S = S} {T = T} {F = F} g a b (Err e)
    → IsErrAnd r Q → Reads g a b r
reads_err g a b e r Q first is = record {
  limit = first.limit;
  clean = first.clean;
  left = first.left;
  same = λ h. of_err r _ Q is;
  undone = λ h. on_err r _ (first.undone h);
}
