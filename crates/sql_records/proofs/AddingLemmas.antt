-- The INSERTs of several entries in one transaction, and why it ends without them.
use Rattle.std.proofs.Common.{◌≡◌, inl, inr, ℕ, suc, ◌+◌, ◌<◌, List, [], ◌∷◌, ◌++◌, length, take, get_or, true, Some, Result, Ok, Err, IsErrAnd, sym, ap, subst, ◌∙◌, arith}
use Rattle.std.specs.Prelude.{slice_get}
use Rattle.std.proofs.Math.Seq.{take-suc}
use Rattle.std.proofs.lemmas.List.{length-take-le}
use Rattle.std.proofs.lemmas.Option.{slice_get-get_or}
use Rattle.book_core.specs.declared.entry.Entry.{Entry}
use Rattle.sqlite.specs.Store.{Ghosts}
use Rattle.sqlite.specs.Order.{Row}
use Rattle.sqlite.specs.Held.{Held, state}
use Rattle.sqlite.specs.State.{ExecutesInside}
use Rattle.sqlite.specs.declared.error.Error.{Error}
use Rattle.history_keeper.specs.declared.keeper.KeepFault.TheVariants.{Memory, Disk}
use Rattle.sql_records.specs.Adding.{FailsToPut, inserting}
use Rattle.sql_records.specs.Faults.{told}
use Rattle.sql_records.specs.Making.{RunInTurn}
use Rattle.sql_records.specs.Rows.{columns_of}
use Rattle.sql_records.specs.Texts.{insert_text}
use Rattle.sql_records.proofs.FaultLemmas.{told_either}

-- what holds of each error that may be handed on holds of the result
pub by_err : {T E : Type 0} (r : Result T E) (P : Result T E → Type 0) (Q : E → Type 0) → IsErrAnd r Q → ((e : E) → Q e → P (Err e)) → P r
by_err (Ok x) P Q h k = absurd h
by_err (Err e) P Q h k = k e h

module _ {S : Type 0} (g : Ghosts S) where
  -- statements that were run in turn, and more behind them
  pub run_behind : (first more : List (List ℕ × Row)) (before mid after : Held S) → RunInTurn g first before mid → RunInTurn g more mid after
      → RunInTurn g (first ++ more) before after
  run_behind [] more before mid after ran then = subst (λ b. RunInTurn g more b after) ran then
  run_behind (s ∷ first) more before mid after ran then = (ran.0, ran.1, ran.2, run_behind first more ran.0 mid after ran.3 then)

  -- a transaction in which they were run is still open
  pub run_inside : (statements : List (List ℕ × Row)) (before after : Held S) → RunInTurn g statements before after
      → (state g before).in_transaction ≡ true → (state g after).in_transaction ≡ true
  run_inside [] before after ran inside = subst (λ b. (state g b).in_transaction ≡ true) (sym ran) inside
  run_inside (s ∷ more) before after ran inside = run_inside more ran.0 after ran.3 ran.2.1.mode

  -- an INSERT that failed is told as it failed
  pub told_put : (place : ℕ) (entry : Entry) (before after : Held S) (e : Error)
      → ExecutesInside 0 insert_text (columns_of place entry) (state g before) (state g after) (Err e)
      → FailsToPut g place entry before after (told Memory Disk e)
  told_put place entry before after e h =
      elim (told_either Memory Disk e) [
        | inl memory ↦ subst (FailsToPut g place entry before after) (sym memory.1)
            (inr (subst (λ x. ExecutesInside 0 insert_text (columns_of place entry) (state g before) (state g after) (Err x)) memory.0 h))
        | inr other ↦ subst (FailsToPut g place entry before after) (sym other.1) (inr (e, other.0, h))
      ]

-- the INSERTs of a list, and of what is behind it
inserting_behind : (place : ℕ) (first : List Entry) (entry : Entry)
    → inserting place (first ++ entry ∷ []) ≡ inserting place first ++ inserting (place + length first) (entry ∷ [])
inserting_behind place [] entry = ap (λ n. inserting n (entry ∷ [])) (let e : place ≡ place + 0 = omega arith in e)
inserting_behind place (e ∷ first) entry =
    ap (λ xs. (insert_text, columns_of place e) ∷ xs)
    (inserting_behind (place + 1) first entry
    ∙ ap (λ n. inserting (place + 1) first ++ inserting n (entry ∷ []))
    (let e : place + 1 + length first ≡ place + suc (length first) = omega arith in e))

-- one entry more of a list, and its INSERT
pub take_more : (entries : List Entry) (k : ℕ) (entry : Entry) → k < length entries → entry ≡ get_or entries k entry
    → take (k + 1) entries ≡ take k entries ++ entry ∷ []
take_more entries k entry within is = let e : k + 1 ≡ suc k = omega arith in rw e
    (take-suc entries k entry within ∙ ap (λ x. take k entries ++ x ∷ []) (sym is))

pub inserting_more : (place : ℕ) (entries : List Entry) (k : ℕ) (entry : Entry) → k < length entries → entry ≡ get_or entries k entry
    → inserting place (take (k + 1) entries) ≡ inserting place (take k entries) ++ inserting (place + k) (entry ∷ [])
inserting_more place entries k entry within is =
    ap (inserting place) (take_more entries k entry within is)
    ∙ inserting_behind place (take k entries) entry
    ∙ ap (λ n. inserting place (take k entries) ++ inserting (place + n) (entry ∷ [])) (length-take-le k entries (omega (arith, within)))

-- the entry at a place of a list
pub entry_at : (entries : List Entry) (k : ℕ) (entry : Entry) → k < length entries → entry ≡ get_or entries k entry → slice_get entries k ≡ Some entry
entry_at entries k entry within is = slice_get-get_or entries k entry within ∙ ap Some (sym is)
