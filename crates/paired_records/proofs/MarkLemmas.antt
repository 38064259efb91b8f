-- What a change in one transaction leaves.
use Rattle.std.proofs.Common.{◌≡◌, ◌≢◌, ◌∙◌, inl, inr, ℕ, true, false, List, IsTrue, refl, ap, subst, sym, arith}
use Rattle.sqlite.specs.Store.{Ghosts}
use Rattle.sqlite.specs.Order.{Row}
use Rattle.sqlite.specs.Tree.{Trees}
use Rattle.sqlite.specs.State.{HasCleanDisk, Shows, Survives}
use Rattle.sqlite.specs.Held.{Held, state}
use Rattle.sql_records.specs.Held.{LeavesNoMore}
use Rattle.sql_records.specs.Making.{RunInTurn}
use Rattle.paired_records.specs.Marks.{AreOfOnePairing, IsChangedBy, IsMadeBy, LeavesAsBeforeOr, Says, for_looking, names_in}

-- the statements were run in a transaction, which was committed, or maybe
module _ {S : Type 0} (g : Ghosts S) (statements : List (List ℕ × Row)) (conn begun filled after : Held S) (is : begun ≡ record conn { in_transaction = true })
    (ran : HasCleanDisk (state g filled) → RunInTurn g statements begun filled) where
  made : HasCleanDisk (state g filled) → IsMadeBy g statements conn (state g filled).now.trees
  made clean = record { filled = filled; ran = subst (λ (b : Held S). RunInTurn g statements b filled) is (ran clean); is = refl }

  pub leaves_made : Survives (state g begun) (state g filled) (λ _. ⊥) → Survives (state g filled) (state g after) (λ db. db ≡ (state g filled).now.trees)
      → HasCleanDisk (state g after) → LeavesAsBeforeOr g statements conn after
  leaves_made s t clean = λ db may.
      let before : HasCleanDisk (state g filled) = omega (arith, t.clean, clean) in
      elim (t.crash clean db may) [
        | inl was ↦ elim (s.crash before db was) [
          | inl old ↦ inl (subst (λ (h : Held S). (state g h).may_leave db) is old)
          | inr never ↦ absurd never
        ]
        | inr e ↦ inr (subst (IsMadeBy g statements conn) (sym e) (made before))
      ]

  -- it was committed
  pub changed_by : Survives (state g filled) (state g after) (λ db. db ≡ (state g filled).now.trees)
      → Shows (state g filled) (state g after) (state g filled).now (state g filled).now false
      → ((db : Trees) → IsTrue (state g after).is_open → (state g after).may_leave db → db ≡ (state g after).committed.trees)
      → HasCleanDisk (state g after) → IsChangedBy g statements conn after
  changed_by t shows settled clean =
      let before : HasCleanDisk (state g filled) = omega (arith, t.clean, clean) in
      let now_is : (state g after).now.trees ≡ (state g filled).now.trees = ap (λ d. d.trees) shows.now_is in
      record {
        is_open = shows.is_open;
        autocommit = shows.mode;
        made = subst (IsMadeBy g statements conn) (sym now_is) (made before);
        leaves = λ db may. settled db shows.is_open may ∙ (ap (λ d. d.trees) shows.committed_is ∙ sym now_is);
      }

-- two marks that say the same, and name a file
pub one_pairing : {S : Type 0} (g : Ghosts S) (first first_now second second_now : Held S) (one other : Row) → Says g first first_now (names_in one)
    → Says g second second_now (names_in other) → (names_in one).0 ≢ for_looking → names_in one ≡ names_in other → AreOfOnePairing g first first_now second second_now
one_pairing g first first_now second second_now one other first_says second_says named same = record {
  names = names_in one;
  for_selling = named;
  first_says = first_says;
  second_says = subst (Says g second second_now) (sym same) second_says;
}

-- a transaction that was undone wrote nothing
pub leaves_no_more : {S : Type 0} (g : Ghosts S) (conn begun asked after : Held S) → begun ≡ record conn { in_transaction = true }
    → Survives (state g begun) (state g asked) (λ _. ⊥) → Survives (state g asked) (state g after) (λ _. ⊥)
    → HasCleanDisk (state g after) → LeavesNoMore (state g conn) (state g after)
leaves_no_more {S = S} g conn begun asked after is s t clean = λ db may.
    let before : HasCleanDisk (state g asked) = omega (arith, t.clean, clean) in
    elim (t.crash clean db may) [
      | inl was ↦ elim (s.crash before db was) [
        | inl old ↦ subst (λ (h : Held S). (state g h).may_leave db) is old
        | inr never ↦ absurd never
      ]
      | inr never ↦ absurd never
    ]
