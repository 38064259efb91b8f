-- Sites that are added one by one.
use Rattle.std.proofs.Common.{◌≡◌, ◌⊎◌, inl, inr, ℕ, ◌+◌, ◌≤◌, ◌<◌, List, [], ◌∷◌, ◌++◌, Some, sym, ap, ◌∙◌, subst, arith, length, length-append, append_assoc}
use Rattle.std.specs.Prelude.{slice_get}
use Rattle.book_core.proofs.Histories.{get_push}
use Rattle.world_steps.specs.NodeView.{NodeView}
use Rattle.world_steps.specs.Nodes.{IsOpened, AreAdded}

-- sites were added up to this number, which is the next
pub record AreSoFar (sites limit : ℕ) (old now : List NodeView) (next : ℕ) : Type 0 where
  pub more : List NodeView
  pub behind : now ≡ old ++ more
  pub place : length old + length more ≡ next
  pub within : (next ≡ length old) ⊎ (next ≤ sites)
  pub opened : (k : ℕ) (node : NodeView) → slice_get more k ≡ Some node → IsOpened sites limit (length old + k) node

pub one_added : (sites limit : ℕ) (old now new : List NodeView) (next : ℕ) (node : NodeView) → AreSoFar sites limit old now next → next < sites
    → new ≡ now ++ node ∷ []
    → IsOpened sites limit next node → AreSoFar sites limit old new (next + 1)
one_added sites limit old now new next node before l is opened = record {
  more = before.more ++ node ∷ [];
  behind = is ∙ ap (λ (ns : List NodeView). ns ++ node ∷ []) before.behind ∙ append_assoc old before.more (node ∷ []);
  place = omega (arith, before.place, length-append before.more (node ∷ []));
  within = inr (omega (arith, l));
  opened = λ k n found. elim (get_push before.more node k n found) [
    | inl p ↦ before.opened k n p.1
    | inr p ↦ subst (λ j. IsOpened sites limit (length old + j) n) (sym p.0)
        (subst (λ j. IsOpened sites limit j n) (sym before.place) (subst (IsOpened sites limit next) p.1 opened))
  ];
}

pub all_added : (sites limit : ℕ) (old now : List NodeView) (next : ℕ) → AreSoFar sites limit old now next → sites ≤ next → AreAdded sites limit old now
all_added sites limit old now next added end = record {
  more = added.more;
  behind = added.behind;
  lacking = elim added.within [ inl e ↦ omega (arith, e, end, added.place) | inr le ↦ omega (arith, le, end, added.place) ];
  opened = added.opened;
}
