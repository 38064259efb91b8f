-- Rising lists by the order of their keys: what is put between, and what takes the place of a tied one.
use Rattle.std.proofs.Common.{◌≡◌, Bool, true, false, ◌&&◌, T, List, [], ◌∷◌, ◌++◌, map, refl, sym, ap, subst}
use Rattle.std.specs.Ordering.{is_lt}
use Rattle.std.specs.Cmp.{IsTotalOrder}
use Rattle.std.specs.declared.cmp.Ordering.{Ordering}
use Rattle.std.specs.declared.cmp.Ordering.TheVariants.{Less, Equal, Greater}
use Rattle.std.specs.FinMap.Entries as entry

pub first : (a b : Bool) → T (a && b) → T a
first true b h = tt
first false b h = absurd h

pub second : (a b : Bool) → T (a && b) → T b
second true b h = h
second false b h = absurd h

pub both : (a b : Bool) → T a → T b → T (a && b)
both true b g h = h
both false b g h = absurd g

pub less : (r : Ordering) → T (is_lt r) → r ≡ Less
less Less h = refl
less Equal h = absurd h
less Greater h = absurd h

module _ {A K X : Type 0} (R : K → K → Ordering) (o : IsTotalOrder R) (f : A → K × X) where
  -- the key of x is below that of the first, if there is one
  abbrev pub BelowFirst : A → List A → Type 0
  BelowFirst x [] = Unit {0}
  BelowFirst x (g ∷ gs) = R (f x).0 (f g).0 ≡ Less

  below_less : (x y : K) (es : List (K × X)) → R x y ≡ Less → T (entry.below_all R y es) → T (entry.below_all R x es)
  below_less x y [] p h = tt
  below_less x y (e ∷ es) p h = both _ _ (subst (λ r. T (is_lt r)) (sym (o.trans x y e.0 p (less _ (first _ _ h)))) tt) (below_less x y es p (second _ _ h))

  pub below_rest : (x : A) (gs : List A) → BelowFirst x gs → T (entry.is_sorted R (map f gs)) → T (entry.below_all R (f x).0 (map f gs))
  below_rest x [] b h = tt
  below_rest x (g ∷ gs) b h = both _ _ (subst (λ r. T (is_lt r)) (sym b) tt) (below_less (f x).0 (f g).0 (map f gs) b (first _ _ h))

  below_between : (k : K) (es fs gs : List A) (x : A) → T (entry.below_all R k (map f (es ++ x ∷ fs))) → T (entry.below_all R k (map f (es ++ gs)))
      → T (entry.below_all R k (map f (es ++ x ∷ gs)))
  below_between k [] fs gs x h g = both _ _ (first _ _ h) g
  below_between k (e ∷ es) fs gs x h g = both _ _ (first _ _ h) (below_between k es fs gs x (second _ _ h) (second _ _ g))

  pub rising_between : (es fs gs : List A) (x : A) → T (entry.is_sorted R (map f (es ++ x ∷ fs))) → T (entry.is_sorted R (map f (es ++ gs)))
      → BelowFirst x gs → T (entry.is_sorted R (map f (es ++ x ∷ gs)))
  rising_between [] fs gs x h g b = both _ _ (below_rest x gs b g) g
  rising_between (e ∷ es) fs gs x h g b = both _ _ (below_between (f e).0 es fs gs x (first _ _ h) (first _ _ g))
      (rising_between es fs gs x (second _ _ h) (second _ _ g) b)

  below_tied : (k : K) (es fs : List A) (x m : A) → (f m).0 ≡ (f x).0 → entry.below_all R k (map f (es ++ m ∷ fs)) ≡ entry.below_all R k (map f (es ++ x ∷ fs))
  below_tied k [] fs x m p = ap (λ q. is_lt (R k q) && entry.below_all R k (map f fs)) p
  below_tied k (e ∷ es) fs x m p = ap (λ b. is_lt (R k (f e).0) && b) (below_tied k es fs x m p)

  pub rising_tied : (es fs : List A) (x m : A) → (f m).0 ≡ (f x).0 → entry.is_sorted R (map f (es ++ m ∷ fs)) ≡ entry.is_sorted R (map f (es ++ x ∷ fs))
  rising_tied [] fs x m p = ap (λ q. entry.below_all R q (map f fs) && entry.is_sorted R (map f fs)) p
  rising_tied (e ∷ es) fs x m p = λ i. below_tied (f e).0 es fs x m p i && rising_tied es fs x m p i
