-- An input that fell short of its limit was read whole.
use Rattle.std.proofs.Common.{◌≡◌, ℕ, ◌+◌, ◌≤◌, List, [], ◌++◌, Option, Some, None, take, length, ap, ◌∙◌, subst, arith, inl, inr}
use Rattle.std.specs.Prelude.{IfSome}
use Rattle.std.specs.Option.{option_map}
use Rattle.std.proofs.lemmas.List.{length-take-le, take_all}
use Rattle.std.proofs.lemmas.Bool.{cases_lt}

short_of : (limit most : ℕ) (bytes buf : List ℕ) → limit ≡ most + 1 → buf ≡ take limit bytes → length buf ≤ most → length bytes ≤ most
short_of limit most bytes buf is read short =
    elim (cases_lt most (length bytes)) [
      | inl q ↦ omega (arith, is, short, ap length read, length-take-le limit bytes (omega (arith, is, q)))
      | inr p ↦ p
    ]

whole : (limit most : ℕ) (bytes buf : List ℕ) → limit ≡ most + 1 → buf ≡ take limit bytes → length buf ≤ most → (buf ≡ bytes) × (length bytes ≤ most)
whole limit most bytes buf is read short =
    let few = short_of limit most bytes buf is read short in (read ∙ take_all limit bytes (omega (arith, is, few)), few)

pub read_whole : (limit most : ℕ) (inner source : Option (List ℕ)) (old buf : List ℕ) → inner ≡ source → limit ≡ most + 1 → old ≡ []
    → IfSome (option_map (take limit) inner) (λ read. buf ≡ old ++ read) → length buf ≤ most → IfSome source (λ bytes. (buf ≡ bytes) × (length bytes ≤ most))
read_whole limit most inner source old buf same is empty read short =
    subst (λ (o : Option (List ℕ)). IfSome o (λ bytes. (buf ≡ bytes) × (length bytes ≤ most))) same (of_inner inner read)
  where
    of_inner : (o : Option (List ℕ)) → IfSome (option_map (take limit) o) (λ read. buf ≡ old ++ read)
        → IfSome o (λ bytes. (buf ≡ bytes) × (length bytes ≤ most))
    of_inner None h = tt
    of_inner (Some bytes) h = whole limit most bytes buf is (h ∙ ap (λ (l : List ℕ). l ++ take limit bytes) empty) short
