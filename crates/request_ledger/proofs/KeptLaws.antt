-- What is kept under a number: as the map looks it up, and after one more entry.
use Rattle.std.proofs.Common.{◌≡◌, ℕ, Bool, true, false, cond, [], ◌∷◌, ◌++◌, Option, Some, None, refl}
use Rattle.std.specs.Prelude.{nat_eq}
use Rattle.std.specs.Map.{lookup}
use Rattle.std.proofs.lemmas.Cmp.{nat_eq_equiv}
use Rattle.request_ledger.specs.declared.reply.Kept.{Kept}
use Rattle.request_ledger.specs.Ledger.{KeptByNumber, kept_under}

first_of_two : (a b : Bool) (k : Kept) (r s : Option Kept) → a ≡ b → r ≡ s → cond a (Some k) r ≡ cond b (Some k) s
first_of_two a b k r s h rest = λ i. cond (h i) (Some k) (rest i)

-- the map's look-up
pub lookup-kept : (number : ℕ) (es : KeptByNumber) → lookup (nat_eq number) es ≡ kept_under es number
lookup-kept number [] = refl
lookup-kept number (e ∷ es) = first_of_two (nat_eq number e.0) (nat_eq e.0 number) e.1 (lookup (nat_eq number) es) (kept_under es number)
    (nat_eq_equiv.symm number e.0) (lookup-kept number es)

-- the first of two, where there is one
abbrev pub or_else : Option Kept → Option Kept → Option Kept
or_else None other = other
or_else (Some k) other = Some k

-- a number that is kept stays so; a new entry is kept under its own
pub kept_under-push : (es : KeptByNumber) (n : ℕ) (k : Kept) (number : ℕ)
    → kept_under (es ++ (n, k) ∷ []) number ≡ or_else (kept_under es number) (cond (nat_eq n number) (Some k) None)
kept_under-push [] n k number = refl
kept_under-push (e ∷ es) n k number = by_test (nat_eq e.0 number) (kept_under-push es n k number)
  where
    by_test : (b : Bool)
        → kept_under (es ++ (n, k) ∷ []) number ≡ or_else (kept_under es number) (cond (nat_eq n number) (Some k) None)
        → cond b (Some e.1) (kept_under (es ++ (n, k) ∷ []) number) ≡ or_else (cond b (Some e.1) (kept_under es number)) (cond (nat_eq n number) (Some k) None)
    by_test true rest = refl
    by_test false rest = rest
