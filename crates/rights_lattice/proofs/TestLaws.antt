-- What tests answer.
use Rattle.std.proofs.Common.{◌≡◌, ℕ, zero, suc, true, false, cond, T, refl, sym, subst, arith}
use Rattle.std.specs.Prelude.{IsTrue, ◌==◌}

pub one_if_zero : (v : ℕ) → v ≡ 0 → cond (v == 0) 1 0 ≡ suc zero
one_if_zero zero h = refl
one_if_zero (suc v) h = absurd (omega arith)

pub refused : (P : Type 0) → (P → ⊥) → (IsTrue false → P) × (P → IsTrue false)
refused P h = (λ f. absurd (subst T (sym f) tt), λ p. absurd (h p))

pub granted : (P : Type 0) → P → (IsTrue true → P) × (P → IsTrue true)
granted P p = (λ t. p, λ q. refl)
