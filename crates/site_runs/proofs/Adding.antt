-- A run to which a new site is added is a run that began with it.
use Rattle.std.proofs.Common.{◌≡◌, ◌⊎◌, inl, inr, ℕ, zero, suc, ◌≤◌, List, [], ◌∷◌, ◌++◌, Some, refl, sym, ap, ◌∙◌, subst, arith, length, length-append}
use Rattle.std.specs.Prelude.{◌<◌, slice_get}
use Rattle.std.proofs.lemmas.List.{set-append_left, length-set}
use Rattle.std.proofs.lemmas.Option.{slice_get_within}
use Rattle.rights_lattice.specs.Sums.{max_sites}
use Rattle.site_desk.specs.SiteView.{SiteView}
use Rattle.site_desk.specs.Calls.{Keeping}
use Rattle.site_runs.specs.Runs.{AreNew, CallAt, IsNew, IsRun, Runs, Sites, moved}

abbrev pub with_site : {K : Type 0} → Sites K → SiteView K → Sites K
with_site s site = record { books = s.books ++ site ∷ []; given = s.given }

found_left : {A : Type 0} (xs ys : List A) (i : ℕ) (x : A) → slice_get xs i ≡ Some x → slice_get (xs ++ ys) i ≡ Some x
found_left [] ys i x found = cc
found_left (y ∷ xs) ys zero x found = found
found_left (y ∷ xs) ys (suc i) x found = found_left xs ys i x found

found_in : {A : Type 0} (xs : List A) (y : A) (i : ℕ) (x : A) → slice_get (xs ++ y ∷ []) i ≡ Some x → (slice_get xs i ≡ Some x) ⊎ ((i ≡ length xs) × (y ≡ x))
found_in [] y zero x found = inr (refl, cc)
found_in [] y (suc i) x found = cc
found_in (z ∷ xs) y zero x found = inl found
found_in (z ∷ xs) y (suc i) x found = elim (found_in xs y i x found) [
  | inl here ↦ inl here
  | inr p ↦ inr (ap suc p.0, p.1)
]

runs_wider : {K : Type 0} (k : Keeping K) (calls : List (CallAt K)) (begin s : Sites K) (site : SiteView K) → Runs k calls begin s
    → Runs k calls (with_site begin site) (with_site s site)
runs_wider k [] begin s site runs = ap (λ t. with_site t site) runs
runs_wider {K} k (c ∷ calls) begin s site runs =
    let same : with_site (moved begin c) site ≡ moved (with_site begin site) c =
    λ j. record {
      books = sym (set-append_left begin.books (site ∷ []) c.site c.after (slice_get_within begin.books c.site runs.0 runs.1)) j;
      given = (moved begin c).given;
    } in (
      runs.0,
      found_left begin.books (site ∷ []) c.site runs.0 runs.1,
      runs.2,
      subst (λ (t : Sites K). Runs k calls t (with_site s site)) same (runs_wider k calls (moved begin c) s site runs.3),
    )

same_length : {K : Type 0} (k : Keeping K) (calls : List (CallAt K)) (begin s : Sites K) → Runs k calls begin s → length s.books ≡ length begin.books
same_length {K} k [] begin s runs = ap (λ (t : Sites K). length t.books) runs
same_length k (c ∷ calls) begin s runs = same_length k calls (moved begin c) s runs.3 ∙ length-set begin.books c.site c.after

new_wider : {K : Type 0} (k : Keeping K) (begin : Sites K) (site : SiteView K) → AreNew k begin → IsNew k (length begin.books) site
    → AreNew k (with_site begin site)
new_wider {K} k begin site are new = record {
  few = omega (arith, new.own, new.few, length-append begin.books (site ∷ []));
  each = λ i x found. by_place i x (found_in begin.books site i x found);
  none = are.none;
}
  where
    by_place : (i : ℕ) (x : SiteView K) → (slice_get begin.books i ≡ Some x) ⊎ ((i ≡ length begin.books) × (site ≡ x)) → IsNew k i x
    by_place i x (inl here) = are.each i x here
    by_place i x (inr p) = subst (λ (y : SiteView K). IsNew k i y) p.1 (subst (λ n. IsNew k n site) (sym p.0) new)

pub adds_on : {K : Type 0} (k : Keeping K) (s : Sites K) (site : SiteView K) → IsRun k s → IsNew k (length s.books) site → IsRun k (with_site s site)
adds_on k s site run new = (
  with_site run.0 site,
  new_wider k run.0 site run.1 (subst (λ n. IsNew k n site) (same_length k run.2 run.0 s run.3) new),
  run.2,
  runs_wider k run.2 run.0 s site run.3,
)
