-- A grow-only set of names, kept in the order of first knowing. (The grow-only set: RR-7506, INRIA; the order: our own.)
use Rattle.std.specs.Prelude.{ℕ, if◌then◌else◌, List, [], ◌∷◌, ◌++◌, refl}
use Rattle.std.specs.List.{list_any}
use Rattle.std.specs.Coded.{Coded, code_by, coded_ℕ, coded_list, coded×}
use Rattle.rights_lattice.specs.Cell.{same_event}

-- names with those that are new at the end
abbrev pub with_new : List (List ℕ) → List (List ℕ) → List (List ℕ)
with_new known [] = known
with_new known (e ∷ es) = if list_any (same_event e) known then with_new known es else with_new (known ++ e ∷ []) es

-- what contracts see of a catalogue: the names in the order of first knowing, and room for more
pub record CatalogueView : Type 0 where
  pub names : List (List ℕ)
  pub room : ℕ

abbrev pub coded_catalogue : Coded CatalogueView
coded_catalogue = code_by (List (List ℕ) × ℕ) (coded× (coded_list (coded_list coded_ℕ)) coded_ℕ) (λ c. (c.names, c.room))
    (λ p. record { names = p.0; room = p.1 }) (λ _. refl)
