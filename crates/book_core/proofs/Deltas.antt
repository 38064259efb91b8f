-- A delta as the lists of its names and its marks: equal lists are equal deltas, and those of one item.
use Rattle.std.proofs.Common.{◌≡◌, ℕ, ◌≤◌, List, [], ◌∷◌, refl, sym, ap, ◌∙◌, subst}
use Rattle.std.specs.List.{list_any}
use Rattle.std.specs.Ordering.{nat_cmp, eq_by_cmp}
use Rattle.std.specs.Cmp.Lexicographic.{slice_cmp}
use Rattle.std.specs.FinMap as finite
use Rattle.rights_lattice.specs.Cells.{Valued, all_zero, marks_of, greatest}
use Rattle.rights_lattice.specs.State.{State, bottom, no_names, names_in_order}
use Rattle.rights_lattice.proofs.CellLaws.{same_cells, greatest-marks_of}
use Rattle.rights_lattice.proofs.StateLaws.{same_names}
use Rattle.rights_lattice.proofs.MarkLaws.{marks_of-cells_of, names_in_order-names_of, cells_of-none, cells_of-one, names_of-none, names_of-one}
use Rattle.delta_mutators.specs.declared.delta.Item.TheVariants.{Name, Cell}
use Rattle.delta_mutators.specs.Items as items
use Rattle.book_core.specs.Replay.{HasLists}

pub same_lists : (D S : State) (names : List (List ℕ)) (marks : List Valued) → HasLists D names marks → HasLists S names marks → D ≡ S
same_lists D S names marks d s =
    let known = d.0 ∙ sym s.0 in
    let marked = d.1 ∙ sym s.1 in
    let cells_are = same_cells D.cells S.cells (λ e c. sym (greatest-marks_of D.cells e c) ∙ ap (λ (l : List Valued). greatest l e c) marked
    ∙ greatest-marks_of S.cells e c) in
    let names_are = same_names D.names S.names (λ n. finite.contains_key-keys D.names n ∙ ap (list_any (eq_by_cmp (slice_cmp nat_cmp) n)) known
    ∙ sym (finite.contains_key-keys S.names n)) in
    λ i. record { cells = cells_are i; names = names_are i }

-- a test of a delta's lists is a test of the delta
pub has_lists_of : (D S : State) (names : List (List ℕ)) (marks : List Valued) (P : Type 0) → (P → HasLists D names marks) × (HasLists D names marks → P)
    → HasLists S names marks → (P → D ≡ S) × (D ≡ S → P)
has_lists_of D S names marks P test s = (
  (λ yes. same_lists D S names marks (test.0 yes) s),
  (λ same. test.1 (subst (λ (X : State). HasLists X names marks) (sym same) s)),
)

pub no_names_listed : names_in_order no_names ≡ []
no_names_listed = ap names_in_order (sym names_of-none) ∙ names_in_order-names_of [] refl

pub no_marks_listed : marks_of all_zero ≡ []
no_marks_listed = ap marks_of (sym cells_of-none) ∙ marks_of-cells_of [] refl tt

pub lists_of_nothing : HasLists bottom [] []
lists_of_nothing = (no_names_listed, no_marks_listed)

pub lists_of_name : (name : List ℕ) → HasLists (items.item_state (Name name)) (name ∷ []) []
lists_of_name name = (ap names_in_order (sym (names_of-one name)) ∙ names_in_order-names_of (name ∷ []) refl, no_marks_listed)

pub lists_of_mark : (mark : Valued) → 1 ≤ mark.value → HasLists (items.item_state (Cell mark)) [] (mark ∷ [])
lists_of_mark mark some = (no_names_listed, ap marks_of (sym (cells_of-one mark some)) ∙ marks_of-cells_of (mark ∷ []) refl (some, tt))
