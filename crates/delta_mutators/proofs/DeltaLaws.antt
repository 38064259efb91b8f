-- Lists of a delta as the state that they are.
use Rattle.std.proofs.Common.{◌≡◌, ℕ, ◌≤◌, Bool, true, false, ◌||◌, List, [], ◌∷◌, length, refl, sym, ap, ◌∙◌, subst, arith}
use Rattle.rights_lattice.specs.Cells.{Cells, Valued, all_zero, raise}
use Rattle.rights_lattice.specs.Cells as cells
use Rattle.rights_lattice.specs.State.{State, bottom, join, Names, knows, no_names, with_name, join_names}
use Rattle.rights_lattice.specs.Marks.{cells_of, names_of}
use Rattle.rights_lattice.specs.Merging.{IsMerged, IsMergedNames}
use Rattle.rights_lattice.proofs.CellLaws.{same_cells, value_at-join, value_at-raise, value_at-all_zero}
use Rattle.rights_lattice.proofs.StateLaws.{same_names, contains-union, knows-with_name, knows-no_names}
use Rattle.rights_lattice.proofs.MarkLaws.{cells_of-none, cells_of-one, names_of-none, names_of-one, merged_cells, merged_names}
use Rattle.rights_lattice.proofs.OrLaws.{or_false}
use Rattle.delta_mutators.specs.declared.delta.Item.TheVariants.{Name, Cell}
use Rattle.delta_mutators.specs.Lists.{AreLists, state_from}
use Rattle.delta_mutators.specs.Items.{item_state}
use Rattle.delta_mutators.specs.ApplyLaw.{ApplyingIsJoining, AddingIsJoining}

pub applying_is_joining : ApplyingIsJoining
applying_is_joining X m = same_cells _ _
    (λ e c. omega (arith, value_at-raise X m e c, value_at-join X (raise all_zero m) e c, value_at-raise all_zero m e c, value_at-all_zero e c))

join-all_zero : (X : Cells) → X ≡ cells.join X all_zero
join-all_zero X = same_cells _ _ (λ e c. omega (arith, value_at-join X all_zero e c, value_at-all_zero e c))

join_names-no_names : (N : Names) → N ≡ join_names N no_names
join_names-no_names N = same_names _ _ (λ n. sym (contains-union N no_names n ∙ ap (λ b. knows N n || b) (knows-no_names n) ∙ or_false (knows N n)))

with_name-join : (N : Names) (name : List ℕ) → with_name N name ≡ join_names N (with_name no_names name)
with_name-join N name = same_names _ _ (λ n.
    knows-with_name N name n ∙ turned (knows no_names n) _ (knows N n) (knows-no_names n)
    ∙ sym (contains-union N (with_name no_names name) n ∙ ap (λ b. knows N n || b) (knows-with_name no_names name n)))
  where
    turned : (none is known : Bool) → none ≡ false → (is || known) ≡ (known || (is || none))
    turned true is known h = cc
    turned false true true h = refl
    turned false true false h = refl
    turned false false true h = refl
    turned false false false h = refl

pub adding_is_joining : AddingIsJoining
adding_is_joining S (Name name) = λ i. record { cells = join-all_zero S.cells i; names = with_name-join S.names name i }
adding_is_joining S (Cell mark) = λ i. record { cells = applying_is_joining S.cells mark i; names = join_names-no_names S.names i }

pub empty_state : (ns : List (List ℕ)) (ms : List Valued) → ns ≡ [] → ms ≡ [] → state_from ns ms ≡ bottom
empty_state ns ms p q = λ i. record { cells = (ap cells_of q ∙ cells_of-none) i; names = (ap names_of p ∙ names_of-none) i }

pub name_state : (ns : List (List ℕ)) (ms : List Valued) (n : List ℕ) → ns ≡ n ∷ [] → ms ≡ [] → state_from ns ms ≡ item_state (Name n)
name_state ns ms n p q = λ i. record { cells = (ap cells_of q ∙ cells_of-none) i; names = (ap names_of p ∙ names_of-one n) i }

pub mark_state : (ns : List (List ℕ)) (ms : List Valued) (m : Valued) → ns ≡ [] → ms ≡ m ∷ [] → 1 ≤ m.value → state_from ns ms ≡ item_state (Cell m)
mark_state ns ms m p q h = λ i. record { cells = (ap cells_of q ∙ cells_of-one m h) i; names = (ap names_of p ∙ names_of-none) i }

-- the state of merged lists, where the merged lists are those of two states
pub joined : (xs ys us vs out : List Valued) (ns ms ps qs names : List (List ℕ)) → us ≡ xs → vs ≡ ys → ps ≡ ns → qs ≡ ms
    → AreLists ns xs → AreLists ms ys
    → IsMerged us vs out (length us) (length vs) → IsMergedNames ps qs names (length ps) (length qs)
    → ◌≡◌ {A = State} (record { cells = cells_of out; names = names_of names })
    (join (record { cells = cells_of xs; names = names_of ns }) (record { cells = cells_of ys; names = names_of ms }))
joined xs ys us vs out ns ms ps qs names u_is v_is p_is q_is left right marks known =
    let cells_are = merged_cells xs ys out left.marks_rise right.marks_rise left.positive right.positive
    (subst (λ (l : List Valued). IsMerged l ys out (length l) (length ys)) u_is
    (subst (λ (l : List Valued). IsMerged us l out (length us) (length l)) v_is marks)) in
    let names_are = merged_names ns ms names left.names_rise right.names_rise
    (subst (λ (l : List (List ℕ)). IsMergedNames l ms names (length l) (length ms)) p_is
    (subst (λ (l : List (List ℕ)). IsMergedNames ps l names (length ps) (length l)) q_is known)) in
    λ i. record { cells = cells_are i; names = names_are i }
