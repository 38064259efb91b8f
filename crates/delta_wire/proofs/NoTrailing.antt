-- Nothing comes behind the end of a delta's text.
use Rattle.std.proofs.Common.{◌≡◌, ◌≢◌, ℕ, ◌+◌, Bool, true, false, cond, List, [], ◌∷◌, ◌++◌, Option, Some, None, Result, Ok, Err}
use Rattle.std.specs.Prelude.{IfErr}
use Rattle.rights_lattice.specs.Cells.{Valued}
use Rattle.rights_lattice.specs.State.{State}
use Rattle.delta_mutators.specs.declared.delta.Item.{Item}
use Rattle.delta_mutators.specs.Rises.{names_in, marks_in}
use Rattle.delta_wire.specs.Items.{comes_next}
use Rattle.delta_wire.specs.declared.items_end.Ending.TheVariants.{AtEndOfBytes}
use Rattle.delta_wire.specs.declared.fault.WireFault.{WireFault}
use Rattle.delta_wire.specs.declared.fault.WireFault.TheVariants.{Truncated, BadLine, OutOfOrder, Trailing, Memory}
use Rattle.delta_wire.specs.Reading.{item_of}
use Rattle.delta_mutators.specs.Lists.{state_from}
use Rattle.delta_wire.specs.Wire.{Gives, is_over, with_item, items_from, delta_from_text}

abbrev Trails : Result State WireFault → Type 0
Trails r = r ≡ Err Trailing

at_last : (b : Bool) (S : State) → Trails (cond b (Ok S) (Err Truncated)) → ⊥
at_last true S e = cc
at_last false S e = cc

if_next : (b : Bool) (n : ℕ) (r : Result State WireFault) → (Trails r → ⊥) → Trails (cond b r (Err (OutOfOrder n))) → ⊥
if_next true n r h e = h e
if_next false n r h e = cc

at_item : (n : ℕ) (ns : List (List ℕ)) (ms : List Valued) (o : Option Item) (go : List (List ℕ) → List Valued → Result State WireFault)
    → ((ns' : List (List ℕ)) (ms' : List Valued) → Trails (go ns' ms') → ⊥) → Trails (with_item n ns ms o go) → ⊥
at_item n ns ms None go h e = cc
at_item n ns ms (Some i) go h e = if_next (comes_next ns ms i) n (go (ns ++ names_in i) (ms ++ marks_in i)) (h (ns ++ names_in i) (ms ++ marks_in i)) e

no_item_trails : (n : ℕ) (ns : List (List ℕ)) (ms : List Valued) (pieces : List (List ℕ)) → Trails (items_from AtEndOfBytes n ns ms pieces) → ⊥
unfolding items_from
no_item_trails n ns ms [] e = cc
no_item_trails n ns ms (last ∷ []) e = at_last (is_over (last ∷ [])) (state_from ns ms) e
no_item_trails n ns ms (line ∷ next ∷ more) e =
    at_item n ns ms (item_of line) (λ ns' ms'. items_from AtEndOfBytes (n + 1) ns' ms' (next ∷ more))
    (λ ns' ms'. no_item_trails (n + 1) ns' ms' (next ∷ more)) e

-- no reading of a delta answers that bytes follow
pub never_trailing : (bytes : List ℕ) (r : Result State WireFault) → Gives r (delta_from_text bytes) → IfErr r (λ fault. fault ≢ Trailing)
never_trailing bytes (Ok S) given = tt
never_trailing bytes (Err Truncated) given = λ e. cc
never_trailing bytes (Err (BadLine n)) given = λ e. cc
never_trailing bytes (Err (OutOfOrder n)) given = λ e. cc
never_trailing bytes (Err Memory) given = λ e. cc
never_trailing bytes (Err Trailing) given = λ e. no_item_trails 1 [] [] _ given
