-- One line of items read.
use Rattle.std.proofs.Common.{◌≡◌, ℕ, ◌+◌, Bool, subst, true, false, cond, List, [], ◌∷◌, ◌++◌, Option, Some, None, Result, Ok, Err, sym, ap, ◌∙◌, inl, inr, ◌⊎◌}
use Rattle.std.proofs.lemmas.Bool.{cond-true, cond-false}
use Rattle.rights_lattice.specs.Cells.{marks_of}
use Rattle.rights_lattice.specs.State.{State, bottom, names_in_order}
use Rattle.delta_mutators.specs.declared.delta.Item.{Item}
use Rattle.delta_mutators.specs.Rises.{names_in, marks_in}
use Rattle.delta_mutators.proofs.EndLaws.{state_again}
use Rattle.book_core.proofs.Deltas.{no_marks_listed, no_names_listed}
use Rattle.delta_wire.specs.declared.items_end.Ending.{Ending}
use Rattle.delta_wire.specs.declared.fault.WireFault.{WireFault}
use Rattle.delta_wire.specs.declared.fault.WireFault.TheVariants.{Truncated, BadLine, OutOfOrder, Trailing, Memory}
use Rattle.delta_wire.specs.Items.{comes_next}
use Rattle.delta_wire.specs.Reading.{item_of}
use Rattle.delta_wire.specs.declared.items_end.Ending.TheVariants.{AtEndLine, AtEndOfBytes}
use Rattle.delta_wire.specs.Wire.{Gives, is_over, ends, at_last, with_item, items_from, BeginsWithItem}

abbrev pub Read : Type 0
Read = Result State WireFault

-- what is read from a delta on
abbrev pub reads : Ending → ℕ → State → List (List ℕ) → Read
reads e n S pieces = items_from e n (names_in_order S.names) (marks_of S.cells) pieces

pub starts : (e : Ending) (n : ℕ) (S : State) (pieces : List (List ℕ)) → S ≡ bottom → reads e n S pieces ≡ items_from e n [] [] pieces
starts e n S pieces is =
    ap (λ (T : State). reads e n T pieces) is ∙ (λ i. items_from e n (no_names_listed i) (no_marks_listed i) pieces)

-- a line was taken off
pub record IsTakenOff (now rest : List (List ℕ)) (line : List ℕ) : Type 0 where
  pub next : List ℕ
  pub more : List (List ℕ)
  pub after : rest ≡ next ∷ more
  pub before : now ≡ line ∷ next ∷ more

pub taken_off : (now rest : List (List ℕ)) (line : List ℕ) → (next : List ℕ) × (more : List (List ℕ)) × (rest ≡ next ∷ more) × (now ≡ line ∷ next ∷ more)
    → IsTakenOff now rest line
taken_off now rest line w = record { next = w.0; more = w.1; after = w.2; before = w.3 }

pub gives_same : {Y : Type 0} (r t : Result Y WireFault) → t ≡ r → Gives r t
gives_same (Ok x) t e = e
gives_same (Err Truncated) t e = e
gives_same (Err (BadLine n)) t e = e
gives_same (Err (OutOfOrder n)) t e = e
gives_same (Err Trailing) t e = e
gives_same (Err Memory) t e = tt

pub last_is : (e : Ending) (n : ℕ) (S : State) (now rest : List (List ℕ)) (last : List ℕ) (total result : Read) → reads e n S now ≡ total → now ≡ last ∷ []
    → rest ≡ now → result ≡ at_last e rest S → Gives result total
unfolding items_from
last_is e n S now rest last total result h is same r =
    gives_same result total
    (sym h ∙ ap (reads e n S) is
    ∙ ap (at_last e (last ∷ [])) (state_again S)
    ∙ ap (λ (p : List (List ℕ)). at_last e p S) (sym (same ∙ is)) ∙ sym r)

at_end : (e : Ending) (n : ℕ) (S : State) (now : List (List ℕ)) (line next : List ℕ) (more : List (List ℕ)) → now ≡ line ∷ next ∷ more → ends e line ≡ true
    → reads e n S now ≡ cond (is_over (next ∷ more)) (Ok S) (Err Trailing)
unfolding items_from
at_end e n S now line next more is t =
    ap (reads e n S) is ∙ cond-true (ends e line) _ _ t ∙ ap (λ (T : State). cond (is_over (next ∷ more)) (Ok T) (Err Trailing)) (state_again S)

at_item : (e : Ending) (n : ℕ) (S : State) (now : List (List ℕ)) (line next : List ℕ) (more : List (List ℕ)) → now ≡ line ∷ next ∷ more → ends e line ≡ false
    → reads e n S now ≡ with_item n (names_in_order S.names) (marks_of S.cells) (item_of line) (λ ns ms. items_from e (n + 1) ns ms (next ∷ more))
unfolding items_from
at_item e n S now line next more is t = ap (reads e n S) is ∙ cond-false (ends e line) _ _ t

pub ends_well : (e : Ending) (n : ℕ) (S : State) (now rest : List (List ℕ)) (line : List ℕ) (total : Read) → reads e n S now ≡ total
    → IsTakenOff now rest line → ends e line ≡ true → is_over rest ≡ true → total ≡ Ok S
ends_well e n S now rest line total h t is over =
    sym h ∙ at_end e n S now line t.next t.more t.before is ∙ cond-true (is_over (t.next ∷ t.more)) (Ok S) (Err Trailing) (ap is_over (sym t.after) ∙ over)

pub trails : (e : Ending) (n : ℕ) (S : State) (now rest : List (List ℕ)) (line : List ℕ) (total : Read) → reads e n S now ≡ total
    → IsTakenOff now rest line → ends e line ≡ true → is_over rest ≡ false → total ≡ Err Trailing
trails e n S now rest line total h t is over =
    sym h ∙ at_end e n S now line t.next t.more t.before is ∙ cond-false (is_over (t.next ∷ t.more)) (Ok S) (Err Trailing) (ap is_over (sym t.after) ∙ over)

pub is_bad : (e : Ending) (n : ℕ) (S : State) (now rest : List (List ℕ)) (line : List ℕ) (total : Read) → reads e n S now ≡ total
    → IsTakenOff now rest line → ends e line ≡ false → item_of line ≡ None → total ≡ Err (BadLine n)
is_bad e n S now rest line total h t is none =
    sym h ∙ at_item e n S now line t.next t.more t.before is
    ∙ ap (λ (o : Option Item). with_item n (names_in_order S.names) (marks_of S.cells) o (λ ns ms. items_from e (n + 1) ns ms (t.next ∷ t.more))) none

pub is_low : (e : Ending) (n : ℕ) (S : State) (now rest : List (List ℕ)) (line : List ℕ) (i : Item) (total : Read) → reads e n S now ≡ total
    → IsTakenOff now rest line → ends e line ≡ false → item_of line ≡ Some i → comes_next (names_in_order S.names) (marks_of S.cells) i ≡ false
    → total ≡ Err (OutOfOrder n)
is_low e n S now rest line i total h t is some low =
    sym h ∙ at_item e n S now line t.next t.more t.before is
    ∙ ap (λ (o : Option Item). with_item n (names_in_order S.names) (marks_of S.cells) o (λ ns ms. items_from e (n + 1) ns ms (t.next ∷ t.more))) some
    ∙ cond-false (comes_next (names_in_order S.names) (marks_of S.cells) i) _ _ low

pub goes_on : (e : Ending) (n : ℕ) (S S' : State) (now rest : List (List ℕ)) (line : List ℕ) (i : Item) (total : Read) → reads e n S now ≡ total
    → IsTakenOff now rest line → ends e line ≡ false → item_of line ≡ Some i → comes_next (names_in_order S.names) (marks_of S.cells) i ≡ true
    → names_in_order S'.names ≡ names_in_order S.names ++ names_in i → marks_of S'.cells ≡ marks_of S.cells ++ marks_in i → reads e (n + 1) S' rest ≡ total
goes_on e n S S' now rest line i total h t is some up names marks =
    (λ k. items_from e (n + 1) (names k) (marks k) (t.after k))
    ∙ sym (cond-true (comes_next (names_in_order S.names) (marks_of S.cells) i) _ _ up)
    ∙ sym (ap (λ (o : Option Item). with_item n (names_in_order S.names) (marks_of S.cells) o (λ ns ms. items_from e (n + 1) ns ms (t.next ∷ t.more))) some)
    ∙ sym (at_item e n S now line t.next t.more t.before is) ∙ h

-- ---- where memory is wanted

-- what was read so far: nothing yet, or from the first line on
abbrev pub IsEmptyOrBegun : List (List ℕ) → List (List ℕ) → Type 0
IsEmptyOrBegun first now = (now ≡ first) ⊎ BeginsWithItem first

item_is_there : (now rest : List (List ℕ)) (line : List ℕ) (i : Item) → IsTakenOff now rest line → item_of line ≡ Some i → BeginsWithItem now
item_is_there now rest line i t is = subst BeginsWithItem (sym t.before) (i, is)

-- an item was read, so the first line spells one
pub begins_with_item : (first now rest : List (List ℕ)) (line : List ℕ) (i : Item) → IsEmptyOrBegun first now → IsTakenOff now rest line
    → item_of line ≡ Some i → BeginsWithItem first
begins_with_item first now rest line i (inl same) t is = subst BeginsWithItem same (item_is_there now rest line i t is)
begins_with_item first now rest line i (inr h) t is = h

cond_wants_none : (b : Bool) (S : State) → ◌≡◌ {A = Read} (cond b (Ok S) (Err Truncated)) (Err Memory) → ⊥
cond_wants_none true S e = cc
cond_wants_none false S e = cc

pub last_wants_none : (e : Ending) (pieces : List (List ℕ)) (S : State) → at_last e pieces S ≡ Err Memory → ⊥
last_wants_none AtEndLine pieces S h = cc
last_wants_none AtEndOfBytes pieces S h = cond_wants_none (is_over pieces) S h
