-- The two laws of deltas and messages: what is read is spelled so, and what is spelled so is read.
use Rattle.std.proofs.Common.{subst, ◌≡◌, ℕ, suc, ◌+◌, ◌<◌, Bool, true, false, cond, eqb, List, [], ◌∷◌, ◌++◌, map, length, Option, Some, None, Result, Ok, Err, refl, sym, ap, ◌∙◌, arith, inl, inr, codes, append_assoc}
use Rattle.std.specs.Prelude.{IfOk, IsTrue}
use Rattle.std.specs.List.{slice_split, AllByRecursion}
use Rattle.std.proofs.lemmas.Bool.{cases_Bool, and_parts, eqb-true, false≢true, cond-true, cond-false}
use Rattle.std.proofs.lemmas.List.{nil_from_length, append-nil}
use Rattle.std.proofs.lemmas.Slice.Eq.{bytes_eq-Decides}
use Rattle.rights_lattice.specs.Cells.{Valued, marks_of, IsValue}
use Rattle.rights_lattice.specs.State.{State, names_in_order}
use Rattle.delta_mutators.specs.declared.delta.Item.{Item}
use Rattle.delta_mutators.specs.declared.delta.Item.TheVariants as item
use Rattle.rights_lattice.specs.Marks.{are_rising_marks, are_rising_names}
use Rattle.delta_mutators.specs.Rises.{is_after_names, names_in, marks_in}
use Rattle.rights_lattice.proofs.MarkLaws.{names_in_order-names_of, marks_of-cells_of}
use Rattle.delta_mutators.proofs.EndLaws.{AreLists, lists_of, state_again, rising_names-end, rising_marks-end, AreMarks-end, name_after, mark_after}
use Rattle.delta_wire.specs.declared.items_end.Ending.{Ending}
use Rattle.delta_wire.specs.declared.items_end.Ending.TheVariants.{AtEndLine, AtEndOfBytes}
use Rattle.delta_wire.specs.declared.fault.WireFault.{WireFault}
use Rattle.delta_wire.specs.declared.fault.WireFault.TheVariants.{Truncated, OutOfOrder, Trailing}
use Rattle.delta_wire.specs.Grammar.{item_line, items_of, lines_text, delta_lines, delta_text, IsItem, IsDelta}
use Rattle.delta_wire.specs.Items.{comes_next, all_names, all_marks, Extends}
use Rattle.delta_wire.specs.Reading.{item_of}
use Rattle.plain_words.specs.Input.{is_line_break}
use Rattle.delta_mutators.specs.Lists.{state_from}
use Rattle.delta_wire.specs.Wire.{Gives, is_over, ends, at_last, with_item, items_from, delta_from_text}
use Rattle.delta_wire.proofs.LineLaws.{item_found, item_again, item_is_not_end}
use Rattle.delta_wire.proofs.Breaks.{Lacks, item_lacks, split_lines, text_of_lines}

abbrev Read : Type 0
Read = Result State WireFault

-- the pieces behind the items
abbrev pub closing : Ending → List (List ℕ)
closing AtEndLine = codes "end" ∷ [] ∷ []
closing AtEndOfBytes = [] ∷ []

-- what was read from some lines on: the items, and their lines
abbrev pub Spelled : Ending → List (List ℕ) → List Valued → List (List ℕ) → State → Type 0
Spelled e ns ms pieces S = (items : List Item) × (S ≡ state_from (ns ++ all_names items) (ms ++ all_marks items)) × Extends ns ms items
    × (pieces ≡ map item_line items ++ closing e)

pub over_is : (pieces : List (List ℕ)) → is_over pieces ≡ true → pieces ≡ [] ∷ []
over_is [] e = absurd cc
over_is (x ∷ []) e = ap (λ (l : List ℕ). l ∷ []) (nil_from_length x (eqb-true _ _ e))
over_is (x ∷ y ∷ more) e = absurd cc

pub ok_is : {A : Type 0} (x y : A) → ◌≡◌ {A = Result A WireFault} (Ok x) (Ok y) → x ≡ y
ok_is x y e = cc

pub cond_ok : {A : Type 0} (b : Bool) (x y : A) (f : WireFault) → ◌≡◌ {A = Result A WireFault} (cond b (Ok x) (Err f)) (Ok y) → (b ≡ true) × (x ≡ y)
cond_ok true x y f e = (refl, ok_is x y e)
cond_ok false x y f e = absurd cc

state_is : (ns : List (List ℕ)) (ms : List Valued) → state_from ns ms ≡ state_from (ns ++ []) (ms ++ [])
state_is ns ms = λ i. state_from (sym (append-nil ns) i) (sym (append-nil ms) i)

ended_found : (e : Ending) (ns : List (List ℕ)) (ms : List Valued) (line : List ℕ) (rest : List (List ℕ)) (S : State) → ends e line ≡ true
    → cond (is_over rest) (Ok (state_from ns ms)) (Err Trailing) ≡ Ok S → Spelled e ns ms (line ∷ rest) S
ended_found AtEndLine ns ms line rest S t e =
    let c = cond_ok (is_over rest) (state_from ns ms) S Trailing e in (
      [],
      sym c.1 ∙ state_is ns ms,
      tt,
      ap (λ (l : List ℕ). l ∷ rest) ((bytes_eq-Decides line (codes "end")).0 t)
          ∙ ap (λ (r : List (List ℕ)). codes "end" ∷ r) (over_is rest c.0),
    )
ended_found AtEndOfBytes ns ms line rest S t e = absurd (false≢true t)

last_found : (e : Ending) (ns : List (List ℕ)) (ms : List Valued) (pieces : List (List ℕ)) (S : State) → at_last e pieces (state_from ns ms) ≡ Ok S
    → Spelled e ns ms pieces S
last_found AtEndLine ns ms pieces S e = absurd cc
last_found AtEndOfBytes ns ms pieces S e =
    let c = cond_ok (is_over pieces) (state_from ns ms) S Truncated e in
    ([], sym c.1 ∙ state_is ns ms, tt, over_is pieces c.0)

one_more : (e : Ending) (ns : List (List ℕ)) (ms : List Valued) (line : List ℕ) (rest : List (List ℕ)) (S : State) (i : Item)
    → (line ≡ item_line i) × IsItem i → comes_next ns ms i ≡ true
    → Spelled e (ns ++ names_in i) (ms ++ marks_in i) rest S → Spelled e ns ms (line ∷ rest) S
one_more e ns ms line rest S i f up w = (
  i ∷ w.0,
  w.1 ∙ (λ k. state_from (append_assoc ns (names_in i) (all_names w.0) k) (append_assoc ms (marks_in i) (all_marks w.0) k)),
  (f.1, up, w.2),
  ap (λ (l : List ℕ). l ∷ rest) f.0 ∙ ap (λ (r : List (List ℕ)). item_line i ∷ r) w.3,
)

item_step : (e : Ending) (n : ℕ) (ns : List (List ℕ)) (ms : List Valued) (line : List ℕ) (rest : List (List ℕ)) (S : State) (o : Option Item)
    (go : List (List ℕ) → List Valued → Read) → item_of line ≡ o
    → ((ns' : List (List ℕ)) (ms' : List Valued) → go ns' ms' ≡ Ok S → Spelled e ns' ms' rest S) → with_item n ns ms o go ≡ Ok S
    → Spelled e ns ms (line ∷ rest) S
item_step e n ns ms line rest S None go is ih h = absurd cc
item_step e n ns ms line rest S (Some i) go is ih h = elim (cases_Bool (comes_next ns ms i)) [
  | inl up ↦
      let more : go (ns ++ names_in i) (ms ++ marks_in i) ≡ Ok S = sym (cond-true (comes_next ns ms i) _ _ up) ∙ h in
      one_more e ns ms line rest S i (item_found line i is) up (ih (ns ++ names_in i) (ms ++ marks_in i) more)
  | inr other ↦ let bad : ◌≡◌ {A = Read} (Err (OutOfOrder n)) (Ok S) = sym (cond-false (comes_next ns ms i) _ _ other) ∙ h in absurd cc
]

pub found_from : (e : Ending) (n : ℕ) (ns : List (List ℕ)) (ms : List Valued) (pieces : List (List ℕ)) (S : State) → items_from e n ns ms pieces ≡ Ok S
    → Spelled e ns ms pieces S
unfolding items_from
found_from e n ns ms [] S h = absurd cc
found_from e n ns ms (last ∷ []) S h = last_found e ns ms (last ∷ []) S h
found_from e n ns ms (line ∷ next ∷ more) S h = elim (cases_Bool (ends e line)) [
  | inl t ↦ ended_found e ns ms line (next ∷ more) S t (sym (cond-true (ends e line) _ _ t) ∙ h)
  | inr other ↦ item_step e n ns ms line (next ∷ more) S (item_of line) (λ ns' ms'. items_from e (n + 1) ns' ms' (next ∷ more)) refl
      (λ ns' ms'. found_from e (n + 1) ns' ms' (next ∷ more) S) (sym (cond-false (ends e line) _ _ other) ∙ h)
]

-- ---- back

zero_more : (n : ℕ) → n ≡ n + 0
zero_more n = omega arith

later : (n k : ℕ) → n + 1 + k ≡ n + suc k
later n k = omega arith

not_ends : (e : Ending) (i : Item) → IsItem i → ends e (item_line i) ≡ false
not_ends AtEndLine i h = item_is_not_end i h
not_ends AtEndOfBytes i h = refl

shape : (items : List Item) (next : List ℕ) (more : List (List ℕ)) → (x : List ℕ) × (xs : List (List ℕ)) × (map item_line items ++ next ∷ more ≡ x ∷ xs)
shape [] next more = (next, more, refl)
shape (i ∷ items) next more = (item_line i, map item_line items ++ next ∷ more, refl)

-- rising items are read, and then what follows them
pub again_from : (e : Ending) (n : ℕ) (ns : List (List ℕ)) (ms : List Valued) (items : List Item) (next : List ℕ) (more : List (List ℕ)) → Extends ns ms items
    → items_from e n ns ms (map item_line items ++ next ∷ more) ≡ items_from e (n + length items) (ns ++ all_names items) (ms ++ all_marks items) (next ∷ more)
unfolding items_from
again_from e n ns ms [] next more h = λ k. items_from e (zero_more n k) (sym (append-nil ns) k) (sym (append-nil ms) k) (next ∷ more)
again_from e n ns ms (i ∷ items) next more h =
    let w = shape items next more in
    let step : items_from e n ns ms (item_line i ∷ w.0 ∷ w.1) ≡ items_from e (n + 1) (ns ++ names_in i) (ms ++ marks_in i) (w.0 ∷ w.1) =
    cond-false (ends e (item_line i)) _ _ (not_ends e i h.0)
    ∙ ap (λ (o : Option Item). with_item n ns ms o (λ ns' ms'. items_from e (n + 1) ns' ms' (w.0 ∷ w.1))) (item_again i h.0)
    ∙ cond-true (comes_next ns ms i) _ _ h.1 in
    ap (λ (r : List (List ℕ)). items_from e n ns ms (item_line i ∷ r)) w.2
    ∙ step
    ∙ ap (items_from e (n + 1) (ns ++ names_in i) (ms ++ marks_in i)) (sym w.2)
    ∙ again_from e (n + 1) (ns ++ names_in i) (ms ++ marks_in i) items next more h.2
    ∙ (λ k. items_from e (later n (length items) k) (append_assoc ns (names_in i) (all_names items) k) (append_assoc ms (marks_in i) (all_marks items) k)
    (next ∷ more))

-- ---- items in order are those of the delta that they make

name_extends : (ns : List (List ℕ)) (ms : List Valued) (e : List ℕ) → AreLists ns ms → comes_next ns ms (item.Name e) ≡ true
    → AreLists (ns ++ e ∷ []) (ms ++ [])
name_extends ns ms e a up =
    let after = (and_parts (eqb (length ms) 0) (is_after_names ns e) up).1 in
    rw append-nil record { marks_rise = a.marks_rise; names_rise = rising_names-end ns e a.names_rise after; positive = a.positive }

mark_extends : (ns : List (List ℕ)) (ms : List Valued) (m : Valued) → AreLists ns ms → IsValue m.value → comes_next ns ms (item.Cell m) ≡ true
    → AreLists (ns ++ []) (ms ++ m ∷ [])
mark_extends ns ms m a v up =
    rw append-nil record { marks_rise = rising_marks-end ms m a.marks_rise up; names_rise = a.names_rise; positive = AreMarks-end ms m a.positive v.0 }

still_rises : (ns : List (List ℕ)) (ms : List Valued) (items : List Item) → AreLists ns ms → Extends ns ms items
    → AreLists (ns ++ all_names items) (ms ++ all_marks items)
still_rises ns ms [] a h = subst (λ (l : List (List ℕ)). AreLists l (ms ++ [])) (sym (append-nil ns)) (subst (AreLists ns) (sym (append-nil ms)) a)
still_rises ns ms (item.Name e ∷ items) a h =
    let more = still_rises (ns ++ e ∷ []) (ms ++ []) items (name_extends ns ms e a h.1) h.2 in
    subst (λ (l : List (List ℕ)). AreLists l (ms ++ all_marks items)) (append_assoc ns (e ∷ []) (all_names items))
    (subst (AreLists ((ns ++ e ∷ []) ++ all_names items)) (append_assoc ms [] (all_marks items)) more)
still_rises ns ms (item.Cell m ∷ items) a h =
    let more = still_rises (ns ++ []) (ms ++ m ∷ []) items (mark_extends ns ms m a h.0.2 h.1) h.2 in
    subst (λ (l : List (List ℕ)). AreLists l (ms ++ m ∷ all_marks items)) (append_assoc ns [] (all_names items))
    (subst (AreLists ((ns ++ []) ++ all_names items)) (append_assoc ms (m ∷ []) (all_marks items)) more)

length_end : (ms : List Valued) (m : Valued) → 0 < length (ms ++ m ∷ [])
length_end [] m = omega arith
length_end (x ∷ ms) m = omega arith

-- no name comes after a mark
no_names_after : (ns : List (List ℕ)) (ms : List Valued) (items : List Item) → 0 < length ms → Extends ns ms items → all_names items ≡ []
no_names_after ns ms [] lt h = refl
no_names_after ns ms (item.Name e ∷ items) lt h =
    let none = eqb-true (length ms) 0 (and_parts (eqb (length ms) 0) (is_after_names ns e) h.1).0 in
    absurd (omega (arith, none))
no_names_after ns ms (item.Cell m ∷ items) lt h = no_names_after (ns ++ []) (ms ++ m ∷ []) items (length_end ms m) h.2

abbrev pub in_order : List (List ℕ) → List Valued → List Item
in_order ns ms = map (λ n. item.Name n) ns ++ map (λ m. item.Cell m) ms

are_in_order : (ns : List (List ℕ)) (ms : List Valued) (items : List Item) → Extends ns ms items → in_order (all_names items) (all_marks items) ≡ items
are_in_order ns ms [] h = refl
are_in_order ns ms (item.Name e ∷ items) h = ap (λ (t : List Item). item.Name e ∷ t) (are_in_order (ns ++ e ∷ []) (ms ++ []) items h.2)
are_in_order ns ms (item.Cell m ∷ items) h =
    let none = no_names_after (ns ++ []) (ms ++ m ∷ []) items (length_end ms m) h.2 in
    let rest = are_in_order (ns ++ []) (ms ++ m ∷ []) items h.2 in
    ap (λ (l : List (List ℕ)). in_order l (m ∷ all_marks items)) none
    ∙ ap (λ (t : List Item). item.Cell m ∷ t) (sym (ap (λ (l : List (List ℕ)). in_order l (all_marks items)) none) ∙ rest)

all_items : (ns : List (List ℕ)) (ms : List Valued) (items : List Item) → Extends ns ms items → AllByRecursion IsItem items
all_items ns ms [] h = tt
all_items ns ms (i ∷ items) h = (h.0, all_items (ns ++ names_in i) (ms ++ marks_in i) items h.2)

none_rise : AreLists [] []
none_rise = record { marks_rise = refl; names_rise = refl; positive = tt }

-- the items of the delta that was read are those that were spelled
pub items_read : (items : List Item) (S : State) → S ≡ state_from (all_names items) (all_marks items) → Extends [] [] items → items_of S ≡ items
items_read items S is h =
    let a = still_rises [] [] items none_rise h in
    ap items_of is
    ∙ (λ k. in_order (names_in_order-names_of (all_names items) a.names_rise k) (marks_of-cells_of (all_marks items) a.marks_rise a.positive k))
    ∙ are_in_order [] [] items h

-- ---- the items of a delta rise

marks_extend : (ns : List (List ℕ)) (done ms : List Valued) → IsTrue (are_rising_marks (done ++ ms)) → AllByRecursion IsItem (map (λ m. item.Cell m) ms)
    → Extends ns done (map (λ m. item.Cell m) ms)
marks_extend ns done [] h k = tt
marks_extend ns done (m ∷ ms) h k = (
  k.0,
  mark_after done m ms h,
  subst (λ (l : List (List ℕ)). Extends l (done ++ m ∷ []) (map (λ x. item.Cell x) ms)) (sym (append-nil ns))
      (marks_extend ns (done ++ m ∷ []) ms (ap are_rising_marks (append_assoc done (m ∷ []) ms) ∙ h) k.1),
)

items_extend : (done ns : List (List ℕ)) (ms : List Valued) → IsTrue (are_rising_names (done ++ ns)) → IsTrue (are_rising_marks ms)
    → AllByRecursion IsItem (in_order ns ms) → Extends done [] (in_order ns ms)
items_extend done [] ms h g k = marks_extend done [] ms g k
items_extend done (n ∷ ns) ms h g k = (
  k.0,
  name_after done n ns h,
  items_extend (done ++ n ∷ []) ns ms (ap are_rising_names (append_assoc done (n ∷ []) ns) ∙ h) g k.1,
)

no_names_of : (ms : List Valued) → all_names (map (λ m. item.Cell m) ms) ≡ []
no_names_of [] = refl
no_names_of (m ∷ ms) = no_names_of ms

marks_back : (ms : List Valued) → all_marks (map (λ m. item.Cell m) ms) ≡ ms
marks_back [] = refl
marks_back (m ∷ ms) = ap (λ (t : List Valued). m ∷ t) (marks_back ms)

all_names_of : (ns : List (List ℕ)) (ms : List Valued) → all_names (in_order ns ms) ≡ ns
all_names_of [] ms = no_names_of ms
all_names_of (n ∷ ns) ms = ap (λ (t : List (List ℕ)). n ∷ t) (all_names_of ns ms)

all_marks_of : (ns : List (List ℕ)) (ms : List Valued) → all_marks (in_order ns ms) ≡ ms
all_marks_of [] ms = marks_back ms
all_marks_of (n ∷ ns) ms = all_marks_of ns ms

pub items_rise : (S : State) → IsDelta S → Extends [] [] (items_of S)
items_rise S h = let a = lists_of S in items_extend [] (names_in_order S.names) (marks_of S.cells) a.names_rise a.marks_rise h

pub made_again : (S : State) → state_from (all_names (items_of S)) (all_marks (items_of S)) ≡ S
made_again S = (λ k. state_from (all_names_of (names_in_order S.names) (marks_of S.cells) k) (all_marks_of (names_in_order S.names) (marks_of S.cells) k))
    ∙ state_again S

-- ---- a delta's text

pub lines_lack : (items : List Item) → AllByRecursion IsItem items → AllByRecursion Lacks (map item_line items)
lines_lack [] h = tt
lines_lack (i ∷ items) h = (item_lacks i h.0, lines_lack items h.1)

-- what was read before the end of the items
pub spelled_delta : (e : Ending) (n : ℕ) (pieces : List (List ℕ)) (S : State) → items_from e n [] [] pieces ≡ Ok S
    → IsDelta S × (pieces ≡ delta_lines S ++ closing e)
spelled_delta e n pieces S h =
    let w = found_from e n [] [] pieces S h in
    let same = items_read w.0 S w.1 w.2 in
    (subst (AllByRecursion IsItem) (sym same) (all_items [] [] w.0 w.2), w.3 ∙ ap (λ (items : List Item). map item_line items ++ closing e) (sym same))

-- a delta's lines are read, and then what follows them
pub read_delta_lines : (e : Ending) (n : ℕ) (S : State) (next : List ℕ) (more : List (List ℕ)) → IsDelta S
    → items_from e n [] [] (delta_lines S ++ next ∷ more) ≡ items_from e (n + length (items_of S)) (all_names (items_of S)) (all_marks (items_of S))
    (next ∷ more)
read_delta_lines e n S next more h = again_from e n [] [] (items_of S) next more (items_rise S h)

pub delta_found : (bytes : List ℕ) (S : State) → delta_from_text bytes ≡ Ok S → IsDelta S × (bytes ≡ delta_text S)
delta_found bytes S h =
    let f = spelled_delta AtEndOfBytes 1 (slice_split is_line_break bytes) S h in
    (f.0, text_of_lines bytes (delta_lines S) f.1)

text_pieces : (lines : List (List ℕ)) → AllByRecursion Lacks lines → slice_split is_line_break (lines_text lines) ≡ lines ++ [] ∷ []
text_pieces lines h = ap (slice_split is_line_break) (sym (append-nil (lines_text lines))) ∙ split_lines lines [] h

pub delta_again : (S : State) → IsDelta S → delta_from_text (delta_text S) ≡ Ok S
unfolding items_from
delta_again S h =
    ap (items_from AtEndOfBytes 1 [] []) (text_pieces (delta_lines S) (lines_lack (items_of S) h))
    ∙ read_delta_lines AtEndOfBytes 1 S [] [] h
    ∙ ap Ok (made_again S)

pub is_found : (bytes : List ℕ) (r : Read) → Gives r (delta_from_text bytes) → IfOk r (λ S. IsDelta S × (bytes ≡ delta_text S))
is_found bytes (Ok S) given = delta_found bytes S given
is_found bytes (Err e) given = tt
