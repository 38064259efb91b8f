-- Fronts of a text.
use Rattle.std.proofs.Common.{◌≡◌, ℕ, ◌+◌, ◌<◌, List, [], ◌∷◌, ◌++◌, map, take, length, get_or, Option, Result, Ok, Err, sym, ap, ◌∙◌, append_assoc, subst, refl, codes}
use Rattle.std.specs.Prelude.{OnOk}
use Rattle.std.specs.List.{flat_map, AllByRecursion}
use Rattle.site_exchange.specs.declared.message.Message.{Message}
use Rattle.site_exchange.specs.declared.message.Message.TheVariants.{Delta, Ack}
use Rattle.std.specs.Io.KnownBytes.{Appends}
use Rattle.std.proofs.KnownBytes.{Appends-trans}
use Rattle.std.proofs.lemmas.List.Concat.{flat_map-append}
use Rattle.rights_lattice.specs.Cells.{Valued, marks_of}
use Rattle.rights_lattice.specs.State.{State, names_in_order}
use Rattle.delta_mutators.specs.declared.delta.Item.{Item}
use Rattle.delta_mutators.specs.declared.delta.Item.TheVariants as item
use Rattle.delta_wire.specs.Grammar.{item_line, header_line, lines_text, delta_lines, delta_text, message_text, IsItem, IsDelta}
use Rattle.delta_wire.specs.Parts.{name_line, mark_line, names_text, marks_text}
use Rattle.plain_words.specs.Writing.{AppendsFront, Writes}
use Rattle.plain_words.proofs.TextLaws.{texts_break_off, texts_go_on}
use Rattle.plain_words.proofs.WriteLaws.{AppendsFront-after, AppendsFront-longer}

-- one text, and then another
pub Writes-after : {T E : Type 0} (a b c : Option (List ℕ)) (r : Result T E) (xs ys : List ℕ) → Appends a b xs → Writes b c r ys → Writes a c r (xs ++ ys)
Writes-after a b c (Ok x) xs ys p q = Appends-trans a b c xs ys p q
Writes-after a b c (Err e) xs ys p q = AppendsFront-after a b c xs ys p q

pub one_written : {X : Type 0} (f : X → List ℕ) (xs : List X) (k : ℕ) (x : X) (a b c : Option (List ℕ)) (line : List ℕ) → k < length xs → x ≡ get_or xs k x
    → line ≡ f x → Appends a b (flat_map f (take k xs)) → Appends b c line
    → Appends a c (flat_map f (take (k + 1) xs))
one_written f xs k x a b c line lt is text before now = texts_go_on a b c f xs k x lt is before (subst (Appends b c) text now)

pub one_failed : {X : Type 0} (f : X → List ℕ) (xs : List X) (k : ℕ) (x : X) (a b c : Option (List ℕ)) (line : List ℕ) → k < length xs → x ≡ get_or xs k x
    → line ≡ f x → Appends a b (flat_map f (take k xs)) → AppendsFront b c line
    → AppendsFront a c (flat_map f xs)
one_failed f xs k x a b c line lt is text before now = texts_break_off a b c f xs k x lt is before (subst (AppendsFront b c) text now)

-- ---- the parts of a delta

names_part : (ns : List (List ℕ)) (items : List Item)
    → lines_text (map item_line (map (λ n. item.Name n) ns ++ items)) ≡ names_text ns ++ lines_text (map item_line items)
names_part [] items = refl
names_part (n ∷ ns) items = ap (λ (t : List ℕ). name_line n ++ t) (names_part ns items)
    ∙ sym (append_assoc (name_line n) (names_text ns) (lines_text (map item_line items)))

marks_part : (ms : List Valued) → lines_text (map item_line (map (λ m. item.Cell m) ms)) ≡ marks_text ms
marks_part [] = refl
marks_part (m ∷ ms) = ap (λ (t : List ℕ). mark_line m ++ t) (marks_part ms)

pub delta_parts : (S : State) → names_text (names_in_order S.names) ++ marks_text (marks_of S.cells) ≡ delta_text S
delta_parts S = ap (λ (t : List ℕ). names_text (names_in_order S.names) ++ t) (sym (marks_part (marks_of S.cells)))
    ∙ sym (names_part (names_in_order S.names) (map (λ m. item.Cell m) (marks_of S.cells)))

marks_fit : (ms : List Valued) → AllByRecursion (λ m. IsItem (item.Cell m)) ms → AllByRecursion IsItem (map (λ m. item.Cell m) ms)
marks_fit [] h = tt
marks_fit (m ∷ ms) h = (h.0, marks_fit ms h.1)

items_fit : (ns : List (List ℕ)) (ms : List Valued) → AllByRecursion (λ n. IsItem (item.Name n)) ns → AllByRecursion (λ m. IsItem (item.Cell m)) ms
    → AllByRecursion IsItem (map (λ n. item.Name n) ns ++ map (λ m. item.Cell m) ms)
items_fit [] ms h k = marks_fit ms k
items_fit (n ∷ ns) ms h k = (h.0, items_fit ns ms h.1 k)

pub delta_fits : (S : State) → AllByRecursion (λ n. IsItem (item.Name n)) (names_in_order S.names)
    → AllByRecursion (λ m. IsItem (item.Cell m)) (marks_of S.cells) → IsDelta S
delta_fits S h k = items_fit (names_in_order S.names) (marks_of S.cells) h k

-- ---- the parts of a message

pub message_parts : (header : List ℕ) (S : State)
    → (header ++ 10 ∷ []) ++ (delta_text S ++ codes "end\n") ≡ lines_text (header ∷ (delta_lines S ++ codes "end" ∷ []))
message_parts header S = ap (λ (t : List ℕ). (header ++ 10 ∷ []) ++ t)
    (sym (flat_map-append (λ (line : List ℕ). line ++ 10 ∷ []) (delta_lines S) (codes "end" ∷ [])))

pub two_failed : (a b : Option (List ℕ)) (whole s t : List ℕ) → whole ≡ s ++ t → AppendsFront a b s → AppendsFront a b whole
two_failed a b whole s t is p = subst (AppendsFront a b) (sym is) (AppendsFront-longer a b s t p)

pub two_written : {T E : Type 0} (a b c : Option (List ℕ)) (r : Result T E) (whole s t : List ℕ) → whole ≡ s ++ t → Appends a b s → Writes b c r t
    → Writes a c r whole
two_written a b c r whole s t is p q = subst (Writes a c r) (sym is) (Writes-after a b c r s t p q)

pub fits_after : {T E : Type 0} (r : Result T E) (ns : List (List ℕ)) (ms : List Valued) (S : State) → ns ≡ names_in_order S.names → ms ≡ marks_of S.cells
    → AllByRecursion (λ n. IsItem (item.Name n)) ns → OnOk r (AllByRecursion (λ m. IsItem (item.Cell m)) ms) → OnOk r (IsDelta S)
fits_after (Ok x) ns ms S n m h k = delta_fits S (subst (AllByRecursion (λ x. IsItem (item.Name x))) n h)
    (subst (AllByRecursion (λ x. IsItem (item.Cell x))) m k)
fits_after (Err e) ns ms S n m h k = tt

pub whole_items : (S : State) (ns : List (List ℕ)) (ms : List Valued) → ns ≡ names_in_order S.names → ms ≡ marks_of S.cells
    → delta_text S ≡ names_text ns ++ marks_text ms
whole_items S ns ms n m = sym (delta_parts S) ∙ (λ i. names_text (sym n i) ++ marks_text (sym m i))

pub whole_delta : (m : Message) (by to upto : ℕ) (S : State) (header : List ℕ) → m ≡ Delta by to upto S
    → header ≡ header_line (codes "delta") by to upto ++ 10 ∷ [] → message_text m ≡ header ++ (delta_text S ++ codes "end\n")
whole_delta m by to upto S header is h = ap message_text is ∙ sym (message_parts (header_line (codes "delta") by to upto) S)
    ∙ ap (λ (t : List ℕ). t ++ (delta_text S ++ codes "end\n")) (sym h)

pub whole_ack : (m : Message) (by to upto : ℕ) (header : List ℕ) → m ≡ Ack by to upto → header ≡ header_line (codes "ack") by to upto ++ 10 ∷ []
    → message_text m ≡ header ++ codes "end\n"
whole_ack m by to upto header is h = ap message_text is ∙ ap (λ (t : List ℕ). t ++ codes "end\n") (sym h)
