-- Lines of a text.
use Rattle.std.proofs.Common.{◌≡◌, ℕ, Bool, true, not, List, [], ◌∷◌, ◌++◌, refl, sym, ap, subst, ◌∙◌, arith, append_assoc}
use Rattle.std.specs.List.{slice_split, join_with_byte, AllByRecursion}
use Rattle.std.proofs.lemmas.Bool.{not_from_false, ne_eqb, false≢true}
use Rattle.std.proofs.lemmas.List.Splits.{slice_split_at, join_with_byte-slice_split}
use Rattle.rights_lattice.specs.EventName.{is_event_byte}
use Rattle.rights_lattice.specs.Limits.{IsSite}
use Rattle.delta_mutators.specs.declared.delta.Item.{Item}
use Rattle.delta_wire.specs.declared.header.Purpose.{Purpose}
use Rattle.delta_wire.specs.Grammar.{item_line, header_line, lines_text, IsUpto, IsItem}
use Rattle.delta_wire.specs.Reading.{purpose_text}
use Rattle.plain_words.specs.Input.{is_line_break}
use Rattle.plain_words.proofs.WordLaws.{lacks_all}
use Rattle.delta_wire.proofs.Bytes.{Holds, IsOfLines, item_holds, header_holds}

abbrev is_no_break : ℕ → Bool
is_no_break b = not (is_line_break b)

abbrev pub Lacks : List ℕ → Type 0
Lacks w = Holds is_no_break w

name_byte_lacks : (b : ℕ) → is_event_byte b ≡ true → is_no_break b ≡ true
name_byte_lacks b e = not_from_false _ (ne_eqb b 10 (λ s. let bad : is_event_byte 10 ≡ true = subst (λ (x : ℕ). is_event_byte x ≡ true) s e in false≢true bad))

breaks_in_no_line : IsOfLines is_no_break
breaks_in_no_line = record { names = name_byte_lacks; digits = λ b low high. not_from_false _ (ne_eqb b 10 (λ s. omega (arith, low, s))); space = refl }

pub item_lacks : (i : Item) → IsItem i → Lacks (item_line i)
item_lacks = item_holds is_no_break breaks_in_no_line

pub header_lacks : (p : Purpose) (by to upto : ℕ) → IsSite by → IsSite to → IsUpto upto → Lacks (header_line (purpose_text p) by to upto)
header_lacks = header_holds is_no_break breaks_in_no_line

-- ---- cutting and joining

-- the pieces of whole lines, and of what follows them
pub split_lines : (lines : List (List ℕ)) (rest : List ℕ) → AllByRecursion Lacks lines
    → slice_split is_line_break (lines_text lines ++ rest) ≡ lines ++ slice_split is_line_break rest
split_lines [] rest h = refl
split_lines (line ∷ lines) rest h =
    ap (slice_split is_line_break) (append_assoc (line ++ 10 ∷ []) (lines_text lines) rest ∙ append_assoc line (10 ∷ []) (lines_text lines ++ rest))
    ∙ slice_split_at is_line_break line 10 (lines_text lines ++ rest) (lacks_all is_line_break line h.0) refl
    ∙ ap (λ (t : List (List ℕ)). line ∷ t) (split_lines lines rest h.1)

shape : (lines : List (List ℕ)) → (next : List ℕ) × (more : List (List ℕ)) × (lines ++ [] ∷ [] ≡ next ∷ more)
shape [] = ([], [], refl)
shape (line ∷ lines) = (line, lines ++ [] ∷ [], refl)

pub join_lines : (lines : List (List ℕ)) → join_with_byte 10 (lines ++ [] ∷ []) ≡ lines_text lines
join_lines [] = refl
join_lines (line ∷ lines) =
    let w = shape lines in
    let one : join_with_byte 10 (line ∷ (lines ++ [] ∷ [])) ≡ line ++ 10
    ∷ join_with_byte 10 (lines ++ [] ∷ []) = ap (λ (r : List (List ℕ)). join_with_byte 10 (line ∷ r)) w.2
    ∙ ap (λ (r : List (List ℕ)). line ++ 10 ∷ join_with_byte 10 r) (sym w.2) in
    one ∙ ap (λ (t : List ℕ). line ++ 10 ∷ t) (join_lines lines) ∙ sym (append_assoc line (10 ∷ []) (lines_text lines))

-- a text is that of its lines
pub text_of_lines : (bytes : List ℕ) (lines : List (List ℕ)) → slice_split is_line_break bytes ≡ lines ++ [] ∷ [] → bytes ≡ lines_text lines
text_of_lines bytes lines e = sym (join_with_byte-slice_split 10 bytes) ∙ ap (join_with_byte 10) e ∙ join_lines lines
