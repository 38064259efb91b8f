-- Cutting a text at its line breaks.
use Rattle.std.proofs.Common.{◌≡◌, ℕ, ◌+◌, ◌-◌, ◌≤◌, Bool, true, false, cond, eqb, List, [], ◌∷◌, length, take, drop, Some, None, refl, sym, ap, ◌∙◌, arith}
use Rattle.std.specs.List.{slice_split, onto_first, position}
use Rattle.std.proofs.lemmas.Bool.{ne_eqb}
use Rattle.std.proofs.lemmas.List.{take_rest}
use Rattle.std.proofs.lemmas.List.Splits.{length-slice_split}
use Rattle.std.proofs.lemmas.List.Sums.{count_by-le-length}
use Rattle.plain_words.specs.Input.{is_line_break}
use Rattle.plain_words.proofs.LineLaws.{first_part}
use Rattle.plain_words.proofs.WordLaws.{split_none, split_some}
use Rattle.delta_wire.specs.Wire.{is_over}

single_is_not_over : (x : ℕ) (first : List ℕ) (more : List (List ℕ)) → is_over ((x ∷ first) ∷ more) ≡ false
single_is_not_over x first [] = ne_eqb _ _ (λ e. omega arith)
single_is_not_over x first (y ∷ more) = refl

cut_is_not_over : (b : Bool) (x : ℕ) (first : List ℕ) (more rest : List (List ℕ)) → rest ≡ first ∷ more
    → is_over (cond b ([] ∷ rest) (onto_first x rest)) ≡ false
cut_is_not_over true x first more rest e = ap (λ (r : List (List ℕ)). is_over ([] ∷ r)) e
cut_is_not_over false x first more rest e = ap (λ (r : List (List ℕ)). is_over (onto_first x r)) e ∙ single_is_not_over x first more

pub over_at : (rest : List ℕ) → eqb (length rest) 0 ≡ is_over (slice_split is_line_break rest)
over_at [] = refl
over_at (x ∷ xs) =
    let w = first_part is_line_break xs in
    let left : eqb (length (x ∷ xs)) 0 ≡ false = ne_eqb _ _ (λ e. omega arith) in
    left ∙ sym (cut_is_not_over (is_line_break x) x w.0 w.1 (slice_split is_line_break xs) w.2)

pub last_piece : (rest : List ℕ) (now : List (List ℕ)) → slice_split is_line_break rest ≡ now → position is_line_break rest ≡ None
    → (last : List ℕ) × (now ≡ last ∷ [])
last_piece rest now view e = (rest, sym view ∙ split_none is_line_break rest e)

pub next_piece : (rest : List ℕ) (now : List (List ℕ)) (k : ℕ) → slice_split is_line_break rest ≡ now → position is_line_break rest ≡ Some k
    → (next : List ℕ) × (more : List (List ℕ)) × (slice_split is_line_break (take (length rest - (k + 1)) (drop (k + 1) rest)) ≡ next ∷ more)
    × (now ≡ take k rest ∷ next ∷ more)
next_piece rest now k view e =
    let w = first_part is_line_break (drop (k + 1) rest) in
    (w.0, w.1, rw take_rest w.2, sym view ∙ split_some is_line_break rest k e ∙ ap (λ (t : List (List ℕ)). take k rest ∷ t) w.2)

pub few_pieces : (bytes : List ℕ) → length (slice_split is_line_break bytes) ≤ length bytes + 1
few_pieces bytes = omega (arith, length-slice_split is_line_break bytes, count_by-le-length is_line_break bytes)
