-- The first line of an input.
use Rattle.std.proofs.Common.{Ok, inl, inr, ◌≢◌, ◌≡◌, ℕ, zero, suc, ◌+◌, ◌<◌, ◌≤◌, leb, zero-add, Bool, true, false, eqb, cond, List, [], ◌∷◌, ◌++◌, length, Option, Some, None, refl, sym, ap, subst, ◌∙◌, arith, append_assoc, length-append, All}
use Rattle.std.specs.List.{slice_split, onto_first, AllByRecursion}
use Rattle.std.specs.Io.KnownBytes.{Consumes, IsAtEnd}
use Rattle.std.proofs.KnownBytes.{Consumes-trans}
use Rattle.std.proofs.lemmas.Bool.{cond-true, cond-false, ne_eqb, cases_Bool, eqb-true, le-leb, lt-leb}
use Rattle.std.proofs.lemmas.List.{append-nil}
use Rattle.std.proofs.lemmas.List.Splits.{slice_split_none, slice_split_at}
use Rattle.std.proofs.lemmas.List.Elements.{All-from_recursion}
use Rattle.std.specs.Prelude.{is_some}
use Rattle.plain_words.specs.declared.lines.ReadFault.{ReadFault}
use Rattle.plain_words.specs.Input.{ByteGives, MoreGives, is_line_break, longest_line, without_empty_last, lines_of, Between, BeginsTooLong, GivesUp, taken, TakenLines, InputEnd, AtEnd, AtLongLine, AtTooMany, with_line, none_taken}

abbrev pub HasNoBreak : List ℕ → Type 0
HasNoBreak line = AllByRecursion (λ b. is_line_break b ≡ false) line

lacks : (line : List ℕ) → HasNoBreak line → All (λ b. is_line_break b ≡ false) line
lacks line h = All-from_recursion (λ b. is_line_break b ≡ false) line h

pub HasNoBreak-push : (line : List ℕ) (b : ℕ) → HasNoBreak line → is_line_break b ≡ false → HasNoBreak (line ++ b ∷ [])
HasNoBreak-push [] b h e = (e, tt)
HasNoBreak-push (x ∷ line) b h e = (h.0, HasNoBreak-push line b h.1 e)

-- there is a first part
pub first_part : (p : ℕ → Bool) (xs : List ℕ) → (first : List ℕ) × (more : List (List ℕ)) × (slice_split p xs ≡ first ∷ more)
first_part p [] = ([], [], refl)
first_part p (x ∷ xs) = let w = first_part p xs in part (p x) x w.0 w.1 (slice_split p xs) w.2 where
  part : (b : Bool) (x : ℕ) (first : List ℕ) (more : List (List ℕ)) (rest : List (List ℕ)) → rest ≡ first ∷ more
      → (f : List ℕ) × (m : List (List ℕ)) × (cond b ([] ∷ rest) (onto_first x rest) ≡ f ∷ m)
  part true x first more rest e = ([], rest, refl)
  part false x first more rest e = (x ∷ first, more, ap (onto_first x) e)

keeps_first : (x : List ℕ) (rest : List (List ℕ)) (first : List ℕ) (more : List (List ℕ)) → rest ≡ first ∷ more
    → without_empty_last (x ∷ rest) ≡ x ∷ without_empty_last rest
keeps_first x rest first more e = ap (λ (r : List (List ℕ)). without_empty_last (x ∷ r)) e ∙ ap (λ (r : List (List ℕ)). x ∷ without_empty_last r) (sym e)

pub lines_of-cut : (line rest : List ℕ) → HasNoBreak line → lines_of (line ++ 10 ∷ rest) ≡ line ∷ lines_of rest
unfolding lines_of
lines_of-cut line rest h =
    let w = first_part is_line_break rest in
    ap without_empty_last (slice_split_at is_line_break line 10 rest (lacks line h) refl) ∙ keeps_first line (slice_split is_line_break rest) w.0 w.1 w.2

pub lines_of-nil : lines_of [] ≡ []
unfolding lines_of
lines_of-nil = refl

single : (line : List ℕ) → 0 < length line → without_empty_last (line ∷ []) ≡ line ∷ []
single line h = cond-false (eqb (length line) 0) [] (line ∷ []) (ne_eqb _ _ (λ e. omega arith))

pub lines_of-last : (line : List ℕ) → HasNoBreak line → 0 < length line → lines_of line ≡ line ∷ []
unfolding lines_of
lines_of-last line h more = ap without_empty_last (slice_split_none is_line_break line (lacks line h)) ∙ single line more

-- a front without a line break goes onto the first part
split_front : (line rest first : List ℕ) (more : List (List ℕ)) → HasNoBreak line → slice_split is_line_break rest ≡ first ∷ more
    → slice_split is_line_break (line ++ rest) ≡ (line ++ first) ∷ more
split_front [] rest first more h e = e
split_front (x ∷ line) rest first more h e =
    rw h.0 (ap (onto_first x) (split_front line rest first more h.1 e))

too_long : (x : List ℕ) (more : List (List ℕ)) → longest_line < length x → BeginsTooLong (without_empty_last (x ∷ more))
too_long x [] h = rw (single x (omega arith)) h
too_long x (y ∷ more) h = h

pub lines_of-long : (line rest : List ℕ) → HasNoBreak line → longest_line < length line → BeginsTooLong (lines_of (line ++ rest))
unfolding lines_of
lines_of-long line rest h long =
    let w = first_part is_line_break rest in
    let e = split_front line rest w.0 w.1 h w.2 in
    subst (λ (parts : List (List ℕ)). BeginsTooLong (without_empty_last parts)) (sym e) (too_long (line ++ w.0) w.1 (omega (arith, length-append line w.0)))

-- ---- what a reader has left

pub ends_line : (a b c : Option (List ℕ)) (line byte : List ℕ) → HasNoBreak line → Consumes a b line → Consumes b c byte → byte ≡ 10 ∷ []
    → Between a c (λ before after. lines_of before ≡ line ∷ lines_of after)
ends_line None b c line byte h p q e = tt
ends_line (Some x) None c line byte h p q e = absurd p
ends_line (Some x) (Some y) None line byte h p q e = absurd q
ends_line (Some x) (Some y) (Some z) line byte h p q e = ap lines_of (p ∙ ap (λ (t : List ℕ). line ++ t) (q ∙ ap (λ (t : List ℕ). t ++ z) e))
    ∙ lines_of-cut line z h

pub ends_input : (a b c : Option (List ℕ)) (line : List ℕ) → HasNoBreak line → Consumes a b line → Consumes b c [] → IsAtEnd c → 0 < length line
    → Between a c (λ before after. lines_of before ≡ line ∷ lines_of after)
ends_input None b c line h p q e more = tt
ends_input (Some x) None c line h p q e more = absurd p
ends_input (Some x) (Some y) None line h p q e more = absurd q
ends_input (Some x) (Some y) (Some z) line h p q e more =
    let whole : x ≡ line = p ∙ ap (λ (t : List ℕ). line ++ t) (q ∙ e) ∙ append-nil line in
    ap lines_of whole ∙ lines_of-last line h more ∙ ap (λ (t : List (List ℕ)). line ∷ t) (sym (ap lines_of e ∙ lines_of-nil))

pub has_no_line : (a b c : Option (List ℕ)) (line : List ℕ) → Consumes a b line → Consumes b c [] → IsAtEnd c → line ≡ []
    → Between a c (λ before after. (lines_of before ≡ []) × (lines_of after ≡ []))
has_no_line None b c line p q e nothing = tt
has_no_line (Some x) None c line p q e nothing = absurd p
has_no_line (Some x) (Some y) None line p q e nothing = absurd q
has_no_line (Some x) (Some y) (Some z) line p q e nothing = (
  ap lines_of (p ∙ ap (λ (t : List ℕ). t ++ y) nothing ∙ q ∙ e) ∙ lines_of-nil,
  ap lines_of e
      ∙ lines_of-nil,
)

begins_too_long : (a b c : Option (List ℕ)) (line : List ℕ) (byte : ℕ) → HasNoBreak line → Consumes a b line → Consumes b c (byte ∷ [])
    → is_line_break byte ≡ false → longest_line ≤ length line → Between a c (λ before after. BeginsTooLong (lines_of before))
begins_too_long None b c line byte h p q e more = tt
begins_too_long (Some x) None c line byte h p q e more = absurd p
begins_too_long (Some x) (Some y) None line byte h p q e more = absurd q
begins_too_long (Some x) (Some y) (Some z) line byte h p q e more =
    let whole : x ≡ (line ++ byte ∷ []) ++ z = Consumes-trans (Some x) (Some y) (Some z) line (byte ∷ []) p q in
    subst (λ (t : List ℕ). BeginsTooLong (lines_of t)) (sym whole)
    (lines_of-long (line ++ byte ∷ []) z (HasNoBreak-push line byte h e) (omega (arith, length-append line (byte ∷ []))))

no_break_is : (byte : ℕ) → is_line_break byte ≡ false → byte ≢ 10
no_break_is byte e is = let t : is_line_break byte ≡ true = ap is_line_break is in cc

pub passes_limit : (a b c : Option (List ℕ)) (line : List ℕ) (byte : ℕ) → HasNoBreak line → Consumes a b line → Consumes b c (byte ∷ [])
    → is_line_break byte ≡ false → length line ≡ longest_line
    → GivesUp a c line × Between a c (λ before after. BeginsTooLong (lines_of before))
passes_limit a b c line byte h p q e full =
    ((byte, no_break_is byte e, full, Consumes-trans a b c line (byte ∷ []) p q), begins_too_long a b c line byte h p q e (omega (arith, full)))

not_empty : (b : ℕ) (x : List ℕ) (more : List (List ℕ)) → without_empty_last ((b ∷ x) ∷ more) ≡ [] → ⊥
not_empty b x [] e = let one : without_empty_last ((b ∷ x) ∷ []) ≡ (b ∷ x) ∷ [] = single (b ∷ x) (omega arith) in let bad : (b ∷ x) ∷ [] ≡ [] = sym one
    ∙ e in cc
not_empty b x (y ∷ more) e = cc

pub lines_of-cons : (b : ℕ) (xs : List ℕ) → lines_of (b ∷ xs) ≡ [] → ⊥
unfolding lines_of
lines_of-cons b xs e = elim (cases_Bool (is_line_break b)) [
  | inl breaks ↦ let one : lines_of (b ∷ xs) ≡ [] ∷ lines_of xs = ap (λ (c : ℕ). lines_of (c ∷ xs)) (eqb-true b 10 breaks)
      ∙ lines_of-cut [] xs tt in let bad : [] ∷ lines_of xs ≡ [] = sym one ∙ e in cc
  | inr other ↦
      let w = first_part is_line_break xs in
      let parts = split_front (b ∷ []) xs w.0 w.1 (other, tt) w.2 in
      not_empty b w.0 w.1 (sym (ap without_empty_last parts) ∙ e)
]

pub no_more : (a b : Option (List ℕ)) → Consumes a b [] → IsAtEnd b → Between a b (λ before after. lines_of before ≡ [])
no_more None b q e = tt
no_more (Some x) None q e = absurd q
no_more (Some x) (Some y) q e = ap lines_of (q ∙ e) ∙ lines_of-nil

pub some_more : (a b : Option (List ℕ)) (byte : ℕ) → Consumes a b (byte ∷ []) → Between a b (λ before after. lines_of before ≢ [])
some_more None b byte q = tt
some_more (Some x) None byte q = absurd q
some_more (Some x) (Some y) byte q = λ e. lines_of-cons byte y (sym (ap lines_of q) ∙ e)

pub tells_more : (a b : Option (List ℕ)) (byte : Option ℕ) → ByteGives {E = ReadFault} a b (Ok byte) → MoreGives a b (Ok (is_some byte))
tells_more a b None h = (h.0, no_more a b h.0 h.1)
tells_more a b (Some byte) h = ((byte, h), some_more a b byte h)

-- ---- the lines that are taken

abbrev pub AreShort : List (List ℕ) → Type 0
AreShort lines = AllByRecursion (λ line. length line ≤ longest_line) lines

pub read-push : (a b c : Option (List ℕ)) (lines : List (List ℕ)) (line : List ℕ) → Between a b (λ xs ys. lines_of xs ≡ lines ++ lines_of ys)
    → Between b c (λ xs ys. lines_of xs ≡ line ∷ lines_of ys)
    → Between a c (λ xs ys. lines_of xs ≡ (lines ++ line ∷ []) ++ lines_of ys)
read-push None b c lines line p q = tt
read-push (Some x) None c lines line p q = absurd p
read-push (Some x) (Some y) None lines line p q = absurd q
read-push (Some x) (Some y) (Some z) lines line p q = p ∙ ap (λ (t : List (List ℕ)). lines ++ t) q ∙ sym (append_assoc lines (line ∷ []) (lines_of z))

-- these lines before those that are taken
abbrev pub put_before : List (List ℕ) → TakenLines → TakenLines
put_before lines t = record { lines = lines ++ t.lines; end = t.end }

pub taken-nil : (most : ℕ) → taken most [] ≡ none_taken AtEnd
unfolding taken
taken-nil most = refl

pub taken-line : (most : ℕ) (line : List ℕ) (lines : List (List ℕ)) → length line ≤ longest_line
    → taken (suc most) (line ∷ lines) ≡ with_line line (taken most lines)
unfolding taken
taken-line most line lines short = cond-true (leb (length line) longest_line) _ _ (le-leb _ _ short)

pub taken-long : (most : ℕ) (lines : List (List ℕ)) → BeginsTooLong lines → taken (suc most) lines ≡ none_taken AtLongLine
unfolding taken
taken-long most [] long = absurd long
taken-long most (line ∷ lines) long = cond-false (leb (length line) longest_line) _ _ (lt-leb _ _ long)

pub taken-too-many : (lines : List (List ℕ)) → lines ≢ [] → taken 0 lines ≡ none_taken AtTooMany
unfolding taken
taken-too-many [] more = absurd (more refl)
taken-too-many (line ∷ lines) more = refl

-- short lines are taken, and then those behind them
pub taken-behind : (count : ℕ) (before lines : List (List ℕ)) → AreShort before
    → taken (length before + count) (before ++ lines) ≡ put_before before (taken count lines)
taken-behind count [] lines short = ap (λ (n : ℕ). taken n lines) (zero-add count)
taken-behind count (line ∷ before) lines short =
    let more : suc (length before) + count ≡ suc (length before + count) = omega arith in
    ap (λ (n : ℕ). taken n (line ∷ before ++ lines)) more
    ∙ taken-line (length before + count) line (before ++ lines) short.0
    ∙ ap (with_line line) (taken-behind count before lines short.1)

end_with : (e : InputEnd) (b : Bool) (line : List ℕ) (t : TakenLines) → e ≡ (cond b (with_line line t) (none_taken AtLongLine)).end → e ≡ AtEnd
    → (b ≡ true) × (t.end ≡ AtEnd)
end_with e true line t is h = (refl, sym is ∙ h)
end_with e false line t is h = let bad : AtLongLine ≡ AtEnd = sym is ∙ h in cc

-- where the input ends within its limits, all of its lines are taken
pub taken-whole : (most : ℕ) (lines : List (List ℕ)) → (taken most lines).end ≡ AtEnd → (taken most lines).lines ≡ lines
unfolding taken
taken-whole most [] h = refl
taken-whole zero (line ∷ lines) h = cc
taken-whole (suc most) (line ∷ lines) h =
    let w = end_with _ (leb (length line) longest_line) line (taken most lines) refl h in
    ap (λ (t : TakenLines). t.lines) (cond-true (leb (length line) longest_line) _ _ w.0) ∙ ap (λ (t : List (List ℕ)). line ∷ t) (taken-whole most lines w.1)
