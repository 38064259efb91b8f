-- Cutting a line into words, joining them, and reading them from left to right.
use Rattle.std.proofs.Common.{subst, inl, inr, ◌≡◌, ℕ, suc, ◌+◌, Bool, true, false, cond, not, List, [], ◌∷◌, take, drop, Option, Some, None, All, refl, sym, ap, ◌∙◌, arith}
use Rattle.std.specs.List.{slice_split, onto_first, position_from, position, join_with_byte, list_all, AllByRecursion}
use Rattle.std.specs.Str.{bytes_eq}
use Rattle.std.proofs.lemmas.Bool.{cases_Bool, and_parts, and_from, not-true, ne_eqb, not_from_false}
use Rattle.std.proofs.lemmas.Slice.Eq.{bytes_eq-Decides}
use Rattle.std.proofs.lemmas.List.Splits.{slice_split_none, slice_split_at}
use Rattle.std.proofs.lemmas.List.Elements.{All-from_recursion}
use Rattle.std.proofs.lemmas.Iterator.Adapters.{position_from-zero}
use Rattle.std.proofs.lemmas.Str.Parse.{digit_from_value}
use Rattle.std.specs.Str.Parse.{AllDigits}
use Rattle.plain_words.specs.Words.{is_space, is_nil, words_of, first_word, ended, ◌>>=◌}
use Rattle.std.proofs.lemmas.Option.{cond_some, same_Some}
use Rattle.std.specs.Borrow.{Bor}
use Rattle.std.specs.Option.{IfNone, option_map}

is_nil-onto_first : (x : ℕ) (parts : List (List ℕ)) → is_nil (onto_first x parts) ≡ false
is_nil-onto_first x [] = refl
is_nil-onto_first x (p ∷ ps) = refl

is_nil_cond : (b : Bool) (x : ℕ) (parts : List (List ℕ)) → is_nil (cond b ([] ∷ parts) (onto_first x parts)) ≡ false
is_nil_cond true x parts = refl
is_nil_cond false x parts = is_nil-onto_first x parts

pub is_nil-slice_split : (p : ℕ → Bool) (xs : List ℕ) → is_nil (slice_split p xs) ≡ false
is_nil-slice_split p [] = refl
is_nil-slice_split p (x ∷ xs) = is_nil_cond (p x) x (slice_split p xs)

step_none : (x : ℕ) (xs : List ℕ) (i : ℕ) (b : Bool) (r : Option ℕ) (rest : List (List ℕ)) → (r ≡ None → rest ≡ xs ∷ []) → cond b (Some i) r ≡ None
    → cond b ([] ∷ rest) (onto_first x rest) ≡ (x ∷ xs) ∷ []
step_none x xs i true r rest ih e = absurd cc
step_none x xs i false r rest ih e = ap (onto_first x) (ih e)

split_from_none : (p : ℕ → Bool) (xs : List ℕ) (i : ℕ) → position_from p i xs ≡ None → slice_split p xs ≡ xs ∷ []
split_from_none p [] i e = refl
split_from_none p (x ∷ xs) i e = step_none x xs i (p x) (position_from p (i + 1) xs) (slice_split p xs) (split_from_none p xs (i + 1)) e

abbrev CutsAt : (ℕ → Bool) → List ℕ → ℕ → Type 0
CutsAt p xs m = slice_split p xs ≡ take m xs ∷ slice_split p (drop (suc m) xs)

step_some : (p : ℕ → Bool) (x : ℕ) (xs : List ℕ) (i k : ℕ) (b : Bool) (r : Option ℕ) → (r ≡ Some k → (m : ℕ) × (k ≡ i + 1 + m) × CutsAt p xs m)
    → cond b (Some i) r ≡ Some k
    → (m : ℕ) × (k ≡ i + m) × (cond b ([] ∷ slice_split p xs) (onto_first x (slice_split p xs)) ≡ take m (x ∷ xs) ∷ slice_split p (drop (suc m) (x ∷ xs)))
step_some p x xs i k true r ih e = let same : i ≡ k = cc in (0, omega (arith, same), refl)
step_some p x xs i k false r ih e = let w = ih e in (suc w.0, omega (arith, w.1), ap (onto_first x) w.2)

split_from_some : (p : ℕ → Bool) (xs : List ℕ) (i k : ℕ) → position_from p i xs ≡ Some k → (m : ℕ) × (k ≡ i + m) × CutsAt p xs m
split_from_some p [] i k e = absurd cc
split_from_some p (x ∷ xs) i k e = step_some p x xs i k (p x) (position_from p (i + 1) xs) (split_from_some p xs (i + 1) k) e

pub split_none : (p : ℕ → Bool) (xs : List ℕ) → position p xs ≡ None → slice_split p xs ≡ xs ∷ []
split_none p xs e = split_from_none p xs 0 (sym (position_from-zero p xs) ∙ e)

pub split_some : (p : ℕ → Bool) (xs : List ℕ) (k : ℕ) → position p xs ≡ Some k → slice_split p xs ≡ take k xs ∷ slice_split p (drop (k + 1) xs)
split_some p xs k e =
    let w = split_from_some p xs 0 k (sym (position_from-zero p xs) ∙ e) in
    let m_is : w.0 ≡ k = omega (arith, w.1) in
    let next : k + 1 ≡ suc k = omega arith in
    rw next (subst (CutsAt p xs) m_is w.2)

-- ---- words without spaces

abbrev pub lacks_space : List ℕ → Bool
lacks_space w = list_all (λ b. not (is_space b)) w

lacks_each : (p : ℕ → Bool) (w : List ℕ) → list_all (λ b. not (p b)) w ≡ true → AllByRecursion (λ b. p b ≡ false) w
lacks_each p [] e = tt
lacks_each p (b ∷ w) e = let parts = and_parts (not (p b)) (list_all (λ x. not (p x)) w) e in (not-true _ parts.0, lacks_each p w parts.1)

-- where no byte passes the test, it fails at each
pub lacks_all : (p : ℕ → Bool) (w : List ℕ) → list_all (λ b. not (p b)) w ≡ true → All (λ b. p b ≡ false) w
lacks_all p w e = All-from_recursion (λ b. p b ≡ false) w (lacks_each p w e)

pub split_join : (w : List ℕ) (ws : List (List ℕ)) → lacks_space w ≡ true → AllByRecursion (λ v. lacks_space v ≡ true) ws
    → slice_split is_space (join_with_byte 32 (w ∷ ws)) ≡ w ∷ ws
split_join w [] h hs = slice_split_none is_space w (lacks_all is_space w h)
split_join w (v ∷ ws) h hs = slice_split_at is_space w 32 (join_with_byte 32 (v ∷ ws)) (lacks_all is_space w h) refl
    ∙ ap (λ (t : List (List ℕ)). w ∷ t) (split_join v ws hs.0 hs.1)

pub digits_lack_space : (w : List ℕ) → AllDigits 10 w → lacks_space w ≡ true
digits_lack_space [] h = refl
digits_lack_space (b ∷ w) h = let r = digit_from_value b h.0 in and_from _ _ (not_from_false _ (ne_eqb b 32 (λ s. omega arith))) (digits_lack_space w h.1)

-- ---- what is left of a line

pub nil_from_none : (rest : Option (Bor (List ℕ))) (now : List (List ℕ)) → words_of rest ≡ now → rest ≡ None → true ≡ is_nil now
nil_from_none rest now view e = rw (← view, e) refl

pub cons_from_some : (rest : Option (Bor (List ℕ))) (now : List (List ℕ)) (b : Bor (List ℕ)) → words_of rest ≡ now → rest ≡ Some b → false ≡ is_nil now
cons_from_some rest now b view e = rw (← view, e) (sym (is_nil-slice_split is_space b.now))

pub first_word_last : (rest : Option (Bor (List ℕ))) (now : List (List ℕ)) (b : Bor (List ℕ)) → words_of rest ≡ now → rest ≡ Some b
    → position is_space b.now ≡ None → Some (b.now, []) ≡ first_word now
first_word_last rest now b view e p = rw (← view, e, split_none is_space b.now p) refl

pub first_word_cut : (rest : Option (Bor (List ℕ))) (now : List (List ℕ)) (b : Bor (List ℕ)) (k : ℕ) → words_of rest ≡ now → rest ≡ Some b
    → position is_space b.now ≡ Some k
    → Some (take k b.now, slice_split is_space (drop (k + 1) b.now)) ≡ first_word now
first_word_cut rest now b k view e p = rw (← view, e, split_some is_space b.now k p) refl

-- ---- one reader after another

-- one test in a chain of tests of a word
pub word_tested : {V : Type 0} (text : V → List ℕ) (w : List ℕ) (u v : V) (rest : Option V) → (rest ≡ Some v → w ≡ text v)
    → cond (bytes_eq w (text u)) (Some u) rest ≡ Some v → w ≡ text v
word_tested text w u v rest next e = elim (cases_Bool (bytes_eq w (text u))) [
  | inl same ↦ let chosen : Some u ≡ Some v = rw same at e in (bytes_eq-Decides w (text u)).0 same ∙ ap text (same_Some u v chosen)
  | inr other ↦ let chosen : rest ≡ Some v = rw other at e in next chosen
]

-- both readers answered
pub bind_some : {A B : Type 0} (o : Option A) (f : A → Option B) (y : B) → (o >>= f) ≡ Some y → (x : A) × (o ≡ Some x) × (f x ≡ Some y)
bind_some None f y e = absurd cc
bind_some (Some x) f y e = (x, refl, e)

-- a word is taken where there is one
pub one_taken : {A : Type 0} (text : A → List ℕ) (found : Option A) (old new : List (List ℕ)) → option_map (λ w. (text w, new)) found ≡ first_word old
    → IfNone found (new ≡ old) → new ≡ drop 1 old
one_taken text None [] new first same = same
one_taken text None (w ∷ ws) new first same = absurd cc
one_taken text (Some a) [] new first same = absurd cc
one_taken text (Some a) (w ∷ ws) new first same = ap (λ (p : List ℕ × List (List ℕ)). p.1) (same_Some (text a, new) (w, ws) first)

pub word_found : (words : List (List ℕ)) (x : List ℕ × List (List ℕ)) → first_word words ≡ Some x → words ≡ x.0 ∷ x.1
word_found [] x e = absurd cc
word_found (w ∷ ws) x e = ap (λ (p : List ℕ × List (List ℕ)). p.0 ∷ p.1) (same_Some (w, ws) x e)

pub nil_is : (words : List (List ℕ)) → is_nil words ≡ true → words ≡ []
nil_is [] e = refl
nil_is (w ∷ ws) e = absurd cc

pub ended_found : {A : Type 0} (x y : A) (words : List (List ℕ)) → ended x words ≡ Some y → (words ≡ []) × (x ≡ y)
ended_found x y words e = let t = cond_some (is_nil words) x y e in (nil_is words t.0, t.1)
