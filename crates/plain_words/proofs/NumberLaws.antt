-- Words that are numbers, and words that are not.
use Rattle.std.proofs.Common.{◌≡◌, ℕ, ◌^◌, ◌<◌, ◌≤◌, Bool, true, false, cond, ◌&&◌, ◌||◌, not, leb, eqb, List, length, get_or, take, ◌∷◌, Some, None, refl, sym, ap, ◌∙◌, arith, inl, inr}
use Rattle.std.proofs.lemmas.Bool.{cond-true, cond-false, and_left, and_right, eq-eqb, ne_eqb, not-true, or_left, or_right, cases_eq, not_from_false, and_from, and_parts, or_cases, false_from_ne_true, leb-true, ltb-true, eqb-true, lt-leb, le-leb, lt-ltb, true≢false}
use Rattle.std.proofs.lemmas.Option.{cond_some, same_Some}
use Rattle.std.proofs.lemmas.Str.Parse.{IsNumeralModel, numerals_by_value, tells_all_ascii_digits, digit_at, digits_value-take-le}
use Rattle.std.proofs.lemmas.Fmt.{digits_decimal, digits_value-decimal, decimal-digits_value, first_decimal, decimal_nonempty, decimal_digit}
use Rattle.std.specs.Int.{IsInRange}
use Rattle.std.specs.Fmt.{decimal}
use Rattle.std.specs.Str.{all_ascii_digits}
use Rattle.std.specs.Str.Parse.{digits_value, AllDigits}
use Rattle.plain_words.specs.Number.{number_of, number_at, starts_plainly, is_numeral}
use Rattle.plain_words.specs.Words.{first_word, ◌>>=◌}
use Rattle.plain_words.proofs.WordLaws.{bind_some, word_found, lacks_space, digits_lack_space}

pub own : IsNumeralModel (λ ds. all_ascii_digits ds ≡ true) (digits_value 10)
own = numerals_by_value _ tells_all_ascii_digits

none_when : (t : Bool) (v : ℕ) → t ≡ false → None ≡ cond t (Some v) None
none_when t v e = sym (cond-false t (Some v) None e)

pub none_at_start : (low high : ℕ) (word : List ℕ) → starts_plainly word ≡ false → None ≡ number_of low high word
unfolding number_of
none_at_start low high word e = none_when _ (digits_value 10 word) (and_left _ _ (and_left _ _ (and_left (starts_plainly word) _ e)))

not_digits : (word : List ℕ) (i : ℕ) → i < length word → (IsInRange 48 57 (get_or word i 0) → ⊥) → all_ascii_digits word ≡ false
not_digits word i lt h = false_from_ne_true _ (λ e. h (digit_at word i (own.to word e) lt))

pub none_at_byte : (low high : ℕ) (word : List ℕ) (i : ℕ) → i < length word → (IsInRange 48 57 (get_or word i 0) → ⊥) → None ≡ number_of low high word
unfolding number_of
none_at_byte low high word i lt h = none_when _ (digits_value 10 word)
    (and_left _ _ (and_left _ _ (and_right (starts_plainly word) _ (not_digits word i lt h))))

pub none_above : (low high : ℕ) (word : List ℕ) → high < digits_value 10 word → None ≡ number_of low high word
unfolding number_of
none_above low high word h = none_when _ (digits_value 10 word) (and_right _ _ (lt-leb _ _ h))

-- the number is too great from the place on where its front is
pub none_from_front : (low high : ℕ) (word : List ℕ) (i : ℕ) → high < digits_value 10 (take i word) → None ≡ number_of low high word
none_from_front low high word i h = none_above low high word (omega (arith, digits_value-take-le 10 word i (omega arith)))

pub none_below : (low high : ℕ) (word : List ℕ) → digits_value 10 word < low → None ≡ number_of low high word
unfolding number_of
none_below low high word h = none_when _ (digits_value 10 word) (and_left _ _ (and_right (is_numeral word) _ (lt-leb _ _ h)))

pub some_within : (low high : ℕ) (word : List ℕ) → starts_plainly word ≡ true → AllDigits 10 word → low ≤ digits_value 10 word
    → digits_value 10 word ≤ high → Some (digits_value 10 word) ≡ number_of low high word
unfolding number_of
some_within low high word s d l h =
    sym (cond-true _ (Some (digits_value 10 word)) None
    (and_from _ _ (and_from _ _ (and_from _ _ s (own.from word d)) (le-leb _ _ l)) (le-leb _ _ h)))

-- ---- the two laws

-- what is read is spelled so
pub number_found : (low high : ℕ) (word : List ℕ) (n : ℕ) → high < 2 ^ 64 → number_of low high word ≡ Some n → (word ≡ decimal n) × (low ≤ n) × (n ≤ high)
unfolding number_of
number_found low high word n bound e =
    let t = cond_some (is_numeral word && leb low (digits_value 10 word) && leb (digits_value 10 word) high) (digits_value 10 word) n e in
    let outer = and_parts _ _ t.0 in
    let inner = and_parts _ _ outer.0 in
    let numeral = and_parts _ _ inner.0 in
    let start = and_parts _ _ numeral.0 in
    let low_is = leb-true _ _ inner.1 in
    let high_is = leb-true _ _ outer.1 in
    let leading : get_or word 0 0 ≡ 48 → length word ≡ 1 = λ z. elim (or_cases _ _ start.1) [
      | inl p ↦ absurd (true≢false (sym (eq-eqb _ _ z) ∙ not-true _ p))
      | inr p ↦ eqb-true _ _ p
    ] in
    let spelled = decimal-digits_value own word numeral.1 (ltb-true _ _ start.0) leading (omega arith) in
    (sym spelled ∙ ap decimal t.1, omega (arith, t.1), omega (arith, t.1))

decimal_starts : (n : ℕ) → n < 2 ^ 64 → starts_plainly (decimal n) ≡ true
decimal_starts n bound =
    let second : (not (eqb (get_or (decimal n) 0 0) 48) || eqb (length (decimal n)) 1) ≡ true = elim (cases_eq n 0) [
      | inl z ↦ or_right (not (eqb (get_or (decimal n) 0 0) 48)) (eqb (length (decimal n)) 1)
          (eq-eqb _ 1 (ap length (ap decimal z ∙ decimal_digit 0 (omega arith))))
      | inr more ↦ or_left (not (eqb (get_or (decimal n) 0 0) 48)) (eqb (length (decimal n)) 1)
          (not_from_false _ (ne_eqb _ _ (λ e. omega (arith, e, first_decimal n (omega arith) bound))))
    ] in
    and_from _ _ (lt-ltb _ _ (decimal_nonempty n bound)) second

-- what is spelled so is read
pub number_again : (low high n : ℕ) → high < 2 ^ 64 → low ≤ n → n ≤ high → number_of low high (decimal n) ≡ Some n
number_again low high n bound l h =
    let v = digits_value-decimal own n (omega arith) in
    sym (some_within low high (decimal n) (decimal_starts n (omega arith)) (own.to _ (digits_decimal own n (omega arith))) (omega (arith, v))
    (omega (arith, v))) ∙ ap Some v

-- ---- as the first word

pub number_at_found : (low high : ℕ) (words : List (List ℕ)) (x : ℕ × List (List ℕ)) → high < 2 ^ 64 → number_at low high words ≡ Some x
    → (words ≡ decimal x.0 ∷ x.1) × (low ≤ x.0) × (x.0 ≤ high)
unfolding number_at
number_at_found low high words x bound e =
    let a = bind_some (first_word words) (λ w. number_of low high w.0 >>= λ n. Some (n, w.1)) x e in
    let b = bind_some (number_of low high a.0.0) (λ n. Some (n, a.0.1)) x a.2 in
    let f = number_found low high a.0.0 b.0 bound b.1 in
    let same : (b.0, a.0.1) ≡ x = same_Some (b.0, a.0.1) x b.2 in
    let n_is : b.0 ≡ x.0 = ap (λ (p : ℕ × List (List ℕ)). p.0) same in (
      word_found words a.0 a.1 ∙ ap (λ (w : List ℕ). w ∷ a.0.1) f.0 ∙ ap (λ (p : ℕ × List (List ℕ)). decimal p.0 ∷ p.1) same,
      omega (arith, f.1, n_is),
      omega (arith, f.2, n_is),
    )

pub number_at_again : (low high n : ℕ) (words : List (List ℕ)) → high < 2 ^ 64 → low ≤ n → n ≤ high → number_at low high (decimal n ∷ words) ≡ Some (n, words)
unfolding number_at
number_at_again low high n words bound l h = rw (number_again low high n bound l h) refl

pub decimal_lacks_space : (n : ℕ) → n < 2 ^ 64 → lacks_space (decimal n) ≡ true
decimal_lacks_space n bound = digits_lack_space (decimal n) (own.to _ (digits_decimal own n bound))
