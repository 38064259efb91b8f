use Rattle.std.proofs.Common.{rules, ◌≡◌, ap, ◌∙◌, subst, arith, ◌+◌, ◌*◌, ◌^◌, ◌<◌, Some}
use Rattle.std.proofs.lemmas.List.{take_all}
use Rattle.std.proofs.lemmas.Int.Digits.{digits_more, digits_value_more}
use Rattle.std.specs.Str.Parse.{digits_value, AllDigits}
use Rattle.plain_words.proofs.NumberLaws.{none_at_start, none_at_byte, none_from_front, none_below, some_within}
use Rattle.plain_words.proofs.number.read_number.Goals as goal

pub returns-then-not-starts_plainly-clause-value : goal.returns-then-not-starts_plainly-clause-value
returns-then-not-starts_plainly-clause-value c = none_at_start _ _ _ (search rules)

pub returns-then-value-low-clause-value : goal.returns-then-value-low-clause-value
returns-then-value-low-clause-value c =
    let whole = take_all c.loop-byte.byte-index c.args.word.now (omega arith) in
    none_below _ _ _ (omega (arith, ap (digits_value 10) whole, c.loop-byte.invariant.1))

pub returns-else-value-low-clause-value : goal.returns-else-value-low-clause-value
returns-else-value-low-clause-value c =
    let whole = take_all c.loop-byte.byte-index c.args.word.now (omega arith) in
    let value = c.loop-byte.invariant.1 ∙ ap (digits_value 10) whole in
    ap Some value ∙ some_within _ _ _ (search rules) (subst (AllDigits 10) whole c.loop-byte.invariant.0) (omega (arith, value)) (omega (arith, value))

pub returns-in_default-clause-value : goal.returns-in_default-clause-value
returns-in_default-clause-value c = none_at_byte _ _ _ c.loop-byte.byte-index (omega arith) (search rules)

pub returns-in_default-with_digit-clause-value : goal.returns-in_default-with_digit-clause-value
returns-in_default-with_digit-clause-value c =
    let e = digits_value_more 10 c.args.word.now c.loop-byte.byte-index (omega arith) in
    let over : (c.loop-byte.value * 10 + c.in-Some.digit < 2 ^ 64) → ⊥ = search rules in
    let high : c.args.high < 2 ^ 64 = search rules in
    none_from_front _ _ _ (c.loop-byte.byte-index + 1) (omega (arith, e, over, high, c.in-Some.ensures.digit.0, c.loop-byte.invariant.1))

pub returns-then-longer-high-clause-value : goal.returns-then-longer-high-clause-value
returns-then-longer-high-clause-value c =
    let e = digits_value_more 10 c.args.word.now c.loop-byte.byte-index (omega arith) in
    let longer : c.in-Some-with_digit.longer ≡ c.loop-byte.value * 10 + c.in-Some.digit = search rules in
    none_from_front _ _ _ (c.loop-byte.byte-index + 1) (omega (arith, e, longer, c.in-Some.ensures.digit.0, c.loop-byte.invariant.1))

pub loop-byte-preserved : goal.loop-byte-preserved
loop-byte-preserved c =
    let e = digits_value_more 10 c.args.word.now c.loop-byte.byte-index (omega arith) in
    let longer : c.in-Some-with_digit.longer ≡ c.loop-byte.value * 10 + c.in-Some.digit = search rules in (
      digits_more 10 _ _ (omega arith) c.loop-byte.invariant.0 (omega (arith, c.in-Some.ensures.digit.0, c.in-Some.ensures.digit.1)),
      omega (arith, e, longer, c.in-Some.ensures.digit.0, c.loop-byte.invariant.1),
      omega arith,
    )
