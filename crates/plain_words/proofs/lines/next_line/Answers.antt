use Rattle.std.proofs.Common.{rules, arith, ap, ◌∷◌, [], ◌≡◌, ℕ, ◌<◌, ◌≤◌, length}
use Rattle.std.proofs.lemmas.Bool.{ne_eqb}
use Rattle.std.proofs.lemmas.List.{nil_from_length}
use Rattle.plain_words.specs.Input.{longest_line}
use Rattle.plain_words.proofs.LineLaws.{ends_line, ends_input, has_no_line, passes_limit}
use Rattle.plain_words.proofs.lines.next_line.Goals as goal

pub returns-then-byte-eq10 : goal.returns-then-byte-eq10
returns-then-byte-eq10 g c = (
  c.bytes.invariant.1,
  ends_line _ _ _ _ (c.in-Ok-Some.byte ∷ []) c.bytes.invariant.0 c.bytes.invariant.2 (search rules)
      (ap (λ (b : ℕ). b ∷ []) c.if-byte-eq10.true),
)

pub returns-then-is_empty : goal.returns-then-is_empty
returns-then-is_empty g c =
    let e : length c.bytes.line.items ≡ 0 = search rules in
    let given = rw c.in-Ok-None.field-0-is at c.in-Ok-None.ensures in
    has_no_line _ _ _ _ c.bytes.invariant.2 given.0 given.1 (nil_from_length _ e)

pub returns-in-Ok-None : goal.returns-in-Ok-None
returns-in-Ok-None g c =
    let more : 0 < length c.bytes.line.items = search rules in
    let given = rw c.in-Ok-None.field-0-is at c.in-Ok-None.ensures in
    (c.bytes.invariant.1, ends_input _ _ _ _ c.bytes.invariant.0 c.bytes.invariant.2 given.0 given.1 more)

pub returns-then-is_full : goal.returns-then-is_full
returns-then-is_full g c =
    let full : longest_line ≤ length c.bytes.line.items = search rules in
    passes_limit _ _ _ _ c.in-Ok-Some.byte c.bytes.invariant.0 c.bytes.invariant.2 (search rules) (ne_eqb _ 10 (λ e. omega arith))
    (omega (arith, full, c.bytes.invariant.1))
