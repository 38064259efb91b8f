use Rattle.std.proofs.Common.{◌≡◌, Some, None, Option, ℕ, false, IsTrue, sym, ap, ◌∙◌}
use Rattle.std.proofs.lemmas.Option.{none-some, same_Some}
use Rattle.sqlite_schema.specs.declared.code.Op.{Op}
use Rattle.sql_records.specs.Layout.{sides_of}
use Rattle.sql_records.proofs.CheckLemmas.{check_to, check_from, equality, equality_of}
use Rattle.sql_records.proofs.shape.is_one_is_1.Goals as goal

never : IsTrue false → ⊥
never e = cc

no_sides : (op : Op) (left right : ℕ) → sides_of op ≡ None → op ≡ equality left right → ⊥
no_sides op left right none is = let e : ◌≡◌ {A = Option (ℕ × ℕ)} None (Some (left, right)) = sym none ∙ ap sides_of is in cc

pub returns-in_default : goal.returns-in_default
returns-in_default c = (
  λ e. absurd (never e),
  λ e.
      let w = check_to c.args.nodes.now c.args.at c.requires e in
      absurd (none-some (equality w.0 w.1) (c.in_default.ensures.value ∙ w.2)),
)

pub returns-in_default-sides : goal.returns-in_default-sides
returns-in_default-sides c = (
  λ e. absurd (never e),
  λ e.
      let w = check_to c.args.nodes.now c.args.at c.requires e in
      absurd (no_sides c.in-Some.node.now w.0 w.1 (sym c.in_default-sides.ensures)
      (same_Some c.in-Some.node.now (equality w.0 w.1) (c.in-Some.ensures.value ∙ w.2))),
)

pub returns : goal.returns
returns c =
    let is = equality_of c.in-Some.node.now c.in-Some-sides.left c.in-Some-sides.right (sym c.in-Some-sides.ensures) in
    let here = sym c.in-Some.ensures.value ∙ ap Some is in (
      λ e. check_from c.args.nodes.now c.args.at c.in-Some-sides.left c.in-Some-sides.right c.requires here (c.are_one_and_1.ensures.0 e),
      λ e.
          let w = check_to c.args.nodes.now c.args.at c.requires e in
          let both = same_Some (equality c.in-Some-sides.left c.in-Some-sides.right) (equality w.0 w.1) (sym here ∙ w.2) in
          let l : c.in-Some-sides.left ≡ w.0 = cc in
          let r : c.in-Some-sides.right ≡ w.1 = cc in
          c.are_one_and_1.ensures.1 (rw (l, r) w.3),
    )
