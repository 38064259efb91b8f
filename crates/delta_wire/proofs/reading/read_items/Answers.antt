use Rattle.std.proofs.Common.{rules, arith, ap, length, refl, inl, inr, ◌∙◌, sym}
use Rattle.delta_wire.proofs.Steps.{starts, taken_off, last_is, ends_well, trails, is_bad, is_low, goes_on, begins_with_item, last_wants_none}
use Rattle.delta_wire.proofs.reading.read_items.Goals as goal

pub items-init : goal.items-init
items-init c = record {
  so_far = starts c.args.ending c.args.first c.empty-delta.result c.args.lines.now c.empty-delta.ensures;
  counts = refl;
  begun = inl refl;
}

pub returns-in_default : goal.returns-in_default
returns-in_default c = record {
  exact = last_is c.args.ending c.items.n c.items.delta c.items.lines c.next.new.self c.in_default.ensures.last.0 _ c.at_last.result
      c.items.invariant.so_far c.in_default.ensures.last.1 c.in_default.ensures.same c.at_last.ensures;
  memory = λ e. absurd (last_wants_none c.args.ending c.next.new.self c.items.delta (sym c.at_last.ensures ∙ e));
}

pub returns-then-is_over : goal.returns-then-is_over
returns-then-is_over c = record {
  exact = ends_well c.args.ending c.items.n c.items.delta c.items.lines c.next.new.self c.in-Some.line.now _ c.items.invariant.so_far
      (taken_off c.items.lines c.next.new.self c.in-Some.line.now c.in-Some.ensures.line) (search rules) (search rules);
  memory = λ e. absurd cc;
}

pub returns-then-ends : goal.returns-then-ends
returns-then-ends c = record {
  exact = trails c.args.ending c.items.n c.items.delta c.items.lines c.next.new.self c.in-Some.line.now _ c.items.invariant.so_far
      (taken_off c.items.lines c.next.new.self c.in-Some.line.now c.in-Some.ensures.line) (search rules) (search rules);
  memory = λ e. absurd cc;
}

pub returns-in_default-item_of : goal.returns-in_default-item_of
returns-in_default-item_of c = record {
  exact = is_bad c.args.ending c.items.n c.items.delta c.items.lines c.next.new.self c.in-Some.line.now _ c.items.invariant.so_far
      (taken_off c.items.lines c.next.new.self c.in-Some.line.now c.in-Some.ensures.line) (search rules) (search rules);
  memory = λ e. absurd cc;
}

pub returns-then-not-comes_next : goal.returns-then-not-comes_next
returns-then-not-comes_next c = record {
  exact = is_low c.args.ending c.items.n c.items.delta c.items.lines c.next.new.self c.in-Some.line.now c.in-Some-item_of.item _ c.items.invariant.so_far
      (taken_off c.items.lines c.next.new.self c.in-Some.line.now c.in-Some.ensures.line) (search rules) (search rules) (search rules);
  memory = λ e. absurd cc;
}

pub returns-in_err-push : goal.returns-in_err-push
returns-in_err-push c = record {
  exact = search rules;
  memory = λ e. begins_with_item c.args.lines.now c.items.lines c.next.new.self c.in-Some.line.now c.in-Some-item_of.item c.items.invariant.begun
      (taken_off c.items.lines c.next.new.self c.in-Some.line.now c.in-Some.ensures.line) (search rules);
}

pub items-preserved : goal.items-preserved
items-preserved c =
    let t = taken_off c.items.lines c.next.new.self c.in-Some.line.now c.in-Some.ensures.line in
    record {
      so_far = goes_on c.args.ending c.items.n c.items.delta c.push.new.self c.items.lines c.next.new.self c.in-Some.line.now c.in-Some-item_of.item _
          c.items.invariant.so_far t (search rules) (search rules) (search rules) c.in_ok-push.ensures.names c.in_ok-push.ensures.marks;
      counts = omega (arith, c.items.invariant.counts, ap length t.before, ap length t.after);
      begun = inr (begins_with_item c.args.lines.now c.items.lines c.next.new.self c.in-Some.line.now c.in-Some-item_of.item c.items.invariant.begun t
          (search rules));
    }

pub overflow_add-n : goal.overflow_add-n
overflow_add-n c =
    let t = taken_off c.items.lines c.next.new.self c.in-Some.line.now c.in-Some.ensures.line in
    omega (arith, c.requires.few_lines, c.requires.first, c.items.invariant.counts, ap length t.before)
