use Rattle.std.proofs.Common.{◌≡◌, ◌+◌, ◌-◌, ◌/◌, ◌≤◌, Some, sym, subst, ◌∙◌, arith}
use Rattle.std.specs.Prelude.{IfOk, slice_get}
use Rattle.rights_lattice.specs.State.{State, join}
use Rattle.book_core.specs.History.{interval}
use Rattle.delta_buffer.proofs.IntervalLaws.{one_between, meeting}
use Rattle.delta_buffer.proofs.intervals.+interval.Goals as goal

pub returns-then-upto-from-eq1-clause-delta : goal.returns-then-upto-from-eq1-clause-delta
returns-then-upto-from-eq1-clause-delta t c =
    let found : slice_get c.args.book.now.history c.args.from ≡ Some c.in-Some.entry.now = sym c.in-Some.ensures in
    subst (λ (d : State). IfOk c.copy.result (λ delta. delta ≡ d))
    (c.delta.ensures ∙ sym (one_between c.args.book.now.history c.args.from c.args.upto c.in-Some.entry.now c.if-upto-from-eq1.true found)) c.copy.ensures

pub returns-clause-delta : goal.returns-clause-delta
returns-clause-delta t c =
    let middle = c.args.from + (c.args.upto - c.args.from) / 2 in
    let low : c.args.from ≤ middle = omega arith in
    let high : middle ≤ c.args.upto = omega (arith, c.requires.order) in
    let whole : join c.in_ok-front.front c.in_ok-back.back ≡ interval c.args.book.now.history c.args.from c.args.upto =
    (λ i. join (c.in_ok-front.ensures.delta i) (c.in_ok-back.ensures.delta i))
    ∙ sym (meeting c.args.book.now.history c.args.from middle c.args.upto low high) in
    subst (λ (d : State). IfOk c.join.result (λ delta. delta ≡ d)) whole c.join.ensures
