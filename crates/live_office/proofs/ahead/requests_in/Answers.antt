use Rattle.std.proofs.Common.{◌≡◌, ℕ, List, Some, subst}
use Rattle.live_office.specs.Ahead.{asked_in}
use Rattle.live_office.proofs.Rows.{row_goes_on}
use Rattle.live_office.proofs.ahead.requests_in.Goals as goal

pub lines-preserved : goal.lines-preserved
lines-preserved c =
    let added = c.add.ensures.added c.if-not-add.false in
    row_goes_on c.args.bytes.now c.lines.rest.now c.next_line.new.reader.now c.next_line.new.line.items c.lines.row.requests.items
    c.add.new.self.requests.items added.0
    c.lines.invariant (rw c.in-Ok-true.field-0-test at c.in-Ok-true.ensures).1
    (subst (λ (l : List ℕ). asked_in l ≡ Some added.0) c.as_slice.ensures.value added.1) added.2
