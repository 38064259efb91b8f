use Rattle.std.proofs.Common.{rules}
use Rattle.operator_cli.proofs.AskLaws.{next_last, next_over, next_printed, next_unprinted, next_unread}
use Rattle.operator_cli.proofs.asking.ask_next.Goals as goal

pub returns-in_err-next_line : goal.returns-in_err-next_line
returns-in_err-next_line g c =
    next_unread _ _ _ _ c.next_line.new.line.items c.in_err-next_line.field-0.0 c.from_residual.result c.from_residual.ensures.1 c.in_err-next_line.ensures

pub returns-in_err-print_text : goal.returns-in_err-print_text
returns-in_err-print_text g c =
    next_unprinted _ _ _ _ _ _ c.next_line.new.line.items c.as_slice.result.now c.in_ok-next_line.field-0 c.in-Ok.text.items
    c.from_residual-in_err-print_text.result c.in_err-print_text.field-0.0 c.from_residual-in_err-print_text.ensures.1 c.in_err-print_text.ensures.fault
    (search rules) c.in_ok-next_line.ensures c.as_slice.ensures.value c.in-Ok.ensures.answered c.in_err-print_text.ensures.written

pub returns-in-Err : goal.returns-in-Err
returns-in-Err g c =
    next_last _ _ _ _ _ c.next_line.new.line.items c.as_slice.result.now c.in_ok-next_line.field-0 c.in-Err.last (search rules) c.in_ok-next_line.ensures
    c.as_slice.ensures.value c.in-Err.ensures.last c.in-Err.ensures.left

pub returns : goal.returns
returns g c =
    next_printed _ _ _ _ _ _ c.next_line.new.line.items c.as_slice.result.now c.in_ok-next_line.field-0 c.in-Ok.text.items (search rules)
    c.in_ok-next_line.ensures c.as_slice.ensures.value c.in-Ok.ensures.answered c.in_ok-print_text.ensures.written
