use Rattle.std.proofs.Common.{◌≡◌, ◌∙◌}
use Rattle.operator_cli.specs.CommandReply.{command_fault_line}
use Rattle.operator_cli.proofs.EndLaws.{front_written}
use Rattle.operator_cli.proofs.ending.tell_fault.Goals as goal

pub returns-clause-told : goal.returns-clause-told
returns-clause-told g c =
    let line : c.as_slice.result.now ≡ command_fault_line c.args.fault = c.as_slice.ensures.value ∙ c.command_fault_line-line.ensures in
    (c.args.fault, front_written _ _ c.write_bytes.result (command_fault_line c.args.fault) (rw line at c.write_bytes.ensures))

pub returns-clause-line : goal.returns-clause-line
returns-clause-line g c =
    let line : c.as_slice.result.now ≡ command_fault_line c.args.fault = c.as_slice.ensures.value ∙ c.command_fault_line-line.ensures in
    front_written _ _ c.write_bytes.result (command_fault_line c.args.fault) (rw line at c.write_bytes.ensures)
