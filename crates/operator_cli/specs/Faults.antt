-- What ends a script early. (Our own.)
use Rattle.plain_words.specs.declared.lines.LineFault.{LineFault}
use Rattle.plain_words.specs.declared.lines.LineFault.TheVariants as line
use Rattle.operator_cli.specs.declared.fault.ScriptFault.{ScriptFault}
use Rattle.operator_cli.specs.declared.fault.ScriptFault.TheVariants.{Read, Write, LineTooLong, TooManyLines, Memory}
use Rattle.operator_cli.specs.declared.command_fault.CommandFault.{CommandFault}
use Rattle.operator_cli.specs.declared.command_fault.CommandFault.TheVariants as store

abbrev pub of_line_fault : LineFault → ScriptFault
of_line_fault line.Read = Read
of_line_fault line.LineTooLong = LineTooLong

-- a fault that writing may meet
abbrev pub IsOutFault : ScriptFault → Type 0
IsOutFault Write = Unit {0}
IsOutFault Memory = Unit {0}
IsOutFault Read = ⊥
IsOutFault LineTooLong = ⊥
IsOutFault TooManyLines = ⊥

abbrev pub of_script_fault : ScriptFault → CommandFault
of_script_fault Read = store.Read
of_script_fault Write = store.Write
of_script_fault LineTooLong = store.LineTooLong
of_script_fault TooManyLines = store.TooManyLines
of_script_fault Memory = store.Memory
