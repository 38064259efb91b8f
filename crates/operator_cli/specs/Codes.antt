-- The exit status of each end of a command. (Our own.)
use Rattle.std.specs.Prelude.{ℕ}
use Rattle.operator_cli.specs.declared.status.Status.{Status}
use Rattle.operator_cli.specs.declared.status.Status.TheVariants.{Done, Refused, NotUnderstood, Failed}

abbrev pub code_of : Status → ℕ
code_of Done = 0
code_of Refused = 1
code_of NotUnderstood = 2
code_of Failed = 3
