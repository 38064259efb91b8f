use Rattle.std.specs.Io.KnownBytes.{Keeps}
use Rattle.operator_cli.proofs.visiting.next_byte.Given as goal

-- no turn before this one read anything
abbrev pub invariant-turns : goal.invariant-turns
invariant-turns g l = Keeps (g.A.Read.remaining l.fn.answers) (g.A.Read.remaining l.answers)
