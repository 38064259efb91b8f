use Rattle.std.proofs.Common.{◌≡◌}
use Rattle.std.specs.Io.KnownBytes.{Keeps}
use Rattle.live_office.proofs.caller.WholeLinesRead.read.Given as goal

-- no turn before this one read anything
abbrev pub invariant-turns : goal.invariant-turns
invariant-turns g l = Keeps (g.R.Read.remaining l.fn.self.reader) (g.R.Read.remaining l.self.reader) × (l.self.is_in_line ≡ l.fn.self.is_in_line)
