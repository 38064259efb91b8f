use Rattle.std.proofs.Common.{◌≡◌, drop}
use Rattle.live_office.specs.Caller.{is_in_line}
use Rattle.live_office.proofs.caller.is_in_line.Given as goal

-- what is left leads from here to where all of it leads
abbrev pub invariant-loop-byte : goal.invariant-loop-byte
invariant-loop-byte l = is_in_line l.begun (drop l.byte-index l.bytes) ≡ is_in_line l.was l.bytes
