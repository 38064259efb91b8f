use Rattle.std.proofs.Common.{◌≡◌, ◌+◌}
use Rattle.site_tests.proofs.served.sessions_of.Given as goal

-- the seat that is left has a part for each session to come
abbrev pub invariant-loop : goal.invariant-loop
invariant-loop g l = l.rest.parts + l.counter ≡ l.count + 1
