use Rattle.std.proofs.Common.{◌≡◌}
use Rattle.std.specs.Prelude.{map}
use Rattle.session_server.specs.Settled.{first_ends}
use Rattle.session_server.proofs.link_ends.links_told.Given as goal

abbrev pub invariant-loop-k : goal.invariant-loop-k
invariant-loop-k l = l.links.items ≡ first_ends l.sites (map (λ row. row.items) l.told.items) l.k
