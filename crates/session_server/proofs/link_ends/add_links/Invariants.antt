use Rattle.std.proofs.Common.{◌≡◌, ◌++◌, take}
use Rattle.session_server.specs.Settled.{ends_to}
use Rattle.session_server.proofs.link_ends.add_links.Given as goal

abbrev pub invariant-loop-k : goal.invariant-loop-k
invariant-loop-k l = l.links.items ≡ l.initial.links.items ++ ends_to l.by (take l.k l.others) (take l.k l.told)
