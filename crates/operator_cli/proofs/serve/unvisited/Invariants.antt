use Rattle.std.proofs.Common.{◌≡◌, [], length}
use Rattle.std.specs.Prelude.{map}
use Rattle.operator_cli.proofs.serve.unvisited.Given as goal

abbrev pub invariant-loop-book : goal.invariant-loop-book
invariant-loop-book g l = (length l.sites.items ≡ length l.yielded) × (map (λ s. s.book) l.sites.items ≡ l.yielded)
    × (map (λ s. s.sessions.items) l.sites.items ≡ map (λ _. []) l.sites.items)
