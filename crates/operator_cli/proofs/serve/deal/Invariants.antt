use Rattle.std.proofs.Common.{◌≡◌, map, length}
use Rattle.operator_cli.specs.Dealt.{AreDealt}
use Rattle.operator_cli.proofs.serve.deal.Given as goal

abbrev pub invariant-visits : goal.invariant-visits
invariant-visits g l = (length l.sites.items ≡ length l.initial.sites.items)
    × AreDealt (map (λ c. c.1) l.yielded) (map (λ s. s.sessions.items) l.sites.items) × (l.place-iterator.count ≡ length l.yielded)
    × (map (λ s. s.book) l.sites.items ≡ map (λ s. s.book) l.initial.sites.items)
