use Rattle.std.proofs.Common.{◌≡◌, take}
use Rattle.std.specs.Prelude.{map}
use Rattle.session_server.proofs.link_ends.numbers.Given as goal

abbrev pub invariant-loop-site : goal.invariant-loop-site
invariant-loop-site g l = l.ids.items ≡ map (λ s. s.book.book.office.me) (take l.site-index l.sites.items)
