use Rattle.std.proofs.Common.{◌≡◌, map, take}
use Rattle.world_steps.specs.Audit.{books_of}
use Rattle.operator_cli.proofs.audit.books_in.Given as goal

abbrev pub invariant-loop-site : goal.invariant-loop-site
invariant-loop-site g l = books_of l.books.items ≡ map (λ site. site.book) (take l.site-index l.sites)
