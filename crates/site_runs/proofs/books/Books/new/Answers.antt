use Rattle.std.proofs.Common.{lit≤, [], refl, sym, subst}
use Rattle.rights_lattice.specs.Sums.{max_sites}
use Rattle.site_runs.specs.Runs.{IsRun}
use Rattle.site_runs.proofs.books.Books.new.Goals as goal

pub invariant_of-result : goal.invariant_of-result
unfolding max_sites
invariant_of-result g c =
    subst (λ s. IsRun g.K.Keeper s) (λ j. record { books = sym c.new.ensures.items j; given = sym c.new-2.ensures.items j })
    (record { books = []; given = [] }, record { few = lit≤ tt; each = λ i site found. cc; none = refl }, [], refl)
