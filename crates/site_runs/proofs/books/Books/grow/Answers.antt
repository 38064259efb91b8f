use Rattle.std.proofs.Common.{length, refl, subst, arith, slice_set}
use Rattle.std.proofs.lemmas.Option.{slice_get_read}
use Rattle.site_runs.specs.Runs.{IsRun, Moves, Grows}
use Rattle.site_runs.proofs.Growing.{goes_on, run_not_oversold}
use Rattle.site_runs.proofs.books.Books.grow.Goals as goal

pub returns-then-site-len-clause-never : goal.returns-then-site-len-clause-never
returns-then-site-len-clause-never g c =
    let k = g.K.Keeper in
    run_not_oversold k c.args.self.now (subst (λ s. IsRun k s) c.self.view_is c.self.invariant)

pub invariant_of-self : goal.invariant_of-self
invariant_of-self g c =
    goes_on g.K.Keeper (record { books = c.self.inside.books.items; given = c.self.inside.given.items }) c.args.site c.index_mut-book.result.now
    (Grows c.args.sites c.grow.result) c.grow.new.self
    c.self.invariant (slice_get_read c.self.inside.books.items (length c.self.inside.books.items) c.args.site c.index_mut-book.result.now refl
    (omega (arith, c.if-site-len.false, c.len.ensures)) c.index_mut-book.ensures.value) c.grow.ensures.grown

pub returns-clause-moves : goal.returns-clause-moves
returns-clause-moves g c =
    subst (λ s. Moves g.K.Keeper s c.args.site (Grows c.args.sites c.grow.result)
    (record { books = slice_set c.self.inside.books.items c.args.site c.grow.new.self; given = c.self.inside.given.items })) c.self.view_is (
      c.index_mut-book.result.now,
      c.grow.new.self,
      (slice_get_read c.self.inside.books.items (length c.self.inside.books.items) c.args.site c.index_mut-book.result.now refl
          (omega (arith, c.if-site-len.false, c.len.ensures)) c.index_mut-book.ensures.value),
      c.grow.ensures.grown,
      refl,
    )

pub returns-clause-never : goal.returns-clause-never
returns-clause-never g c = run_not_oversold g.K.Keeper
    (record { books = slice_set c.self.inside.books.items c.args.site c.grow.new.self; given = c.self.inside.given.items }) (invariant_of-self g c)
