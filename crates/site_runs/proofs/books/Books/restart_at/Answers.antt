use Rattle.std.proofs.Common.{◌≡◌, Some, Ok, length, refl, slice_set, subst, arith}
use Rattle.std.specs.Prelude.{slice_get}
use Rattle.std.proofs.lemmas.Option.{slice_get_read}
use Rattle.site_runs.specs.Moving.{StartedAgain}
use Rattle.site_runs.specs.Runs.{Restarts}
use Rattle.site_runs.proofs.Growing.{goes_on}
use Rattle.site_runs.proofs.books.Books.restart_at.Goals as goal

pub invariant_of-self : goal.invariant_of-self
invariant_of-self g c =
    let given = c.self.inside.given.items in
    let old = c.index_mut.result.now in
    let found : slice_get c.self.inside.books.items c.args.site ≡ Some old = slice_get_read c.self.inside.books.items (length c.self.inside.books.items)
    c.args.site old refl (omega (arith, c.if-site-len.false, c.len.ensures)) c.index_mut.ensures.value in
    let left = c.requires.left old (subst (λ s. slice_get s.books c.args.site ≡ Some old) c.self.view_is found) in
    goes_on g.K.Keeper (record { books = c.self.inside.books.items; given = given }) c.args.site old Restarts c.in-Ok.book c.self.invariant found
    (c.in-Ok.ensures.restarts given old left)

pub returns-in-Ok : goal.returns-in-Ok
returns-in-Ok g c =
    let given = c.self.inside.given.items in
    let old = c.index_mut.result.now in
    let found : slice_get c.self.inside.books.items c.args.site ≡ Some old = slice_get_read c.self.inside.books.items (length c.self.inside.books.items)
    c.args.site old refl (omega (arith, c.if-site-len.false, c.len.ensures)) c.index_mut.ensures.value in
    let left = c.requires.left old (subst (λ s. slice_get s.books c.args.site ≡ Some old) c.self.view_is found) in
    record {
      moves = subst (λ s. StartedAgain g.K.Keeper s c.args.site (Some (Ok tt))
          (record { books = slice_set c.self.inside.books.items c.args.site c.in-Ok.book; given = given })) c.self.view_is
          (old, c.in-Ok.book, found, c.in-Ok.ensures.restarts given old left, refl);
    }
