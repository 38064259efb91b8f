use Rattle.std.proofs.Common.{◌≡◌, List, [], ◌∷◌, ◌++◌, length, refl, sym, ap, ◌∙◌, subst, arith, Some, Ok}
use Rattle.site_desk.specs.Storing.{IsStarted}
use Rattle.site_runs.specs.Moving.{Added}
use Rattle.site_runs.specs.Runs.{IsNew, IsRun, Sites}
use Rattle.site_runs.proofs.Adding.{adds_on}
use Rattle.site_runs.proofs.books.Books.add_next.Goals as goal

pub invariant_of-self-in-Ok : goal.invariant_of-self-in-Ok
invariant_of-self-in-Ok g c =
    let k = g.K.Keeper in
    let books = c.self.inside.books.items in
    let listed = ap (λ bs. bs ++ c.in-Ok.book ∷ []) (sym c.reserve.ensures.items) ∙ sym c.push_reserved.ensures.items in
    let me : c.in-Some.me ≡ length books = omega (arith, c.in-Some.ensures.same, c.len-number.ensures) in
    subst (λ bs. IsRun k (record { books = bs; given = c.self.inside.given.items })) listed
    (adds_on k (record { books = books; given = c.self.inside.given.items }) c.in-Ok.book c.self.invariant
    (subst (λ n. IsNew k n c.in-Ok.book) me c.in-Ok.ensures.new))

pub returns-in-Ok : goal.returns-in-Ok
returns-in-Ok g c =
    let k = g.K.Keeper in
    let books = c.self.inside.books.items in
    let listed = ap (λ bs. bs ++ c.in-Ok.book ∷ []) (sym c.reserve.ensures.items) ∙ sym c.push_reserved.ensures.items in
    let me : c.in-Some.me ≡ length books = omega (arith, c.in-Some.ensures.same, c.len-number.ensures) in
    record {
      added = subst (λ s. Added k s c.args.keeper c.args.sites c.args.limit (Some (Ok tt))
          (record { books = c.push_reserved.new.self.items; given = c.self.inside.given.items })) c.self.view_is (
            c.in-Ok.book,
            subst (λ n. IsStarted k c.args.keeper [] (record { me = n; sites = c.args.sites; limit = c.args.limit }) c.in-Ok.book) me
                c.in-Ok.ensures.started,
            λ j. record { books = sym listed j; given = c.self.inside.given.items },
          );
    }
