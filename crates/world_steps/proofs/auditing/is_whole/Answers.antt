use Rattle.std.proofs.Common.{◌≡◌, ◌<◌, ℕ, List, Some, true, false, Bor, sym, ◌∙◌, arith, length}
use Rattle.std.specs.Prelude.{IsTrue, slice_get}
use Rattle.rights_lattice.proofs.TestLaws.{refused, granted}
use Rattle.book_core.specs.BookView.{BookView}
use Rattle.book_core.specs.Legal.{IsLegal}
use Rattle.world_steps.specs.Audit.{books_of}
use Rattle.world_steps.specs.Sites.{IsWhole, StandsAt}
use Rattle.world_steps.proofs.Audits.{found_view, each_more, each_all, length-views}
use Rattle.world_steps.proofs.auditing.is_whole.Goals as goal

-- a book that the walk has come to stands at its place exactly where it does among the books shown
among : (books : List (Bor BookView)) (k : ℕ) (book : BookView) → StandsAt k (length books) book → StandsAt k (length (books_of books)) book
among books k book stands = record { site = stands.site; count = omega (arith, stands.count, length-views books) }

-- what a walk finds of the book at each place
abbrev Stands : ℕ → ℕ → BookView → Type 0
Stands sites k book = StandsAt k sites book × (book.office.me < book.office.sites) × IsLegal book.office book.history

pub returns-then-not-stands_at-clause-whole : goal.returns-then-not-stands_at-clause-whole
returns-then-not-stands_at-clause-whole c =
    let books = c.args.books.now in
    let i = c.loop-place.place in
    let book = c.index-books-place.result.now in
    let found : slice_get (books_of books) i ≡ Some book = found_view books i c.index-books-place.result c.loop-place-test.true c.index-books-place.is in
    refused (IsWhole (books_of books)) (λ whole.
    let stands = whole i book found in
    let is : IsTrue c.stands_at.result = c.stands_at.ensures.stands.1
    (record { site = stands.site; count = omega (arith, stands.count, length-views books) }) in
    let never : false ≡ true = sym c.if-not-stands_at.true ∙ is in cc)

pub loop-place-preserved : goal.loop-place-preserved
loop-place-preserved c =
    let books = c.args.books.now in
    let i = c.loop-place.place in
    let book = c.index-books-place.result.now in
    let found : slice_get (books_of books) i ≡ Some book = found_view books i c.index-books-place.result c.loop-place-test.true c.index-books-place.is in
    record {
      stand = each_more (Stands (length books)) (books_of books) i book found
          (c.stands_at.ensures.stands.0 c.if-not-stands_at.false, c.stands_at.ensures.own, c.stands_at.ensures.legal) c.loop-place.invariant.stand;
      few = omega (arith, c.stands_at.ensures.few c.if-not-stands_at.false);
    }

-- the walk has come to the end
walked : (c : goal.After-loop-place) → (k : ℕ) (book : BookView) → slice_get (books_of c.args.books.now) k ≡ Some book → Stands (length c.args.books.now) k book
walked c =
    let books = c.args.books.now in
    each_all (Stands (length books)) (books_of books) c.loop-place.place
    (omega (arith, length-views books, c.loop-place-test.false)) c.loop-place.invariant.stand

whole : (c : goal.After-loop-place) → IsWhole (books_of c.args.books.now)
whole c k book found = among c.args.books.now k book (walked c k book found).0

pub returns-clause-whole : goal.returns-clause-whole
returns-clause-whole c = granted (IsWhole (books_of c.args.books.now)) (whole c)

pub returns-clause-sites : goal.returns-clause-sites
returns-clause-sites c = λ _. record {
  few = omega (arith, length-views c.args.books.now, c.loop-place-test.false, c.loop-place.invariant.few);
  whole = whole c;
  own = λ k book found. (walked c k book found).1;
  legal = λ k book found. (walked c k book found).2;
}
