use Rattle.std.proofs.Common.{◌≡◌, ◌+◌, ◌*◌, length, sym, subst, arith}
use Rattle.std.specs.Prelude.{Some, slice_get}
use Rattle.rights_lattice.specs.Cells.{greatest_value}
use Rattle.world_steps.specs.Audit.{books_of}
use Rattle.book_core.specs.Books.{history_among}
use Rattle.world_steps.proofs.Audits.{found_view, first_count_in, history_there, legal_in, length-views, limit_in}
use Rattle.world_steps.proofs.Totals.{AreOwn, own_none, own_all_more, own_fits, one_more, own_totals}
use Rattle.world_steps.proofs.auditing.totals.Goals as goal

pub loop-book-init : goal.loop-book-init
loop-book-init c = record {
  own = own_none (history_among (books_of c.args.books.now)) c.args.event;
  bound = record { released = omega arith; sold = omega arith; refunded = omega arith };
}

pub loop-book-preserved : goal.loop-book-preserved
loop-book-preserved c =
    let books = c.args.books.now in
    let i = c.loop-book.book-index in
    let book = c.book-item.result in
    let found : slice_get (books_of books) i ≡ Some book.now = found_view books i book c.loop-book-test.true c.book-item.is in
    record {
      own = subst (AreOwn (i + 1) (history_among (books_of books)) c.args.event) (sym c.with_own-totals.ensures.sums)
          (own_all_more (history_among (books_of books)) c.args.event i book.now c.loop-book.totals (c.requires.sites.whole i book.now found).site
          (history_there (books_of books) i book.now found) c.loop-book.invariant.own);
      bound = one_more i c.with_own-totals.result (c.with_own-totals.ensures.bound (greatest_value * i) c.loop-book.invariant.bound);
    }

pub with_own-totals-requires : goal.with_own-totals-requires
with_own-totals-requires c = record {
  small = own_fits c.loop-book.book-index (length c.args.books.now) c.loop-book.totals c.loop-book-test.true
      (omega (arith, c.requires.sites.few, length-views c.args.books.now)) c.loop-book.invariant.bound;
}

pub returns : goal.returns
returns c =
    let books = c.args.books.now in
    let n = length (books_of books) in
    let all : c.loop-book.book-index ≡ n = omega (arith, c.loop-book.auto.book-index-end, c.loop-book-test.false, length-views books) in
    own_totals n c.loop-book.book-index (history_among (books_of books)) (first_count_in (books_of books)) (limit_in (books_of books)) c.args.event
    c.loop-book.totals
    (legal_in (books_of books) c.requires.sites) all c.loop-book.invariant.own
