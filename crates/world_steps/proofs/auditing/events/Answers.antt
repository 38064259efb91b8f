use Rattle.std.proofs.Common.{◌≡◌, ℕ, List, length, sym, ap, subst, ◌∙◌, arith}
use Rattle.std.specs.Prelude.{IfOk}
use Rattle.book_core.proofs.Deltas.{no_names_listed}
use Rattle.world_steps.specs.World.{events_below}
use Rattle.world_steps.specs.Audit.{books_of, events_in}
use Rattle.book_core.specs.Books.{history_among}
use Rattle.world_steps.proofs.Names.{known_more}
use Rattle.world_steps.proofs.Audits.{found_view, history_there, length-views}
use Rattle.world_steps.proofs.auditing.events.Goals as goal

pub loop-book-init : goal.loop-book-init
loop-book-init c = c.new-names.ensures.empty ∙ sym no_names_listed

pub loop-book-preserved : goal.loop-book-preserved
loop-book-preserved c =
    let books = c.args.books.now in
    let i = c.loop-book.book-index in
    let book = c.book-item.result in
    known_more (history_among (books_of books)) i book.now.history c.loop-book.names.keys c.add_names.new.names.keys
    (history_there (books_of books) i book.now (found_view books i book c.loop-book-test.true c.book-item.is)) c.loop-book.invariant c.in_ok-add_names.ensures

pub returns : goal.returns
returns c =
    let books = c.args.books.now in
    let whole : c.loop-book.book-index ≡ length (books_of books) =
    omega (arith, c.loop-book.auto.book-index-end, c.loop-book-test.false, length-views books) in
    let all : c.loop-book.names.keys ≡ events_in (books_of books) = c.loop-book.invariant ∙ ap (λ n. events_below n (history_among (books_of books))) whole in
    subst (λ (xs : List (List ℕ)). IfOk c.listed.result (λ list. list.items ≡ xs)) all c.listed.ensures
