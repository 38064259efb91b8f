use Rattle.std.proofs.Common.{◌≡◌, Some, false, true, sym, ◌∙◌, subst, arith}
use Rattle.std.specs.Prelude.{slice_get}
use Rattle.book_core.specs.BookView.{SeesWithin}
use Rattle.world_steps.specs.Audit.{books_of}
use Rattle.world_steps.specs.Sites.{IsFirstPassed}
use Rattle.world_steps.proofs.Audits.{found_view, each_more, each_all, length-views}
use Rattle.world_steps.proofs.auditing.first_passed.Goals as goal

pub returns-then-not-sees_within-clause-found : goal.returns-then-not-sees_within-clause-found
returns-then-not-sees_within-clause-found c =
    let books = c.args.books.now in
    let i = c.loop-owner.owner-index in
    let owner = c.owner-item.result.now in
    let found : slice_get (books_of books) i ≡ Some owner = found_view books i c.owner-item.result c.loop-owner-test.true c.owner-item.is in
    let here : i ≡ c.me.result = sym (c.requires.whole i owner found).site ∙ sym c.me.ensures.me in
    subst (IsFirstPassed (books_of books) c.args.viewer.now) here (record {
      owner = owner;
      there = found;
      above = λ sees. let never : false ≡ true = sym c.if-not-sees_within.true ∙ c.sees_within.ensures.1 sees in cc;
      before = c.loop-owner.invariant;
    })

pub loop-owner-preserved : goal.loop-owner-preserved
loop-owner-preserved c =
    let books = c.args.books.now in
    let i = c.loop-owner.owner-index in
    let found : slice_get (books_of books) i ≡ Some c.owner-item.result.now = found_view books i c.owner-item.result c.loop-owner-test.true c.owner-item.is in
    each_more (λ _ other. SeesWithin c.args.viewer.now other) (books_of books) i c.owner-item.result.now found
    (c.sees_within.ensures.0 c.if-not-sees_within.false) c.loop-owner.invariant

pub returns-clause-none : goal.returns-clause-none
returns-clause-none c = λ none.
    let books = c.args.books.now in
    each_all (λ _ other. SeesWithin c.args.viewer.now other) (books_of books) c.loop-owner.owner-index
    (omega (arith, length-views books, c.loop-owner-test.false)) c.loop-owner.invariant
