use Rattle.std.proofs.Common.{◌≡◌, Some, refl, sym, ◌∙◌, subst, arith}
use Rattle.std.specs.Prelude.{slice_get}
use Rattle.world_steps.specs.Audit.{books_of}
use Rattle.world_steps.specs.Sites.{IsFirstAhead, SeesNoneAbove}
use Rattle.world_steps.proofs.Audits.{found_view, each_more, each_all, length-views}
use Rattle.world_steps.proofs.auditing.first_ahead.Goals as goal

pub returns-in-Some-clause-found : goal.returns-in-Some-clause-found
returns-in-Some-clause-found c =
    let books = c.args.books.now in
    let i = c.loop-viewer.viewer-index in
    let viewer = c.viewer-item.result.now in
    let found : slice_get (books_of books) i ≡ Some viewer = found_view books i c.viewer-item.result c.loop-viewer-test.true c.viewer-item.is in
    let here : i ≡ c.me.result = sym (c.requires.whole i viewer found).site ∙ sym c.me.ensures.me in
    subst (λ v. IsFirstAhead (books_of books) v c.in-Some.owner) here (record {
      viewer = viewer;
      there = found;
      above = c.in-Some.ensures.found;
      before = c.loop-viewer.invariant;
    })

pub loop-viewer-preserved : goal.loop-viewer-preserved
loop-viewer-preserved c =
    let books = c.args.books.now in
    let i = c.loop-viewer.viewer-index in
    let found : slice_get (books_of books) i ≡ Some c.viewer-item.result.now = found_view books i c.viewer-item.result c.loop-viewer-test.true
    c.viewer-item.is in
    each_more (λ _ other. SeesNoneAbove (books_of books) other) (books_of books) i c.viewer-item.result.now found (c.in_default.ensures.none refl)
    c.loop-viewer.invariant

pub returns-clause-none : goal.returns-clause-none
returns-clause-none c = λ none.
    let books = c.args.books.now in
    each_all (λ _ other. SeesNoneAbove (books_of books) other) (books_of books) c.loop-viewer.viewer-index
    (omega (arith, length-views books, c.loop-viewer-test.false)) c.loop-viewer.invariant
