use Rattle.std.proofs.Common.{◌≡◌, false, subst, sym, ◌∙◌}
use Rattle.operator_cli.specs.Session.{BookRan, KeepsHistory}
use Rattle.operator_cli.proofs.SessionLaws.{book_ran}
use Rattle.operator_cli.proofs.copies.ask_site.Goals as goal

pub returns : goal.returns
returns g c =
    let holds : c.into_book-book.result.closed ≡ false → KeepsHistory g.K.Keeper c.into_book-book.result =
    λ unclosed trusted. record {
      is = sym (c.is_closed-closed.ensures.kept (c.is_closed-closed.ensures.closed ∙ unclosed) trusted);
      leaves = c.is_closed-closed.ensures.rests (c.is_closed-closed.ensures.closed ∙ unclosed) trusted;
    } in
    subst (λ book. BookRan g.K.Keeper book c.into_book-book.result (g.R.Read.remaining c.args.input) (g.W.Write.contents c.args.out.now)
    (g.W.Write.contents c.ended-status.new.out) (g.E.Write.contents c.args.err.now) (g.E.Write.contents c.ended-status.new.err) c.ended-status.result)
    c.new-answerer.ensures
    (subst (λ behind. BookRan g.K.Keeper c.new-answerer.result behind (g.R.Read.remaining c.args.input) (g.W.Write.contents c.args.out.now)
    (g.W.Write.contents c.ended-status.new.out) (g.E.Write.contents c.args.err.now) (g.E.Write.contents c.ended-status.new.err) c.ended-status.result)
    (sym c.into_book-book.ensures)
    (book_ran g.K.Keeper c.new-answerer.result c.talk-came.new.answerer (g.R.Read.remaining c.args.input) (g.W.Write.contents c.args.out.now)
    (g.W.Write.contents c.talk-came.new.out) (g.W.Write.contents c.ended-status.new.out) (g.E.Write.contents c.args.err.now)
    (g.E.Write.contents c.ended-status.new.err) c.talk-came.result c.status_of.result c.ended-status.result
    c.talk-came.ensures c.status_of.ensures c.ended-status.ensures.kept c.ended-status.ensures.told c.ended-status.ensures.line
    c.ended-status.ensures.flush c.ended-status.ensures.status
    (subst (λ behind. behind.closed ≡ false → KeepsHistory g.K.Keeper behind) c.into_book-book.ensures holds)))
