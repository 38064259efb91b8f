use Rattle.std.proofs.Common.{inl, inr, ap, sym, subst}
use Rattle.sqlite.specs.Held.{state}
use Rattle.sql_records.specs.Held.{RecordsView}
use Rattle.site_desk.specs.SiteView.{SiteView}
use Rattle.session_server.proofs.Books.{talked_trusted}
use Rattle.operator_cli.specs.Opened.{IsBookOf}
use Rattle.operator_cli.specs.Opened.{IsIllegal, IsRefused}
use Rattle.operator_cli.specs.Session.{records}
use Rattle.operator_cli.proofs.EndLaws.{holds_behind, if_back}
use Rattle.operator_cli.proofs.PrintLaws.{if_some_is}
use Rattle.operator_cli.proofs.SessionLaws.{ends_so, session_ran, site_at_first}
use Rattle.operator_cli.proofs.OpenedLaws.{book_back, opened_illegal, opened_ours, refused_illegal, refused_lost, refused_ours}
use Rattle.operator_cli.proofs.ask.ask_store.Goals as goal

pub returns-in-Err-clause-lost : goal.returns-in-Err-clause-lost
returns-in-Err-clause-lost g c =
    refused_lost g.S.Store c.args.conn c.in-Err.fault c.in-Err.conn c.in-Err.ensures.fault (g.W.Write.contents c.args.out.now)
    (g.W.Write.contents c.ended.new.out) (g.E.Write.contents c.args.err.now) (g.E.Write.contents c.ended.new.err) c.ended.result c.ended.ensures.kept
    c.ended.ensures.line c.ended.ensures.status

pub returns-in-Err-clause-illegal : goal.returns-in-Err-clause-illegal
returns-in-Err-clause-illegal g c =
    refused_illegal g.S.Store c.args.conn c.in-Err.fault c.in-Err.conn c.in-Err.ensures.fault (g.W.Write.contents c.args.out.now)
    (g.W.Write.contents c.ended.new.out) (g.E.Write.contents c.args.err.now) (g.E.Write.contents c.ended.new.err) c.ended.result c.ended.ensures.kept
    c.ended.ensures.line c.ended.ensures.status

pub returns-in-Err-clause-ours : goal.returns-in-Err-clause-ours
returns-in-Err-clause-ours g c =
    refused_ours g.S.Store c.args.conn c.in-Err.fault c.in-Err.conn c.in-Err.ensures.fault

pub returns-in-Err-clause-ran : goal.returns-in-Err-clause-ran
returns-in-Err-clause-ran g c =
    if_back c.in-Err.conn (IsRefused g.S.Store c.args.conn c.in-Err.fault) (λ after. IsIllegal g.S.Store c.args.conn after c.in-Err.fault) _
    c.in-Err.ensures.fault
    (λ after found clean. inl (c.in-Err.fault, found, c.ended.ensures.kept, c.ended.ensures.line, c.ended.ensures.status))

pub returns-in-Ok-clause-ours : goal.returns-in-Ok-clause-ours
returns-in-Ok-clause-ours g c =
    if_some_is _ _ _ c.close_book.ensures.back
    (opened_ours g.S.Store c.args.conn c.into_book.result.keeper.conn c.in-Ok.book
    (book_back g.S.Store c.args.conn c.into_book.result.keeper.conn c.in-Ok.book c.new-answerer.result.keeper c.talk-came.new.answerer.keeper
    (ap (λ (b : SiteView (RecordsView g.row.S.Denot)). b.keeper) c.new-answerer.ensures)
    (talked_trusted (records g.S.Store) _ _ _ _ _ _ c.talk-came.ensures)
    (ap (λ (b : SiteView (RecordsView g.row.S.Denot)). b.keeper.conn) c.into_book.ensures) c.in-Ok.ensures.opened.book))

pub returns-in-Ok-clause-illegal : goal.returns-in-Ok-clause-illegal
returns-in-Ok-clause-illegal g c =
    if_some_is _ _ _ c.close_book.ensures.back
    (opened_illegal g.S.Store c.args.conn c.into_book.result.keeper.conn c.in-Ok.book
    (book_back g.S.Store c.args.conn c.into_book.result.keeper.conn c.in-Ok.book c.new-answerer.result.keeper c.talk-came.new.answerer.keeper
    (ap (λ (b : SiteView (RecordsView g.row.S.Denot)). b.keeper) c.new-answerer.ensures)
    (talked_trusted (records g.S.Store) _ _ _ _ _ _ c.talk-came.ensures)
    (ap (λ (b : SiteView (RecordsView g.row.S.Denot)). b.keeper.conn) c.into_book.ensures) c.in-Ok.ensures.opened.book)
    (g.W.Write.contents c.args.out.now) (g.W.Write.contents c.close_book.new.out) (g.E.Write.contents c.args.err.now)
    (g.E.Write.contents c.close_book.new.err) c.close_book.result.0)

pub returns-in-Ok-clause-ran : goal.returns-in-Ok-clause-ran
returns-in-Ok-clause-ran g c =
    if_some_is _ _ _ c.close_book.ensures.back (λ clean.
    inr (session_ran g.S.Store c.args.conn c.into_book.result.keeper.conn c.new-answerer.result c.talk-came.new.answerer (g.R.Read.remaining c.args.input)
    (g.W.Write.contents c.args.out.now) (g.W.Write.contents c.talk-came.new.out) (g.W.Write.contents c.close_book.new.out)
    (g.E.Write.contents c.args.err.now) (g.E.Write.contents c.close_book.new.err) c.talk-came.result c.status_of.result c.close_book.result.0
    (subst (IsBookOf (state g.S.Store c.args.conn).now.trees) (sym c.new-answerer.ensures)
    ((book_back g.S.Store c.args.conn c.into_book.result.keeper.conn c.in-Ok.book c.new-answerer.result.keeper c.talk-came.new.answerer.keeper
    (ap (λ (b : SiteView (RecordsView g.row.S.Denot)). b.keeper) c.new-answerer.ensures)
    (talked_trusted (records g.S.Store) _ _ _ _ _ _ c.talk-came.ensures)
    (ap (λ (b : SiteView (RecordsView g.row.S.Denot)). b.keeper.conn) c.into_book.ensures) c.in-Ok.ensures.opened.book) clean))
    c.talk-came.ensures c.status_of.ensures c.close_book.ensures.kept c.close_book.ensures.told c.close_book.ensures.line
    c.close_book.ensures.flush c.close_book.ensures.status
    (λ unclosed. holds_behind g.S.Store c.close_book.result.1 c.into_book.result c.talk-came.new.answerer c.into_book.ensures c.close_book.ensures.back
    c.close_book.ensures.holds unclosed clean)
    (site_at_first g.S.Store c.args.conn c.new-answerer.result c.in-Ok.book c.new-answerer.ensures c.in-Ok.ensures.opened.site)
    (ap (λ (b : SiteView (RecordsView g.row.S.Denot)). b.keeper.conn) c.into_book.ensures) clean))

pub returns-in-Ok-clause-status : goal.returns-in-Ok-clause-status
returns-in-Ok-clause-status g c = ends_so c.talk-came.result c.status_of.result c.close_book.result.0 c.status_of.ensures c.close_book.ensures.status
