use Rattle.std.proofs.Common.{ap, ◌∙◌}
use Rattle.sql_records.specs.Held.{RecordsView}
use Rattle.operator_cli.proofs.copies.looked_at.Goals as goal

pub returns-clause-looked : goal.returns-clause-looked
returns-clause-looked g c = record {
  book = c.in_ok-book.book;
  opened = c.in_ok-book.ensures.opened;
  back = c.close.ensures
      ∙ ap (λ (k : RecordsView g.row.S.Denot). k.conn) c.into_keeper.ensures;
}
