use Rattle.std.proofs.Common.{◌≡◌}
use Rattle.book_core.specs.Legal.{IsLegal}
use Rattle.book_core.proofs.book.Book.replay.Given as goal

abbrev pub invariant-loop-entry : goal.invariant-loop-entry
invariant-loop-entry l = record {
  office : l.book.office ≡ record { me = l.fn.me; sites = l.fn.sites; limit = l.fn.limit };
  history : l.book.history ≡ l.yielded;
  legal : IsLegal l.book.office l.book.history;
}
