use Rattle.std.proofs.Common.{◌≡◌, take, vec_len, vec_capacity}
use Rattle.book_core.specs.OwnRow.{HasOwnRights}
use Rattle.site_desk.specs.Batch.{AreAnswered}
use Rattle.site_desk.proofs.asking_all.answer_each.Given as goal

-- those before are answered
abbrev pub invariant-loop-asked : goal.invariant-loop-asked
invariant-loop-asked l = record {
  office : l.book.office ≡ l.initial.book.office;
  has_rights : HasOwnRights l.book;
  count : vec_len l.answers ≡ l.asked-index;
  room : vec_capacity l.answers ≡ vec_capacity l.initial.answers;
  answered : AreAnswered l.initial.book.office l.initial.book.history (take l.asked-index l.requests) l.answers.items l.book.history;
}
