use Rattle.std.proofs.Common.{refl, rules}
use Rattle.world_steps.specs.Audit.{books_of}
use Rattle.world_steps.specs.Sites.{IsWhole}
use Rattle.world_steps.proofs.Audits.{audited}
use Rattle.world_steps.proofs.auditing.audit.Goals as goal

pub first_ahead-requires : goal.first_ahead-requires
first_ahead-requires c = record { whole = c.is_whole.ensures.whole.0 c.if-not-is_whole.false }

pub returns-in-Some-clause-ahead : goal.returns-in-Some-clause-ahead
returns-in-Some-clause-ahead c = λ v o told.
    let whole : IsWhole (books_of c.args.books.now) = c.is_whole.ensures.whole.0 c.if-not-is_whole.false in
    (whole, search rules)

pub returns-in_err-lines-clause-memory : goal.returns-in_err-lines-clause-memory
returns-in_err-lines-clause-memory c = λ _. (c.is_whole.ensures.whole.0 c.if-not-is_whole.false, c.in_default.ensures.none refl)

pub returns-clause-in_order : goal.returns-clause-in_order
returns-clause-in_order c = (c.is_whole.ensures.whole.0 c.if-not-is_whole.false, c.in_default.ensures.none refl)

pub returns-clause-not_oversold : goal.returns-clause-not_oversold
returns-clause-not_oversold c =
    audited (books_of c.args.books.now) (c.is_whole.ensures.sites c.if-not-is_whole.false) (c.in_default.ensures.none refl)
