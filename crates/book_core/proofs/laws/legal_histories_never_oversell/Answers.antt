use Rattle.book_core.proofs.Rows.{legal_rights}
use Rattle.book_core.proofs.Refunds.{legal_refunds}
use Rattle.book_core.proofs.Returned.{sales_are_returned}
use Rattle.book_core.proofs.laws.legal_histories_never_oversell.Goals as goal

pub returns-clause-rights : goal.returns-clause-rights
returns-clause-rights c = legal_rights

pub returns-clause-refunds : goal.returns-clause-refunds
returns-clause-refunds c = legal_refunds

pub returns-clause-sales : goal.returns-clause-sales
returns-clause-sales c = sales_are_returned
