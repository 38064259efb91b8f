use Rattle.book_core.proofs.KeptOnce.{each_reply_is_kept}
use Rattle.book_core.proofs.KeptOnce.{numbers_are_kept_once}
use Rattle.book_core.proofs.Histories.{legal_length}
use Rattle.book_core.proofs.laws.legal_histories_keep_numbers_once.Goals as goal

pub returns-clause-kept : goal.returns-clause-kept
returns-clause-kept c = each_reply_is_kept

pub returns-clause-once : goal.returns-clause-once
returns-clause-once c = numbers_are_kept_once

pub returns-clause-within_limit : goal.returns-clause-within_limit
returns-clause-within_limit c = legal_length
