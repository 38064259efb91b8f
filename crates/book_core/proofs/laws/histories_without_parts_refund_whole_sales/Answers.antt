use Rattle.book_core.proofs.WholeRefunds.{refunded_whole_once}
use Rattle.book_core.proofs.laws.histories_without_parts_refund_whole_sales.Goals as goal

pub returns : goal.returns
returns c = refunded_whole_once
