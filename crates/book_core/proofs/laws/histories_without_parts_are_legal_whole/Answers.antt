use Rattle.book_core.proofs.WholeLegal.{legal_is_whole}
use Rattle.book_core.proofs.laws.histories_without_parts_are_legal_whole.Goals as goal

pub returns : goal.returns
returns c = legal_is_whole
