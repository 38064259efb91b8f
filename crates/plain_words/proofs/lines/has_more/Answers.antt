use Rattle.plain_words.proofs.LineLaws.{tells_more}
use Rattle.plain_words.proofs.lines.has_more.Goals as goal

pub returns : goal.returns
returns g c = rw c.is_some.ensures (tells_more _ _ c.in_ok-byte.byte c.in_ok-byte.ensures)
