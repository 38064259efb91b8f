use Rattle.plain_words.proofs.WriteLaws.{goes_on}
use Rattle.plain_words.proofs.writing.write_bytes.Goals as goal

pub loop-rest-preserved : goal.loop-rest-preserved
loop-rest-preserved g c = goes_on _ _ _ _ c.loop-rest.invariant.0 c.loop-rest.rest.now _ c.loop-rest.invariant.1 c.loop-rest.invariant.2 c.in-Ok.ensures.bytes
