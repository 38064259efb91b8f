use Rattle.std.proofs.Common.{[], ap, arith, length-append}
use Rattle.crossbeam_channel.specs.Claims.{view}
use Rattle.link_queue.proofs.Links.{puts}
use Rattle.link_queue.proofs.ends.Tx.end.Goals as goal

pub send_as-requires-clause-rule : goal.send_as-requires-clause-rule
send_as-requires-clause-rule g c = (
  puts _ _ _ _ (ap (λ v. v.sends) c.self.invariant.1) (omega (arith, c.self.invariant.2, length-append (view c.self.inside.pass).put [])),
  λ items views h at. tt,
)
