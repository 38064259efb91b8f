use Rattle.std.proofs.Common.{◌≡◌, length}
use Rattle.session_server.proofs.Exchanges.{FirstSent}
use Rattle.session_server.proofs.sending.send_round.Given as goal

abbrev pub invariant-loop-k : goal.invariant-loop-k
invariant-loop-k g l = record {
  len : length l.outs.items ≡ length l.initial.outs.items;
  sent : FirstSent g.S.Replica.gives l.k l.initial.outs.items l.outs.items;
}
