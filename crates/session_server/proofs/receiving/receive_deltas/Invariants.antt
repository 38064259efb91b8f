use Rattle.std.proofs.Common.{◌≡◌}
use Rattle.session_server.specs.Exchanged.{Acknowledges}
use Rattle.session_server.proofs.receiving.receive_deltas.Given as goal

abbrev pub invariant-loop : goal.invariant-loop
invariant-loop g l = record {
  rx : l.rx.link ≡ l.initial.rx.link;
  tx : l.tx.link ≡ l.initial.tx.link;
  acknowledged : Acknowledges g.S.Replica.holds g.S.Replica.refuses l.initial.rx.messages l.initial.tx.messages l.refused l.rx.messages l.tx.messages;
}
