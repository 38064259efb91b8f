use Rattle.std.proofs.Common.{◌≡◌, ◌≤◌, ◌+◌, length}
use Rattle.session_server.specs.Exchanged.{AreHeldOrRefused}
use Rattle.session_server.proofs.receiving.receive_acks.Given as goal

abbrev pub invariant-loop : goal.invariant-loop
invariant-loop g l = record {
  link : l.rx.link ≡ l.initial.rx.link;
  met : AreHeldOrRefused g.S.Replica.holds g.S.Replica.refuses l.initial.rx.messages l.rx.messages;
  counted : length l.initial.rx.messages + l.refused ≤ length l.rx.messages;
}
