use Rattle.std.proofs.Common.{◌≡◌, vec_len}
use Rattle.std.specs.List.{AllZip}
use Rattle.session_server.specs.Exchanged.{SentMore}
use Rattle.session_server.proofs.sending.send_rounds.Given as goal

abbrev pub invariant-loop : goal.invariant-loop
invariant-loop g l = record {
  len : vec_len l.outs ≡ vec_len l.initial.outs;
  sent : AllZip (SentMore g.S.Replica.gives l.counter) l.initial.outs.items l.outs.items;
}
