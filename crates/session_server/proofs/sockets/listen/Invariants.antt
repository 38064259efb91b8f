use Rattle.std.proofs.Common.{◌≡◌, vec_len, vec_capacity}
use Rattle.session_server.proofs.sockets.listen.Given as goal

abbrev pub invariant-loop : goal.invariant-loop
invariant-loop g l = (vec_len l.streams ≡ l.counter) × (vec_capacity l.streams ≡ vec_capacity l.initial.streams)
