use Rattle.std.proofs.Common.{vec_len}
use Rattle.session_server.proofs.receiving.+receive_from.Given as goal

abbrev pub decreases-receive_from : goal.decreases-receive_from
decreases-receive_from g l = vec_len l.peers
