use Rattle.std.proofs.Common.{vec_len}
use Rattle.session_server.proofs.exchange.+split.Given as goal

abbrev pub decreases-split : goal.decreases-split
decreases-split l = vec_len l.peers
