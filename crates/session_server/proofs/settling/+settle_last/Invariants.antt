use Rattle.std.proofs.Common.{vec_len}
use Rattle.session_server.proofs.settling.+settle_last.Given as goal

abbrev pub decreases-settle_last : goal.decreases-settle_last
decreases-settle_last l = vec_len l.ends
