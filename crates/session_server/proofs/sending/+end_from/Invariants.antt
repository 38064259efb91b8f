use Rattle.std.proofs.Common.{vec_len}
use Rattle.session_server.proofs.sending.+end_from.Given as goal

abbrev pub decreases-end_from : goal.decreases-end_from
decreases-end_from g l = vec_len l.outs
