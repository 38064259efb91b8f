use Rattle.std.proofs.Common.{vec_len}
use Rattle.session_server.proofs.run.+gathered.Given as goal

abbrev pub decreases-gathered : goal.decreases-gathered
decreases-gathered g l = vec_len l.done
