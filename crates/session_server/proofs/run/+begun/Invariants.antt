use Rattle.std.proofs.Common.{vec_len}
use Rattle.session_server.proofs.run.+begun.Given as goal

abbrev pub decreases-begun : goal.decreases-begun
decreases-begun g l = vec_len l.linked
