use Rattle.std.proofs.Common.{vec_len}
use Rattle.session_server.proofs.settling.+add_pairs.Given as goal

abbrev pub decreases-add_pairs : goal.decreases-add_pairs
decreases-add_pairs l = vec_len l.told
