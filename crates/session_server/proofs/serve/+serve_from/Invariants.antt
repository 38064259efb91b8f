use Rattle.std.proofs.Common.{vec_len}
use Rattle.session_server.proofs.serve.+serve_from.Given as goal

abbrev pub decreases-serve_from : goal.decreases-serve_from
decreases-serve_from g l = vec_len l.sessions
