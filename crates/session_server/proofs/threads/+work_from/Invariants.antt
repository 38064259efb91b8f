use Rattle.std.proofs.Common.{vec_len}
use Rattle.session_server.proofs.threads.+work_from.Given as goal

abbrev pub decreases-work_from : goal.decreases-work_from
decreases-work_from g l = vec_len l.jobs
