use Rattle.std.proofs.Common.{vec_len}
use Rattle.session_server.proofs.exchange.+zip.Given as goal

abbrev pub decreases-zip : goal.decreases-zip
decreases-zip l = vec_len l.outs
