use Rattle.std.proofs.Common.{vec_len}
use Rattle.session_server.proofs.seating.+seat_from.Given as goal

abbrev pub decreases-seat_from : goal.decreases-seat_from
decreases-seat_from g l = vec_len l.visits
