use Rattle.local_rights.proofs.PositionLaws.{open_seats_are_the_counters}
use Rattle.local_rights.proofs.laws.open_seats_are_the_counters.Goals as goal

pub returns : goal.returns
returns c = open_seats_are_the_counters
