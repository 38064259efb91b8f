use Rattle.sql_records.proofs.StopLemmas.{crashes_are_survived}
use Rattle.sql_records.proofs.laws.crashes_are_survived.Goals as goal

pub returns : goal.returns
returns g c = crashes_are_survived g.S.Store
