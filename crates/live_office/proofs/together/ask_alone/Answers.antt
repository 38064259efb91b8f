use Rattle.std.proofs.Common.{Err, ap}
use Rattle.live_office.specs.Admissible.{admissible}
use Rattle.live_office.proofs.AskedAs.{refused}
use Rattle.live_office.proofs.together.ask_alone.Goals as goal

pub returns-in-Err-clause-asked : goal.returns-in-Err-clause-asked
returns-in-Err-clause-asked g c =
    refused (admissible g.L.Opens.office g.L.Opens.began g.K.Keeper) _ _ c.in-Err.fault
    (c.in-Err.ensures.answered, λ e. c.in-Err.ensures.shut (ap Err e))
