use Rattle.std.proofs.Common.{rules}
use Rattle.live_office.specs.Admissible.{admissible}
use Rattle.live_office.proofs.AskedAs.{its_receipt, shut_by}
use Rattle.live_office.proofs.desk_seat.DeskSeat.ask.Goals as goal

pub refused-requires : goal.refused-requires
refused-requires g c =
    λ e. shut_by (admissible g.L.Opens.office g.L.Opens.began g.K.Keeper) c.args.number c.args.request.now c.in-Err.fault e c.in-Err.ensures.asked

pub returns-in-Ok : goal.returns-in-Ok
returns-in-Ok g c =
    let d = admissible g.L.Opens.office g.L.Opens.began g.K.Keeper in
    (c.in-Ok.receipt.place, its_receipt d c.args.number c.args.request.now c.in-Ok.receipt c.in-Ok.ensures.asked, search rules)
