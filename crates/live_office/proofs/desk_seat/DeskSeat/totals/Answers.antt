use Rattle.std.proofs.Common.{Ok, rules, subst, sym}
use Rattle.site_desk.specs.Moments.{Looks}
use Rattle.live_office.specs.Admissible.{SomeAdmissible, admissible}
use Rattle.live_office.proofs.Seats.{totals_hidden, totals_shown}
use Rattle.live_office.proofs.desk_seat.DeskSeat.totals.Goals as goal

pub returns-in-Err : goal.returns-in-Err
returns-in-Err g c =
    totals_hidden (admissible g.L.Opens.office g.L.Opens.began g.K.Keeper) c.args.self.now c.args.event c.in-Err.fault c.not_shown.result
    c.not_shown.ensures c.in-Err.ensures.seen

pub returns : goal.returns
returns g c =
    let d = admissible g.L.Opens.office g.L.Opens.began g.K.Keeper in
    totals_shown d c.args.self.now c.args.event c.in-Ok.seen _ (search rules) c.in-Ok.ensures.event (search rules)
    (subst (λ event. SomeAdmissible d (Looks event (Ok c.in-Ok.seen))) (sym c.in-Ok.ensures.event) c.in-Ok.ensures.seen)
