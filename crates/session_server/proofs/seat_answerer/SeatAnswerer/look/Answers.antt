use Rattle.std.proofs.Common.{Ok, rules, subst, sym}
use Rattle.site_desk.specs.Moments.{AtOneMoment, Looks}
use Rattle.site_desk.specs.SiteView.{SiteInStep}
use Rattle.session_server.specs.SeatStep.{told_at}
use Rattle.session_server.proofs.Seats.{look_told}
use Rattle.session_server.proofs.seat_answerer.SeatAnswerer.look.Goals as goal

pub returns-clause-told : goal.returns-clause-told
returns-clause-told g c =
    let in_step = SiteInStep g.K.Keeper in
    look_told (told_at g.L.Opens.office g.L.Opens.began g.K.Keeper.failed in_step) c.args.self.now _ c.in-Ok.seen (search rules) (search rules)
    (subst (λ event. AtOneMoment g.L.Opens.office g.L.Opens.began in_step (Looks event (Ok c.in-Ok.seen))) (sym c.in-Ok.ensures.event) c.in-Ok.ensures.seen)
