use Rattle.std.proofs.Common.{length}
use Rattle.site_desk.specs.SiteView.{SiteInStep}
use Rattle.session_server.specs.SeatStep.{told_at}
use Rattle.session_server.proofs.Seats.{totals_nothing}
use Rattle.session_server.proofs.seat_answerer.SeatAnswerer.totals.Goals as goal

pub returns-in-Err : goal.returns-in-Err
returns-in-Err g c =
    totals_nothing (told_at g.L.Opens.office g.L.Opens.began g.K.Keeper.failed (SiteInStep g.K.Keeper))
    (length g.L.Opens.began) c.args.self.now c.look.new.self c.args.event c.in-Err.answered c.in-Err.ensures.shown.0 c.in-Err.ensures.shown.1
    c.in-Err.ensures.why c.in-Err.ensures.told
