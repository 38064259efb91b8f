use Rattle.std.proofs.Common.{◌≡◌, length, refl, rules, subst, true}
use Rattle.site_desk.specs.declared.fault.AskFault.TheVariants as ask
use Rattle.site_desk.specs.Moments.{AtOneMoment, Replies}
use Rattle.site_desk.specs.SiteView.{SiteInStep}
use Rattle.session_server.specs.SeatStep.{DeskStep, Seated, seated, told_at}
use Rattle.desk_lines.specs.declared.line.Line.TheVariants.{Ask}
use Rattle.session_server.proofs.Seats.{asked_at_desk, both_if_err, if_err, if_shut}
use Rattle.session_server.proofs.seat_answerer.SeatAnswerer.ask.Goals as goal

pub returns : goal.returns
returns g c =
    let desk = told_at g.L.Opens.office g.L.Opens.began g.K.Keeper.failed (SiteInStep g.K.Keeper) in
    let in_step = SiteInStep g.K.Keeper in
    let old = seated c.self.inside.seat c.reserve.new.self.items c.self.inside.looks.items in
    let new = seated c.ask-came.new.seat c.kept.new.receipts.items c.self.inside.looks.items in
    subst (λ (s : Seated). DeskStep desk (length g.L.Opens.began) s (Ask c.args.number c.args.request.now) c.kept.result new) (search rules)
    (asked_at_desk desk (length g.L.Opens.began) old new c.args.number c.args.request.now c.ask-came.result c.kept.result c.kept.ensures.answered
    c.kept.ensures.receipts refl
    c.ask-came.ensures.receipt c.ask-came.ensures.share c.ask-came.ensures.kept c.ask-came.ensures.place c.ask-came.ensures.stands
    (both_if_err _ _ c.ask-came.result
    (if_err (λ result. AtOneMoment g.L.Opens.office g.L.Opens.began in_step (Replies g.K.Keeper.failed c.args.number c.args.request.now result))
    c.ask-came.result c.ask-came.ensures.answered)
    (if_shut ask.Store (AtOneMoment g.L.Opens.office g.L.Opens.began in_step (λ site. site.closed ≡ true)) c.ask-came.result c.ask-came.ensures.shut)))
