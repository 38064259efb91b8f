use Rattle.std.proofs.Common.{inl, rules}
use Rattle.live_office.specs.Admissible.{admissible}
use Rattle.live_office.specs.Sparing.{IsNotSpared}
use Rattle.live_office.proofs.office_handler.OfficeHandler.ask.Goals as goal

pub returns : goal.returns
returns g c =
    let unspared : IsNotSpared (admissible g.L.Opens.office g.L.Opens.began g.K.Keeper) c.args.self.now.sparing c.args.number c.args.request.now = search
    (rules, c.in_default.ensures, c.self.view_is) in
    inl (unspared, c.reply.ensures)
