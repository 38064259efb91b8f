use Rattle.std.proofs.Common.{Ok}
use Rattle.site_desk.specs.Moments.{AtOneMoment, Sends}
use Rattle.site_desk.specs.SiteView.{SiteInStep}
use Rattle.session_server.proofs.Exchanges.{if_some}
use Rattle.session_server.proofs.replica.DeskReplicaReplica.next.Goals as goal

pub returns-in-Ok-clause-given : goal.returns-in-Ok-clause-given
returns-in-Ok-clause-given g c =
    let in_step = SiteInStep g.K.Keeper in
    if_some (λ message. AtOneMoment g.L.Opens.office g.L.Opens.began in_step (Sends c.args.to (Ok message))) c.in-Ok.message c.in-Ok.ensures.due
