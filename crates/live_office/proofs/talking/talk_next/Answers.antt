use Rattle.live_office.proofs.Talks.{kept_first}
use Rattle.live_office.proofs.talking.talk_next.Goals as goal

pub returns : goal.returns
returns g c = kept_first g.H.Handler.handles g.H.Handler.ends _ _ _ _ _ _ _ _ _ c.in-Ok.ensures.reader c.in-Ok.ensures.handler c.talk_line.ensures
