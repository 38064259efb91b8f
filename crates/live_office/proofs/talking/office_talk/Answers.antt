use Rattle.live_office.proofs.Talks.{never_began}
use Rattle.live_office.proofs.talking.office_talk.Goals as goal

pub returns-in_default : goal.returns-in_default
returns-in_default g c = never_began g.H.Handler.handles g.H.Handler.ends _ _ _
