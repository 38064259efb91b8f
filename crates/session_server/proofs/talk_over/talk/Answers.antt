use Rattle.session_server.proofs.Sessions.{never_began}
use Rattle.session_server.proofs.talk_over.talk.Goals as goal

pub returns-in_default : goal.returns-in_default
returns-in_default g c = never_began g.A.Answerer.step _ _ _
