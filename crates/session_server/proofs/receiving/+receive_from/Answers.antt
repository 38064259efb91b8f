use Rattle.std.proofs.Common.{rules}
use Rattle.session_server.specs.Exchanged.{Received}
use Rattle.session_server.proofs.Exchanges.{paired}
use Rattle.session_server.proofs.receiving.+receive_from.Goals as goal

pub returns-clause-received : goal.returns-clause-received
returns-clause-received g t c = paired (Received g.S.Replica.holds g.S.Replica.refuses) _ _ _ _ _ _ c.in-Some.ensures.items c.push_reserved.ensures.items
    c.in_ok-receive_from.ensures.received (search rules)
