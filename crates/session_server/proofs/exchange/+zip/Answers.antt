use Rattle.std.proofs.Common.{rules}
use Rattle.session_server.specs.Exchanged.{HasSent, HasReceived}
use Rattle.session_server.proofs.Exchanges.{paired}
use Rattle.session_server.proofs.exchange.+zip.Goals as goal

pub returns-clause-sent : goal.returns-clause-sent
returns-clause-sent t c = paired HasSent _ _ _ _ _ _ c.in-Some.ensures.items c.push_reserved.ensures.items c.zip.ensures.sent (search rules)

pub returns-clause-received : goal.returns-clause-received
returns-clause-received t c = paired HasReceived _ _ _ _ _ _ c.in-Some-pop.ensures.items c.push_reserved.ensures.items c.zip.ensures.received (search rules)
