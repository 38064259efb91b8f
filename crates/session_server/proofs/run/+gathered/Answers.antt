use Rattle.std.proofs.Common.{◌≡◌, rules}
use Rattle.session_server.proofs.Exchanges.{paired}
use Rattle.session_server.proofs.run.+gathered.Goals as goal

pub returns-clause-ends : goal.returns-clause-ends
returns-clause-ends g t c = paired (λ left end. (end.book ≡ left.0) × (end.sessions ≡ left.1) × (end.finished ≡ left.2.0)) _ _ _ _ _ _
    c.in-Some.ensures.items c.push_reserved.ensures.items c.gathered.ensures.ends (search rules)

pub returns-clause-peers : goal.returns-clause-peers
returns-clause-peers g t c = paired (λ left with. with ≡ left.2.1) _ _ _ _ _ _ c.in-Some.ensures.items c.push_reserved-2.ensures.items
    c.gathered.ensures.peers (search rules)
