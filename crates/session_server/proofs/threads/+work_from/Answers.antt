use Rattle.std.proofs.Common.{Ok, rules}
use Rattle.session_server.proofs.Exchanges.{paired}
use Rattle.session_server.proofs.threads.+work_from.Goals as goal

pub returns-clause-done : goal.returns-clause-done
returns-clause-done g t c = paired (λ j one. g.P.Promise.kept_by j.1 (Ok one)) _ _ _ _ _ _ c.in-Some.ensures.items c.push_reserved.ensures.items
    c.in_ok-work_from.ensures.done (search rules)
