use Rattle.std.proofs.Common.{◌≡◌, rules}
use Rattle.session_server.proofs.Exchanges.{paired}
use Rattle.session_server.proofs.run.+begun.Goals as goal

pub returns-clause-begun : goal.returns-clause-begun
returns-clause-begun g t c = paired (λ one job. (job.0 ≡ one) × (job.1.linked.value ≡ one) × (job.1.rounds ≡ c.args.rounds)) _ _ _ _ _ _
    c.in-Some.ensures.items c.push_reserved.ensures.items c.begun.ensures.begun (search rules)
