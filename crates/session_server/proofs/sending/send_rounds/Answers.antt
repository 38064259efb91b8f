use Rattle.std.proofs.Common.{◌≡◌, arith, rules, refl, subst}
use Rattle.std.specs.List.{AllZip}
use Rattle.session_server.specs.Exchanged.{SentMore}
use Rattle.session_server.proofs.Exchanges.{all_then, none_sent}
use Rattle.session_server.proofs.sending.send_rounds.Goals as goal

pub loop-init : goal.loop-init
loop-init g c = record { len = refl; sent = none_sent _ _ _ }

pub loop-preserved : goal.loop-preserved
loop-preserved g c = record { len = search rules; sent = all_then _ _ _ _ _ _ c.loop.invariant.sent c.send_round.ensures.sent }

pub returns-clause-sent : goal.returns-clause-sent
returns-clause-sent g c =
    let all : c.loop.counter ≡ c.args.rounds = omega arith in
    subst (λ n. AllZip (SentMore g.S.Replica.gives n) c.args.outs.now.items c.loop.outs.items) all c.loop.invariant.sent
