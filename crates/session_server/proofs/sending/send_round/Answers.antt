use Rattle.std.proofs.Common.{arith, rules, refl}
use Rattle.session_server.proofs.Exchanges.{all_sent, next_sent}
use Rattle.session_server.proofs.sending.send_round.Goals as goal

pub loop-k-init : goal.loop-k-init
loop-k-init g c = record { len = refl; sent = refl }

-- a turn sends on one link
pub loop-k-preserved : goal.loop-k-preserved
loop-k-preserved g c =
    let i = c.loop-k.invariant in
    record {
      len = search rules;
      sent = next_sent g.S.Replica.gives c.loop-k.k _ c.loop-k.outs.items c.index_mut.result.now c.send_next.new.out
          (search rules) i.sent (search rules) c.send_next.ensures;
    }

pub returns-clause-sent : goal.returns-clause-sent
returns-clause-sent g c = all_sent g.S.Replica.gives c.loop-k.k _ _ (omega arith) c.loop-k.invariant.sent
