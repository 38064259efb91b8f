use Rattle.std.proofs.lemmas.Result.{IfOk-weaker}
use Rattle.operator_cli.proofs.TakesLaws.{takes}
use Rattle.operator_cli.proofs.grammar.serve.Goals as goal

pub returns : goal.returns
returns c =
    let port = takes c.in_ok-arg.ensures c.named.ensures c.operand-port.ensures in
    let sessions = takes c.in_ok-arg-2.ensures port c.operand-sessions.ensures in
    let rounds = takes c.in_ok-arg-3.ensures sessions c.operand-rounds.ensures in
    let desks = takes c.in_ok-arg-4.ensures rounds c.desks.ensures in
    IfOk-weaker c.arg-5.result _ _ (λ command adds. takes adds desks c.copies-copies.ensures) c.arg-5.ensures
