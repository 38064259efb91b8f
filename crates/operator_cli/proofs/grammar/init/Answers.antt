use Rattle.std.proofs.lemmas.Result.{IfOk-weaker}
use Rattle.operator_cli.proofs.TakesLaws.{takes}
use Rattle.operator_cli.proofs.grammar.init.Goals as goal

pub returns : goal.returns
returns c =
    let file = takes c.in_ok-arg.ensures c.named.ensures c.file.ensures in
    let me = takes c.in_ok-arg-2.ensures file c.operand-me.ensures in
    let sites = takes c.in_ok-arg-3.ensures me c.operand-sites.ensures in
    IfOk-weaker c.arg-4.result _ _ (λ command adds. takes adds sites c.operand-limit.ensures) c.arg-4.ensures
