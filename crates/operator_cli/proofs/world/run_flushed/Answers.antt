use Rattle.std.proofs.Common.{◌∙◌, subst, Ok, Err}
use Rattle.operator_cli.specs.Ran.{ScriptRan}
use Rattle.operator_cli.proofs.ScriptLaws.{at_err, script_unbuffered, script_unflushed, script_flushed}
use Rattle.operator_cli.proofs.world.run_flushed.Goals as goal

pub returns-in_err-reader : goal.returns-in_err-reader
returns-in_err-reader g c =
    at_err c.from_residual.result (ScriptRan (g.R.Read.remaining c.args.reader) (g.W.Write.contents c.args.out.now) (g.W.Write.contents c.args.out.now)) _
    c.from_residual.ensures.1
    (λ f e. script_unbuffered _ _ f (e ∙ c.in_err-reader.ensures.memory))

pub returns-in-Ok-flush : goal.returns-in-Ok-flush
returns-in-Ok-flush g c =
    let old = g.W.Write.contents c.args.out.now in
    let ran = subst (λ input. ScriptRan input old (g.W.Write.contents c.run_script.new.out) (Ok c.in-Ok.is_started)) c.in_ok-reader.ensures.reader
    c.in-Ok.ensures.ran in
    script_flushed _ old _ _ (Ok c.in-Ok.is_started) ran c.flush.ensures.bytes

pub returns-in-Ok : goal.returns-in-Ok
returns-in-Ok g c =
    let old = g.W.Write.contents c.args.out.now in
    let ran = subst (λ input. ScriptRan input old (g.W.Write.contents c.run_script.new.out) (Ok c.in-Ok.is_started)) c.in_ok-reader.ensures.reader
    c.in-Ok.ensures.ran in
    script_unflushed _ old _ _ c.in-Ok.is_started ran c.flush.ensures.bytes

pub returns : goal.returns
returns g c =
    let old = g.W.Write.contents c.args.out.now in
    let ran = subst (λ input. ScriptRan input old (g.W.Write.contents c.run_script.new.out) (Err c.in-Err.fault)) c.in_ok-reader.ensures.reader
    c.in-Err.ensures.ran in
    script_flushed _ old _ _ (Err c.in-Err.fault) ran c.flush-in-Err.ensures.bytes
