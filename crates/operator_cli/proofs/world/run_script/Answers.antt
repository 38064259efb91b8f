use Rattle.operator_cli.specs.Ran.{ScriptRan}
use Rattle.operator_cli.specs.declared.fault.ScriptFault.TheVariants.{Write}
use Rattle.operator_cli.proofs.BreakLaws.{broke_script, not_out, err_is}
use Rattle.operator_cli.proofs.ScriptLaws.{at_err, script_unread, refusal_broken, script_broken, script_done}
use Rattle.operator_cli.proofs.world.run_script.Goals as goal

pub returns-in_err-run_world-clause-ran : goal.returns-in_err-run_world-clause-ran
returns-in_err-run_world-clause-ran g c =
    let started = rw c.in-Some.is at c.in_ok-sites.ensures.ran in
    at_err c.from_residual-in_err-run_world.result
    (ScriptRan (g.R.Read.remaining c.args.reader.now) (g.W.Write.contents c.args.out.now) (g.W.Write.contents c.run_world.new.out)) _
    c.from_residual-in_err-run_world.ensures.1
    (λ f e. rw e (script_broken _ _ _ _ c.in-Some.sites _ started c.in_err-run_world.ensures.ran))

pub returns-clause-ran : goal.returns-clause-ran
returns-clause-ran g c =
    let started = rw c.in-Some.is at c.in_ok-sites.ensures.ran in
    script_done _ _ _ _ c.in-Some.sites started c.in_ok-run_world.ensures.ran

pub returns-in_err-sites-clause-ran : goal.returns-in_err-sites-clause-ran
returns-in_err-sites-clause-ran g c =
    at_err c.from_residual.result (ScriptRan (g.R.Read.remaining c.args.reader.now) (g.W.Write.contents c.args.out.now)
    (g.W.Write.contents c.args.out.now)) _ c.from_residual.ensures.1
    (λ f e. rw e (script_unread (g.R.Read.remaining c.args.reader.now) (g.R.Read.remaining c.read_start.new.reader) _ _ c.in_err-sites.ensures.ran))

pub returns-in_err-reply_line-clause-ran : goal.returns-in_err-reply_line-clause-ran
returns-in_err-reply_line-clause-ran g c =
    let started = rw c.in_default.is at c.in_ok-sites.ensures.ran in
    at_err c.from_residual-in_err-reply_line.result
    (ScriptRan (g.R.Read.remaining c.args.reader.now) (g.W.Write.contents c.args.out.now) (g.W.Write.contents c.reply_line.new.out)) _
    c.from_residual-in_err-reply_line.ensures.1
    (λ f e. rw e (refusal_broken (g.R.Read.remaining c.args.reader.now) (g.R.Read.remaining c.read_start.new.reader) _ _ started c.in_err-reply_line.ensures))

pub returns-in_err-sites-clause-reads : goal.returns-in_err-sites-clause-reads
returns-in_err-sites-clause-reads g c is = c.in_err-sites.ensures.reads (err_is c.from_residual.result _ c.from_residual.ensures.1 is)
    (g.W.Write.contents c.args.out.now)

pub returns-in_err-run_world-clause-reads : goal.returns-in_err-run_world-clause-reads
returns-in_err-run_world-clause-reads g c is =
    let started = rw c.in-Some.is at c.in_ok-sites.ensures.ran in
    broke_script 999999 c.in-Some.sites (g.R.Read.remaining c.args.reader.now) (g.R.Read.remaining c.read_start.new.reader)
    (g.R.Read.remaining c.run_world.new.reader) (g.W.Write.contents c.args.out.now) (g.W.Write.contents c.run_world.new.out) started
    (c.in_err-run_world.ensures.reads (err_is c.from_residual-in_err-run_world.result _ c.from_residual-in_err-run_world.ensures.1 is))

pub returns-in_err-reply_line-clause-reads : goal.returns-in_err-reply_line-clause-reads
returns-in_err-reply_line-clause-reads g c is = absurd
    (not_out c.from_residual-in_err-reply_line.result Write c.from_residual-in_err-reply_line.ensures.1 tt is)
