use Rattle.operator_cli.specs.Ran.{SecondRan}
use Rattle.operator_cli.proofs.BreakLaws.{broke_second, not_out, err_is}
use Rattle.operator_cli.proofs.ScriptLaws.{at_err, second_unopened, second_broken, second_without_totals, second_done}
use Rattle.operator_cli.proofs.world.run_second.Goals as goal

pub returns-in_err-world-clause-ran : goal.returns-in_err-world-clause-ran
returns-in_err-world-clause-ran g c =
    at_err c.from_residual.result (SecondRan 999998 c.args.sites c.args.line.now (g.R.Read.remaining c.args.reader.now) (g.W.Write.contents c.args.out.now)
    (g.W.Write.contents c.open_world.new.out)) _ c.from_residual.ensures.1
    (λ f e. rw e (second_unopened 999998 c.args.sites c.args.line.now _ _ _ _ c.in_err-world.ensures))

pub returns-in_err-reply_all-clause-ran : goal.returns-in_err-reply_all-clause-ran
returns-in_err-reply_all-clause-ran g c =
    at_err c.from_residual-in_err-reply_all.result
    (SecondRan 999998 c.args.sites c.args.line.now (g.R.Read.remaining c.args.reader.now) (g.W.Write.contents c.args.out.now)
    (g.W.Write.contents c.reply_all.new.out)) _ c.from_residual-in_err-reply_all.ensures.1
    (λ f e. rw e (second_broken 999998 c.args.sites c.args.line.now _ _ _ _ c.in_ok-world.world c.reply_all.new.world _ c.in_ok-world.ensures
    c.in_err-reply_all.ensures.ran))

pub returns-in_err-write_totals-clause-ran : goal.returns-in_err-write_totals-clause-ran
returns-in_err-write_totals-clause-ran g c =
    at_err c.from_residual-in_err-write_totals.result
    (SecondRan 999998 c.args.sites c.args.line.now (g.R.Read.remaining c.args.reader.now) (g.W.Write.contents c.args.out.now)
    (g.W.Write.contents c.write_totals.new.out)) _ c.from_residual-in_err-write_totals.ensures.1
    (λ f e. rw e (second_without_totals 999998 c.args.sites c.args.line.now _ _ _ _ _ c.in_ok-world.world c.reply_all.new.world _ c.in_ok-world.ensures
    c.in_ok-reply_all.ensures.ran c.in_err-write_totals.ensures.lines c.in_err-write_totals.ensures.fault))

pub returns-clause-ran : goal.returns-clause-ran
returns-clause-ran g c = second_done 999998 c.args.sites c.args.line.now _ _ _ _ _ c.in_ok-world.world c.reply_all.new.world c.in_ok-world.ensures
    c.in_ok-reply_all.ensures.ran c.in_ok-write_totals.ensures.lines

pub returns-in_err-world-clause-reads : goal.returns-in_err-world-clause-reads
returns-in_err-world-clause-reads g c is = absurd (not_out c.from_residual.result _ c.from_residual.ensures.1 c.in_err-world.ensures.0 is)

pub returns-in_err-reply_all-clause-reads : goal.returns-in_err-reply_all-clause-reads
returns-in_err-reply_all-clause-reads g c is =
    broke_second 999998 c.args.sites c.args.line.now (g.R.Read.remaining c.args.reader.now) (g.R.Read.remaining c.reply_all.new.reader)
    (g.W.Write.contents c.args.out.now) (g.W.Write.contents c.open_world.new.out) (g.W.Write.contents c.reply_all.new.out)
    c.in_ok-world.world c.in_ok-world.ensures
    (c.in_err-reply_all.ensures.reads (err_is c.from_residual-in_err-reply_all.result _ c.from_residual-in_err-reply_all.ensures.1 is))

pub returns-in_err-write_totals-clause-reads : goal.returns-in_err-write_totals-clause-reads
returns-in_err-write_totals-clause-reads g c is = absurd
    (not_out c.from_residual-in_err-write_totals.result _ c.from_residual-in_err-write_totals.ensures.1 c.in_err-write_totals.ensures.fault is)
