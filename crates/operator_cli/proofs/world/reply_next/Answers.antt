use Rattle.std.proofs.Common.{refl}
use Rattle.operator_cli.specs.Ran.{NextRan}
use Rattle.operator_cli.specs.Script.{answers}
use Rattle.operator_cli.proofs.BreakLaws.{broke_here, not_out}
use Rattle.operator_cli.proofs.ScriptLaws.{at_err, next_unread, reply_broken}
use Rattle.operator_cli.proofs.world.reply_next.Goals as goal

pub returns-in_err-next_line-clause-ran : goal.returns-in_err-next_line-clause-ran
returns-in_err-next_line-clause-ran g c =
    let world = c.args.world.now in
    at_err c.from_residual.result (NextRan (g.R.Read.remaining c.args.reader.now) (g.R.Read.remaining c.next_line.new.reader)
    (g.W.Write.contents c.args.out.now) (g.W.Write.contents c.args.out.now) world world) _ c.from_residual.ensures.1
    (λ f e. rw e (next_unread world _ _ _ c.next_line.new.line.items _ c.in_err-next_line.ensures))

pub returns-in_err-reply-clause-ran : goal.returns-in_err-reply-clause-ran
returns-in_err-reply-clause-ran g c =
    let given = rw c.if-not-branch.false at c.in_ok-next_line.ensures in
    let written = rw c.as_slice.ensures.value at c.in_err-reply.ensures.written in
    at_err c.from_residual-in_err-reply.result
    (NextRan (g.R.Read.remaining c.args.reader.now) (g.R.Read.remaining c.next_line.new.reader) (g.W.Write.contents c.args.out.now)
    (g.W.Write.contents c.reply.new.out) c.args.world.now c.reply.new.world) _ c.from_residual-in_err-reply.ensures.1
    (λ f e. rw e (reply_broken _ _ _ _ c.args.world.now c.next_line.new.line.items _ given.0 given.1 written c.in_err-reply.ensures.fault))

pub returns-in_err-next_line-clause-reads : goal.returns-in_err-next_line-clause-reads
returns-in_err-next_line-clause-reads g c is =
    broke_here 0 (answers c.args.world.now) (g.R.Read.remaining c.args.reader.now) (g.R.Read.remaining c.next_line.new.reader)
    (g.W.Write.contents c.args.out.now) c.next_line.new.line.items _ c.from_residual.result refl c.in_err-next_line.ensures c.from_residual.ensures.1 is

pub returns-in_err-reply-clause-reads : goal.returns-in_err-reply-clause-reads
returns-in_err-reply-clause-reads g c is = absurd
    (not_out c.from_residual-in_err-reply.result _ c.from_residual-in_err-reply.ensures.1 c.in_err-reply.ensures.fault is)
