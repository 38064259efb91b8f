use Rattle.std.proofs.Common.{◌≡◌, subst, rules}
use Rattle.plain_words.specs.Writing.{AppendsFront}
use Rattle.plain_words.proofs.WriteLaws.{Writes-err}
use Rattle.desk_lines.specs.Reading.{line_of}
use Rattle.desk_lines.specs.ScriptReplies.{script_reply_line}
use Rattle.operator_cli.specs.Answering.{answer_to}
use Rattle.operator_cli.proofs.world.reply.Goals as goal

pub returns-in_err-write_answer-clause-written : goal.returns-in_err-write_answer-clause-written
returns-in_err-write_answer-clause-written g c =
    let answer : c.in_ok-answer.answer ≡ (answer_to c.args.world.now (line_of c.args.line.now)).0 = search rules in
    Writes-err _ _ c.from_residual-in_err-write_answer.result _ c.from_residual-in_err-write_answer.ensures.0
    (subst (λ a. AppendsFront (g.W.Write.contents c.args.out.now) (g.W.Write.contents c.write_answer.new.out) (script_reply_line a)) answer
    c.in_err-write_answer.ensures)
