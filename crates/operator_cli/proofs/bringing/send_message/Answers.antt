use Rattle.std.specs.Prelude.{codes}
use Rattle.std.proofs.KnownBytes.{Appends-trans}
use Rattle.plain_words.proofs.WriteLaws.{AppendsFront-after, AppendsFront-longer, Writes-err}
use Rattle.delta_wire.specs.Grammar.{message_text}
use Rattle.operator_cli.specs.Visits.{import_question, line_text}
use Rattle.operator_cli.proofs.VisitLaws.{written_kept}
use Rattle.operator_cli.proofs.bringing.send_message.Goals as goal

pub returns-in_err-say-clause-sent : goal.returns-in_err-say-clause-sent
returns-in_err-say-clause-sent g c =
    Writes-err _ _ c.from_residual.result _ c.from_residual.ensures.0
    (AppendsFront-longer _ _ (line_text (codes "import")) (message_text c.args.message.now) c.in_err-say.ensures.said)

pub returns-in-Ok-clause-sent : goal.returns-in-Ok-clause-sent
returns-in-Ok-clause-sent g c =
    written_kept _ (g.Q.Write.contents c.write_message.new.out) _ c.reach.result (import_question c.args.message.now)
    (Appends-trans _ (g.Q.Write.contents c.say.new.questions) _ (line_text (codes "import")) (message_text c.args.message.now) c.in_ok-say.ensures.said
    c.in-Ok.ensures.text) c.reach.ensures.kept

pub returns-in-Err-clause-sent : goal.returns-in-Err-clause-sent
returns-in-Err-clause-sent g c =
    AppendsFront-after _ (g.Q.Write.contents c.say.new.questions) _ (line_text (codes "import")) (message_text c.args.message.now) c.in_ok-say.ensures.said
    c.in-Err.ensures.text
