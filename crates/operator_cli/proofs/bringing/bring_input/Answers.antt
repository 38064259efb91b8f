use Rattle.std.proofs.Common.{inl, inr, refl, subst, sym}
use Rattle.std.specs.Prelude.{Result}
use Rattle.std.proofs.lemmas.Result.{IfErr-weaker}
use Rattle.operator_cli.specs.Visits.{IsBringEnd, IsBroughtText, IsVisitEnd, question_of_bytes}
use Rattle.operator_cli.specs.declared.told.CommandReply.TheVariants.{TooLong}
use Rattle.operator_cli.proofs.EndLaws.{for_write}
use Rattle.operator_cli.proofs.PrintLaws.{told_printed}
use Rattle.operator_cli.proofs.VisitLaws.{asks_nothing_of, input_printed, long_asks, long_is_told, memory_end, write_end}
use Rattle.operator_cli.proofs.bringing.bring_input.Goals as goal

pub returns-in-Ok-None-clause-asked : goal.returns-in-Ok-None-clause-asked
returns-in-Ok-None-clause-asked g c = asks_nothing_of (g.R.Read.remaining c.args.input) (g.Q.Write.contents c.args.questions.now) question_of_bytes

pub returns-in-Err-clause-asked : goal.returns-in-Err-clause-asked
returns-in-Err-clause-asked g c = asks_nothing_of (g.R.Read.remaining c.args.input) (g.Q.Write.contents c.args.questions.now) question_of_bytes

pub returns-in-Ok-None-clause-cause : goal.returns-in-Ok-None-clause-cause
returns-in-Ok-None-clause-cause g c =
    for_write c.tell.result (IsBringEnd (g.A.Read.remaining c.args.answers.now)) c.tell.ensures.fault
    (inr (write_end (g.A.Read.remaining c.args.answers.now) _ refl))
