use Rattle.std.proofs.Common.{ℕ, List, Option, inr, refl, subst}
use Rattle.operator_cli.specs.Opened.{FailsFor}
use Rattle.operator_cli.specs.declared.command_fault.CommandFault.TheVariants as fault
use Rattle.operator_cli.specs.Visits.{IsBringEnd, IsBroughtText, question_of_bytes}
use Rattle.operator_cli.proofs.VisitLaws.{asks_nothing_of, failed_prints, fails_with, memory_end, not_read_yet, some_when_failed}
use Rattle.operator_cli.proofs.bringing.import_office.Goals as goal

pub returns-in_default-clause-asked : goal.returns-in_default-clause-asked
returns-in_default-clause-asked g c = asks_nothing_of (g.R.Read.remaining c.args.input) (g.Q.Write.contents c.args.questions.now) question_of_bytes

pub returns-in_default-clause-whole : goal.returns-in_default-clause-whole
returns-in_default-clause-whole g c = some_when_failed (g.R.Read.remaining c.args.input) _ c.tell_fault.result c.tell_fault.ensures.status

pub returns-in_default-clause-printed : goal.returns-in_default-clause-printed
returns-in_default-clause-printed g c =
    failed_prints (IsBroughtText (g.R.Read.remaining c.args.input) (g.A.Read.remaining c.args.answers)) (g.W.Write.contents c.args.out.now)
    (g.W.Write.contents c.args.out.now) c.tell_fault.result c.tell_fault.ensures.status

pub returns-in_default-clause-cause : goal.returns-in_default-clause-cause
returns-in_default-clause-cause g c =
    fails_with (IsBringEnd (g.A.Read.remaining c.args.answers)) (g.E.Write.contents c.args.err.now) (g.E.Write.contents c.tell_fault.new.err) fault.Memory
    c.tell_fault.result (inr (memory_end (g.A.Read.remaining c.args.answers) fault.Memory refl)) c.tell_fault.ensures.line

pub returns-clause-cause : goal.returns-clause-cause
returns-clause-cause g c =
    subst (λ (sent : Option (List ℕ)). FailsFor (IsBringEnd sent) (g.E.Write.contents c.args.err.now) (g.E.Write.contents c.bring_over.new.err)
    c.bring_over.result)
    (not_read_yet g.A.Read.remaining c.in-Ok.buffered c.args.answers c.in-Ok.ensures.inner c.in-Ok.ensures.empty c.in-Ok.ensures.capacity)
    c.bring_over.ensures.cause
