use Rattle.std.proofs.Common.{◌≡◌, ◌⊎◌, ◌∙◌, sym, Result, Ok, Err}
use Rattle.std.specs.Prelude.{MatchResult, OnOk}
use Rattle.plain_words.proofs.WriteLaws.{AppendsFront-kept}
use Rattle.operator_cli.proofs.EndLaws.{front_written}
use Rattle.operator_cli.specs.Offices.{open_line}
use Rattle.operator_cli.specs.Session.{KeepsHistory}
use Rattle.operator_cli.specs.declared.status.Status.{Status}
use Rattle.operator_cli.specs.declared.status.Status.TheVariants.{Done, Failed}
use Rattle.operator_cli.specs.declared.command_fault.CommandFault.{CommandFault}
use Rattle.operator_cli.proofs.copies.office_site.Goals as goal

-- only what did not fail is done
done_so : (came : Result Status CommandFault) (status : Status) (P : Type 0) → OnOk came P
    → MatchResult came (λ s. (status ≡ s) ⊎ (status ≡ Failed)) (λ _. status ≡ Failed) → status ≡ Done → P
done_so (Ok s) status P p ended done = p
done_so (Err fault) status P p failed done = let bad : Done ≡ Failed = sym done ∙ failed in cc

pub returns-in-Ok-clause-holds : goal.returns-in-Ok-clause-holds
returns-in-Ok-clause-holds g c = λ done. done_so c.office_end.result c.ended-in-Ok.result (KeepsHistory g.K.Keeper c.in-Ok.book) c.office_end.ensures.holds
    c.ended-in-Ok.ensures.status done

pub returns-in-Ok-clause-line : goal.returns-in-Ok-clause-line
returns-in-Ok-clause-line g c =
    AppendsFront-kept (g.W.Write.contents c.args.out.now) (g.W.Write.contents c.say_open.new.out) (g.W.Write.contents c.ended-in-Ok.new.out)
    (open_line c.args.port c.args.file.now)
    (front_written (g.W.Write.contents c.args.out.now) (g.W.Write.contents c.say_open.new.out) c.say_open.result
    (open_line c.args.port c.args.file.now) c.say_open.ensures.written) c.ended-in-Ok.ensures.kept

pub returns-in-Err-open_office-clause-line : goal.returns-in-Err-open_office-clause-line
returns-in-Err-open_office-clause-line g c =
    AppendsFront-kept (g.W.Write.contents c.args.out.now) (g.W.Write.contents c.say_open.new.out) (g.W.Write.contents c.ended-in-Err-open_office.new.out)
    (open_line c.args.port c.args.file.now)
    (front_written (g.W.Write.contents c.args.out.now) (g.W.Write.contents c.say_open.new.out) c.say_open.result
    (open_line c.args.port c.args.file.now) c.say_open.ensures.written) c.ended-in-Err-open_office.ensures.kept
