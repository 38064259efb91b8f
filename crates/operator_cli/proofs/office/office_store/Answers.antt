use Rattle.std.proofs.Common.{◌≡◌, ◌⊎◌, inl, inr, ◌∙◌}
use Rattle.std.specs.Prelude.{Result, Ok, Err, IfOk, MatchResult}
use Rattle.std.proofs.KnownBytes.{Appends-kept}
use Rattle.plain_words.proofs.WriteLaws.{AppendsFront-kept}
use Rattle.operator_cli.proofs.EndLaws.{front_written}
use Rattle.operator_cli.specs.declared.status.Status.{Status}
use Rattle.operator_cli.specs.declared.status.Status.TheVariants.{Done, Failed}
use Rattle.operator_cli.specs.declared.command_fault.CommandFault.{CommandFault}
use Rattle.operator_cli.specs.Offices.{open_line}
use Rattle.operator_cli.proofs.office.office_store.Goals as goal

done_or_failed : (came : Result Status CommandFault) (status : Status) → IfOk came (λ s. s ≡ Done)
    → MatchResult came (λ s. (status ≡ s) ⊎ (status ≡ Failed)) (λ _. status ≡ Failed) → (status ≡ Done) ⊎ (status ≡ Failed)
done_or_failed (Ok s) status is (inl same) = inl (same ∙ is)
done_or_failed (Ok s) status is (inr failed) = inr failed
done_or_failed (Err fault) status is failed = inr failed

pub returns-in-Ok-clause-line : goal.returns-in-Ok-clause-line
returns-in-Ok-clause-line g c =
    AppendsFront-kept (g.W.Write.contents c.args.out.now) (g.W.Write.contents c.say_open.new.out) (g.W.Write.contents c.close_book-in-Ok.new.out)
    (open_line c.args.port c.args.file.now)
    (front_written (g.W.Write.contents c.args.out.now) (g.W.Write.contents c.say_open.new.out) c.say_open.result
    (open_line c.args.port c.args.file.now) c.say_open.ensures.written) c.close_book-in-Ok.ensures.kept

pub returns-in-Ok-clause-all : goal.returns-in-Ok-clause-all
returns-in-Ok-clause-all g c =
    λ done. Appends-kept (g.W.Write.contents c.args.out.now) (g.W.Write.contents c.say_open.new.out) (g.W.Write.contents c.close_book-in-Ok.new.out)
    (open_line c.args.port c.args.file.now) c.in_default.ensures.written c.close_book-in-Ok.ensures.kept

pub returns-in-Ok-clause-status : goal.returns-in-Ok-clause-status
returns-in-Ok-clause-status g c = done_or_failed c.office_end.result c.close_book-in-Ok.result.0 c.office_end.ensures.done c.close_book-in-Ok.ensures.status

pub returns-in-Err-open_office-clause-line : goal.returns-in-Err-open_office-clause-line
returns-in-Err-open_office-clause-line g c =
    AppendsFront-kept (g.W.Write.contents c.args.out.now) (g.W.Write.contents c.say_open.new.out)
    (g.W.Write.contents c.close_book-in-Err-open_office.new.out) (open_line c.args.port c.args.file.now)
    (front_written (g.W.Write.contents c.args.out.now) (g.W.Write.contents c.say_open.new.out) c.say_open.result
    (open_line c.args.port c.args.file.now) c.say_open.ensures.written) c.close_book-in-Err-open_office.ensures.kept
