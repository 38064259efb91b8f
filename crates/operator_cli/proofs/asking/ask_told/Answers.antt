use Rattle.std.proofs.Common.{inl, refl, sym, subst, ◌∙◌}
use Rattle.std.specs.Prelude.{Result}
use Rattle.operator_cli.specs.declared.status.Status.{Status}
use Rattle.operator_cli.specs.declared.command_fault.CommandFault.{CommandFault}
use Rattle.operator_cli.specs.Asking.{EndsSo}
use Rattle.operator_cli.proofs.AskLaws.{end_done}
use Rattle.operator_cli.proofs.EndLaws.{nothing_told}
use Rattle.operator_cli.proofs.asking.ask_told.Goals as goal

pub returns-in-Ok-clause-status : goal.returns-in-Ok-clause-status
returns-in-Ok-clause-status g c = inl (end_done c.ask_over.result c.in-Ok.status (sym c.visit_end.ensures ∙ c.in-Ok.is))

pub returns-in-Ok-clause-err : goal.returns-in-Ok-clause-err
returns-in-Ok-clause-err g c = nothing_told (g.E.Write.contents c.args.err.now) c.in-Ok.status

pub returns-in-Ok-clause-asked : goal.returns-in-Ok-clause-asked
returns-in-Ok-clause-asked g c =
    let err = g.E.Write.contents c.args.err.now in record {
      came = c.ask_over.result;
      left = g.A.Read.remaining c.ask_over.new.answers;
      asked_all = c.ask_over.ensures;
      ends_so = subst (λ (v : Result Status CommandFault). EndsSo v err err c.in-Ok.status) (sym c.in-Ok.is ∙ c.visit_end.ensures) (refl, refl);
    }

pub returns-in-Err-clause-asked : goal.returns-in-Err-clause-asked
returns-in-Err-clause-asked g c = record {
  came = c.ask_over.result;
  left = g.A.Read.remaining c.ask_over.new.answers;
  asked_all = c.ask_over.ensures;
  ends_so = subst (λ (v : Result Status CommandFault). EndsSo v (g.E.Write.contents c.args.err.now) (g.E.Write.contents c.tell_fault.new.err)
      c.tell_fault.result) (sym c.in-Err.is ∙ c.visit_end.ensures) (c.tell_fault.ensures.status, c.tell_fault.ensures.line);
}
