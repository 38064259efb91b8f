use Rattle.std.proofs.Common.{◌≡◌, ◌∙◌, Result, ℕ, List, subst}
use Rattle.std.specs.Io.KnownBytes.{Appends}
use Rattle.local_rights.specs.declared.seat_totals.Totals.{Totals}
use Rattle.operator_cli.specs.Script.{total_line}
use Rattle.plain_words.specs.Writing.{AppendsFront}
use Rattle.std.specs.Prelude.{IfErr}
use Rattle.operator_cli.specs.declared.status.Status.{Status}
use Rattle.operator_cli.specs.declared.command_fault.CommandFault.{CommandFault}
use Rattle.operator_cli.specs.declared.command_fault.CommandFault.TheVariants.{Write as WriteFailed}
use Rattle.operator_cli.specs.Audited.{sum_lines}
use Rattle.operator_cli.proofs.ScriptLaws.{at_err}
use Rattle.plain_words.proofs.TextLaws.{texts_break_off, texts_go_on}
use Rattle.operator_cli.proofs.audit.write_sums.Goals as goal

line : List ℕ × Totals → List ℕ
line sum = total_line sum.0 sum.1

pub sums-preserved : goal.sums-preserved
unfolding line
sums-preserved g c =
    let out : Appends (g.W.Write.contents c.sums.out) (g.W.Write.contents c.write_line.new.out) (line c.sums-item.result) =
    subst (Appends (g.W.Write.contents c.sums.out) (g.W.Write.contents c.write_line.new.out)) c.total_line.ensures c.in_ok-write_line.ensures.written in
    texts_go_on _ _ _ line c.args.sums.now c.sums.event-index c.sums-item.result c.sums-test.true c.sums-item.is c.sums.invariant out

pub returns-in_err-write_line-clause-fault : goal.returns-in_err-write_line-clause-fault
unfolding line
returns-in_err-write_line-clause-fault g c =
    let out : AppendsFront (g.W.Write.contents c.sums.out) (g.W.Write.contents c.write_line.new.out) (line c.sums-item.result) =
    subst (AppendsFront (g.W.Write.contents c.sums.out) (g.W.Write.contents c.write_line.new.out)) c.total_line.ensures c.in_err-write_line.ensures.written in
    at_err c.from_residual.result (λ (r : Result Status CommandFault).
    IfErr r (λ fault. (fault ≡ WriteFailed)
    × AppendsFront (g.W.Write.contents c.args.out.now) (g.W.Write.contents c.write_line.new.out) (sum_lines c.args.sums.now))) _
    c.from_residual.ensures.1
    (λ f e. (
      e ∙ c.in_err-write_line.ensures.fault,
      texts_break_off _ _ _ line c.args.sums.now c.sums.event-index c.sums-item.result c.sums-test.true
          c.sums-item.is c.sums.invariant out,
    ))
