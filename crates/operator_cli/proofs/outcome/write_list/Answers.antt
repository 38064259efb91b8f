use Rattle.std.proofs.Common.{arith, ◌≡◌, ◌∙◌, Result, subst, sym}
use Rattle.std.specs.Io.KnownBytes.{Appends}
use Rattle.plain_words.specs.Writing.{AppendsFront}
use Rattle.plain_words.proofs.TextLaws.{texts_break_off, texts_go_on}
use Rattle.live_office.specs.RecordLines.{row_line}
use Rattle.operator_cli.specs.declared.status.Status.{Status}
use Rattle.operator_cli.specs.declared.command_fault.CommandFault.{CommandFault}
use Rattle.operator_cli.specs.Outcomes.{WritesAs, list_status, list_text}
use Rattle.operator_cli.proofs.CommandLaws.{list_is}
use Rattle.operator_cli.proofs.ScriptLaws.{at_err}
use Rattle.operator_cli.proofs.outcome.write_list.Goals as goal

pub rows-preserved : goal.rows-preserved
rows-preserved g c =
    let out : Appends (g.W.Write.contents c.rows.out) (g.W.Write.contents c.write_line.new.out) (row_line c.row-item.result) =
    subst (Appends (g.W.Write.contents c.rows.out) (g.W.Write.contents c.write_line.new.out)) c.listed_line-line.ensures.value
    c.in_ok-write_line.ensures.written in
    texts_go_on _ _ _ row_line c.args.rows.now c.rows.row-index c.row-item.result c.rows-test.true c.row-item.is c.rows.invariant out

pub returns-in_err-write_line : goal.returns-in_err-write_line
returns-in_err-write_line g c =
    let rows = c.args.rows.now in
    let before = g.W.Write.contents c.args.out.now in
    let between = g.W.Write.contents c.rows.out in
    let after = g.W.Write.contents c.write_line.new.out in
    let out : AppendsFront between after (row_line c.row-item.result) = subst (AppendsFront between after) c.listed_line-line.ensures.value
    c.in_err-write_line.ensures.written in
    let front = subst (AppendsFront before after) (sym (list_is rows (omega (arith, c.rows-test.true))))
    (texts_break_off _ _ _ row_line rows c.rows.row-index c.row-item.result c.rows-test.true c.row-item.is c.rows.invariant out) in
    at_err c.from_residual.result (λ (r : Result Status CommandFault). WritesAs (list_text rows) (list_status rows) before after r) _
    c.from_residual.ensures.1 (λ f e. (front, e ∙ c.in_err-write_line.ensures.fault))
