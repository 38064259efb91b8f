use Rattle.std.proofs.Common.{arith, ◌≡◌, ◌∙◌, Result, subst, sym}
use Rattle.std.specs.Io.KnownBytes.{Appends}
use Rattle.plain_words.specs.Writing.{AppendsFront}
use Rattle.plain_words.proofs.TextLaws.{texts_break_off, texts_go_on}
use Rattle.live_office.specs.RecordLines.{event_line}
use Rattle.operator_cli.specs.declared.status.Status.{Status}
use Rattle.operator_cli.specs.declared.command_fault.CommandFault.{CommandFault}
use Rattle.operator_cli.specs.Outcomes.{WritesAs, known_status, known_text}
use Rattle.operator_cli.proofs.CommandLaws.{known_is}
use Rattle.operator_cli.proofs.ScriptLaws.{at_err}
use Rattle.operator_cli.proofs.outcome.write_known.Goals as goal

pub events-preserved : goal.events-preserved
events-preserved g c =
    let out : Appends (g.W.Write.contents c.events.out) (g.W.Write.contents c.write_line.new.out) (event_line c.event-item.result) =
    subst (Appends (g.W.Write.contents c.events.out) (g.W.Write.contents c.write_line.new.out)) c.event_line-line.ensures.value
    c.in_ok-write_line.ensures.written in
    texts_go_on _ _ _ event_line c.args.events.now c.events.event-index c.event-item.result c.events-test.true c.event-item.is c.events.invariant out

pub returns-in_err-write_line : goal.returns-in_err-write_line
returns-in_err-write_line g c =
    let rows = c.args.events.now in
    let before = g.W.Write.contents c.args.out.now in
    let between = g.W.Write.contents c.events.out in
    let after = g.W.Write.contents c.write_line.new.out in
    let out : AppendsFront between after (event_line c.event-item.result) = subst (AppendsFront between after) c.event_line-line.ensures.value
    c.in_err-write_line.ensures.written in
    let front = subst (AppendsFront before after) (sym (known_is rows (omega (arith, c.events-test.true))))
    (texts_break_off _ _ _ event_line rows c.events.event-index c.event-item.result c.events-test.true c.event-item.is c.events.invariant out) in
    at_err c.from_residual.result (λ (r : Result Status CommandFault). WritesAs (known_text rows) (known_status rows) before after r) _
    c.from_residual.ensures.1 (λ f e. (front, e ∙ c.in_err-write_line.ensures.fault))
