use Rattle.std.proofs.Common.{rules, ◌≡◌, ◌<◌, ap, subst, List, ℕ, length}
use Rattle.std.specs.List.{flat_map}
use Rattle.std.specs.Io.KnownBytes.{Appends}
use Rattle.world_steps.specs.World.{totals_of, events_of}
use Rattle.plain_words.specs.Writing.{AppendsFront}
use Rattle.plain_words.proofs.WriteLaws.{Writes-err}
use Rattle.operator_cli.specs.Script.{total_line}
use Rattle.plain_words.proofs.TextLaws.{texts_break_off, texts_go_on}
use Rattle.operator_cli.proofs.totals.write_totals.Goals as goal

pub returns-in_err-write_bytes-clause-lines : goal.returns-in_err-write_bytes-clause-lines
returns-in_err-write_bytes-clause-lines g c =
    let world = c.args.world.now in
    let line = λ (event : List ℕ). total_line event (totals_of world event) in
    let items : c.deref-event-items.result.now ≡ events_of world = search rules in
    let text : c.as_slice.result.now ≡ line c.event-item.result = search rules in
    let within : c.loop-event.event-index < length c.deref-event-items.result.now = search rules in
    let out : AppendsFront (g.W.Write.contents c.loop-event.out) (g.W.Write.contents c.write_bytes.new.out) c.as_slice.result.now
    = c.in_err-write_bytes.ensures in
    Writes-err _ _ c.from_residual-in_err-write_bytes.result _ c.from_residual-in_err-write_bytes.ensures.0
    (subst (AppendsFront (g.W.Write.contents c.args.out.now) (g.W.Write.contents c.write_bytes.new.out)) (ap (flat_map line) items)
    (texts_break_off _ _ _ line c.deref-event-items.result.now c.loop-event.event-index c.event-item.result within c.event-item.is c.loop-event.invariant
    (subst (AppendsFront _ _) text out)))

pub loop-event-preserved : goal.loop-event-preserved
loop-event-preserved g c =
    let line = λ (event : List ℕ). total_line event (totals_of c.args.world.now event) in
    let text : c.as_slice.result.now ≡ line c.event-item.result = search rules in
    let within : c.loop-event.event-index < length c.deref-event-items.result.now = search rules in
    let out : Appends (g.W.Write.contents c.loop-event.out) (g.W.Write.contents c.write_bytes.new.out) c.as_slice.result.now = c.in_ok-write_bytes.ensures in
    texts_go_on _ _ _ line c.deref-event-items.result.now c.loop-event.event-index c.event-item.result within c.event-item.is c.loop-event.invariant
    (subst (Appends _ _) text out)
