use Rattle.std.proofs.Common.{◌∙◌}
use Rattle.delta_mutators.specs.declared.delta.Item.TheVariants as item
use Rattle.delta_wire.specs.Grammar.{IsItem}
use Rattle.delta_wire.specs.Parts.{mark_line}
use Rattle.plain_words.proofs.WriteLaws.{Writes-err}
use Rattle.plain_words.proofs.TextLaws.{all_more}
use Rattle.delta_wire.proofs.Prefixes.{one_written, one_failed}
use Rattle.delta_wire.proofs.writing.write_marks.Goals as goal

pub marks-preserved : goal.marks-preserved
marks-preserved g c = record {
  written = one_written mark_line c.args.marks.now c.marks.mark-index c.mark-item.result _ _ _ c.as_slice.result.now c.marks-test.true c.mark-item.is
      (c.as_slice.ensures.value ∙ c.mark_text-line.ensures.text) c.marks.invariant.written c.in_ok-write_bytes.ensures;
  fit = all_more (λ m. IsItem (item.Cell m)) c.args.marks.now c.marks.mark-index c.mark-item.result c.marks-test.true c.mark-item.is c.marks.invariant.fit
      c.mark_text-line.ensures.fits;
}

pub returns-in_err-write_bytes-clause-text : goal.returns-in_err-write_bytes-clause-text
returns-in_err-write_bytes-clause-text g c =
    Writes-err _ _ c.from_residual.result _ c.from_residual.ensures.0
    (one_failed mark_line c.args.marks.now c.marks.mark-index c.mark-item.result _ _ _ c.as_slice.result.now c.marks-test.true c.mark-item.is
    (c.as_slice.ensures.value ∙ c.mark_text-line.ensures.text) c.marks.invariant.written c.in_err-write_bytes.ensures)
