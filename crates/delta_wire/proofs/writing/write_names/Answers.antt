use Rattle.std.proofs.Common.{◌∙◌}
use Rattle.delta_mutators.specs.declared.delta.Item.TheVariants as item
use Rattle.delta_wire.specs.Grammar.{IsItem}
use Rattle.delta_wire.specs.Parts.{name_line}
use Rattle.plain_words.proofs.WriteLaws.{Writes-err}
use Rattle.plain_words.proofs.TextLaws.{all_more}
use Rattle.delta_wire.proofs.Prefixes.{one_written, one_failed}
use Rattle.delta_wire.proofs.writing.write_names.Goals as goal

pub names-preserved : goal.names-preserved
names-preserved g c = record {
  written = one_written name_line c.args.names.now c.names.name-index c.name-item.result _ _ _ c.as_slice.result.now c.names-test.true c.name-item.is
      (c.as_slice.ensures.value ∙ c.name_text-line.ensures.text) c.names.invariant.written c.in_ok-write_bytes.ensures;
  fit = all_more (λ n. IsItem (item.Name n)) c.args.names.now c.names.name-index c.name-item.result c.names-test.true c.name-item.is c.names.invariant.fit
      c.name_text-line.ensures.fits;
}

pub returns-in_err-write_bytes-clause-text : goal.returns-in_err-write_bytes-clause-text
returns-in_err-write_bytes-clause-text g c =
    Writes-err _ _ c.from_residual.result _ c.from_residual.ensures.0
    (one_failed name_line c.args.names.now c.names.name-index c.name-item.result _ _ _ c.as_slice.result.now c.names-test.true c.name-item.is
    (c.as_slice.ensures.value ∙ c.name_text-line.ensures.text) c.names.invariant.written c.in_err-write_bytes.ensures)
